use Rattle.std.proofs.Common.{◌∙◌}
use Rattle.terms.specs.Orders.{text_order, texts_order}
use Rattle.leaves.specs.Lists.{texts_left}
use Rattle.leaves.specs.Texts.{text_of}
use Rattle.leaves.proofs.Items.{by_items}
use Rattle.leaves.proofs.text_list.TextListOrd.cmp.Goals as goal

pub returns : goal.returns
returns c =
    by_items text_of texts_left text_order c.iter.result c.iter-2.result c.cmp.result c.cmp.ensures.ran
    ∙ (λ i. texts_order (c.iter.ensures i) (c.iter-2.ensures i))
