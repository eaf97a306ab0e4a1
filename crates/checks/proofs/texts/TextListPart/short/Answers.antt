use Rattle.std.proofs.Common.{rules, ◌∙◌, tests}
use Rattle.std.proofs.lemmas.Iterator.Consumers.{YieldsList-from_first}
use Rattle.std.proofs.lemmas.Iterator.Search.{all_from_yields_List}
use Rattle.leaves.specs.Lists.{texts_left}
use Rattle.leaves.specs.Texts.{text_of}
use Rattle.leaves.specs.Values.{texts_of}
use Rattle.model.specs.Checks.{text_short}
use Rattle.checks.proofs.Lists.{every_all}
use Rattle.checks.proofs.texts.TextListPart.short.Goals as goal

pub returns : goal.returns
returns c =
    let ts = texts_of c.args.self in
    all_from_yields_List text_short _ _ _ c.all.ensures.ran (YieldsList-from_first text_of texts_left ts c.iter.ensures) (λ x b q k. search (rules, tests))
    ∙ every_all text_short ts
