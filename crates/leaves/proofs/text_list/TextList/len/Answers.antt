use Rattle.std.proofs.Common.{length, sym, ap, ◌∙◌}
use lib.ListN.{length-map}
use Rattle.leaves.specs.Values.{read, texts_of}
use Rattle.leaves.proofs.text_list.TextList.len.Goals as goal

pub returns-in-Given : goal.returns-in-Given
returns-in-Given c = sym (length-map c.in-Given.texts.now (λ x. x.now)) ∙ ap (λ l. length (texts_of l)) (sym c.in-Given.is)

pub returns-in-Kept : goal.returns-in-Kept
returns-in-Kept c = sym (length-map c.in-Kept.spans.now (read c.in-Kept.field-0.now)) ∙ ap (λ l. length (texts_of l)) (sym c.in-Kept.is)
