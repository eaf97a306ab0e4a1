-- Texts as the code has them: their bytes, and their order.
use Rattle.std.specs.Cmp.{IsTotalOrder, IsPartialEquivalence, IsEquivalence, eq_by_cmp_equiv, partial_equiv_from_equiv, on_total}
use Rattle.std.specs.Ordering.{eq_by_cmp}
use Rattle.terms.specs.Compare.{Order, by}
use Rattle.terms.specs.Orders.{text_order}
use Rattle.terms.specs.Terms as model
use Rattle.terms.proofs.Lawful.{to_total}
use Rattle.terms.proofs.LeafLaws.{text_laws}
use Rattle.leaves.specs.declared.text.Text.{Text}

-- the bytes of a text
abbrev pub text_of : Text → model.Text
text_of t = t.0.now

-- texts by their bytes
abbrev pub text_cmp : Order Text
text_cmp = by text_of text_order

pub text_total : IsTotalOrder text_cmp
text_total = on_total text_of (to_total text_laws)

pub text_equiv : IsEquivalence (eq_by_cmp text_cmp)
text_equiv = eq_by_cmp_equiv text_total

pub text_partial : IsPartialEquivalence (eq_by_cmp text_cmp)
text_partial = partial_equiv_from_equiv text_equiv
