-- Lists of texts as the code has them: what is left where one is gone through, and their order.
use Rattle.std.specs.Prelude.{List}
use Rattle.std.specs.Cmp.{IsTotalOrder, IsPartialEquivalence, IsEquivalence, eq_by_cmp_equiv, partial_equiv_from_equiv, on_total}
use Rattle.std.specs.Ordering.{eq_by_cmp}
use Rattle.terms.specs.Compare.{Order, by}
use Rattle.terms.specs.Orders.{texts_order}
use Rattle.terms.specs.Terms as model
use Rattle.terms.proofs.Lawful.{to_total}
use Rattle.terms.proofs.LeafLaws.{texts_laws}
use Rattle.leaves.specs.declared.text_list.TextList.{TextList}
use Rattle.leaves.specs.declared.text_list.Texts.{Texts}
use Rattle.leaves.specs.Values.{texts_of}

-- the texts that are left
abbrev pub texts_left : Texts → List model.Text
texts_left s = texts_of s.rest

-- lists by their texts
abbrev pub list_cmp : Order TextList
list_cmp = by texts_of texts_order

pub list_total : IsTotalOrder list_cmp
list_total = on_total texts_of (to_total texts_laws)

pub list_equiv : IsEquivalence (eq_by_cmp list_cmp)
list_equiv = eq_by_cmp_equiv list_total

pub list_partial : IsPartialEquivalence (eq_by_cmp list_cmp)
list_partial = partial_equiv_from_equiv list_equiv
