-- The ways in which a name is put.
use Rattle.std.proofs.Common.{◌≡◌, ℕ, ◌<◌, ◌≤◌, false, List, [], ◌∷◌, ◌++◌, map, length, get_or, take, drop, Ok, Err, Ordering, sym, ap, ◌∙◌, subst, vec_items, Vec, arith}
use Rattle.std.specs.List.{insert}
use Rattle.std.specs.declared.alloc.Global.{Global}
use Rattle.std.proofs.lemmas.List.{get_or-map, map-append, take-map, drop-map}
use Rattle.terms.specs.Terms.{Text}
use Rattle.terms.specs.Orders.{text_order}
use Rattle.terms.proofs.LeafLaws.{text_laws}
use Rattle.catalogue.specs.Placed.{placed, stands, Among}
use Rattle.catalogue.specs.Puts.{Placing, Puts, Settles}
use Rattle.catalogue.specs.declared.entry.Entry.TheVariants as entry
use Rattle.std.proofs.lemmas.Bool.Decides.{nat_tests}
use Rattle.catalogue.proofs.Places.{members_from, members_to, absent_among}

-- the answer of a comparison with the name at i, where us is how callers see vs
pub asked : (vs us : List (Vec ℕ Global)) (t s : Text) (i : ℕ) (e : Vec ℕ Global) (r : Ordering) → vs ≡ us → i < length us → e ≡ get_or vs i e → s ≡ vec_items e → r ≡ text_order t s → text_order t (get_or (map vec_items us) i []) ≡ r
asked vs us t s i e r v l h u q = ap (text_order t) (get_or-map vec_items us i e [] l ∙ ap (λ (ws : List (Vec ℕ Global)). vec_items (get_or ws i e)) (sym v) ∙ ap vec_items (sym h) ∙ sym u) ∙ sym q

-- a copy put in at the gap
pub kept : (vs after : List (Vec ℕ Global)) (ns : List Text) (t : Text) (i : ℕ) (v : Vec ℕ Global) → map vec_items vs ≡ ns → after ≡ insert vs i v → vec_items v ≡ t → Placing ns t (Err i) → map vec_items after ≡ placed text_order t ns
kept vs after ns t i v n a e p =
    ap (map vec_items) a
    ∙ map-append vec_items (take i vs) (v ∷ drop i vs)
    ∙ (λ j. sym (take-map vec_items i vs) j ++ (vec_items v ∷ sym (drop-map vec_items i vs) j))
    ∙ (λ j. insert (n j) i (e j))
    ∙ sym p.2

pub puts_kept : (ns after : List Text) (t : Text) → length t ≤ 512 → stands text_order t ns ≡ false → after ≡ placed text_order t ns → Puts ns t (Ok entry.Kept) after
puts_kept ns after t l s a = grind (arith, nat_tests, l, s, a)

pub settles_kept : (ns : List Text) (t : Text) (after : List Text) → stands text_order t ns ≡ false → after ≡ placed text_order t ns → Settles ns t (Ok entry.Kept) after
settles_kept ns t after s a =
    (absent_among text_laws t ns s, λ z. (λ m. members_from text_laws z t ns (subst (Among z) a m), λ m. subst (Among z) (sym a) (members_to text_laws z t ns m)))
