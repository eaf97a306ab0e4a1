-- The order in which two iterators are compared, item by item, is that of the lists that they have left.
use Rattle.std.proofs.Common.{◌≡◌, List, [], ◌∷◌, Some, None, Option, MatchOption, Ordering, Less, Equal, Greater, sym, ap, ◌∙◌}
use Rattle.std.specs.Bool.{⊤}
use Rattle.std.specs.Iterator.{YieldsFirstBy, Yields, ComparesItemsByCmp}
use Rattle.std.specs.List.{AllZip}
use Rattle.std.specs.Ordering.{ordering_then, MatchOrdering}
use Rattle.terms.specs.Compare.{Order, list_order}

module _ {S A B : Type 0} (v : A → B) (rest : S → List B) (o : Order B) where
  abbrev Steps : S → Option A → S → Type 0
  Steps = YieldsFirstBy v rest

  abbrev Same : A → A → Type 0
  Same x y = o (v x) (v y) ≡ Equal

  abbrev Last : Ordering → Option A → Option A → Type 0
  Last r a b = MatchOption a (MatchOption b (r ≡ Equal) (λ _. r ≡ Less)) (λ x. MatchOption b (r ≡ Greater) (λ y. (r ≡ o (v x) (v y)) × MatchOrdering r ⊤ ⊥ ⊤))

  decides : (r c d : Ordering) → r ≡ c → MatchOrdering r ⊤ ⊥ ⊤ → r ≡ ordering_then c d
  decides Less c d e h = ap (λ k. ordering_then k d) e
  decides Equal c d e h = absurd h
  decides Greater c d e h = ap (λ k. ordering_then k d) e

  ends : (s t u w : S) (a b : Option A) (r : Ordering) → Steps s a u → Steps t b w → Last r a b → r ≡ list_order o (rest s) (rest t)
  ends s t u w None None r p q l = l ∙ sym (λ i. list_order o (p.0 i) (q.0 i))
  ends s t u w None (Some y) r p q l = l ∙ sym (λ i. list_order o (p.0 i) (q i))
  ends s t u w (Some x) None r p q l = l ∙ sym (λ i. list_order o (p i) (q.0 i))
  ends s t u w (Some x) (Some y) r p q l = decides r (o (v x) (v y)) (list_order o (rest u) (rest w)) l.0 l.1 ∙ sym (λ i. list_order o (p i) (q i))

  goes : (xs ys : List A) (s t u w : S) (r : Ordering) → Yields Steps s xs u → Yields Steps t ys w → AllZip Same xs ys → r ≡ list_order o (rest u) (rest w) → r ≡ list_order o (rest s) (rest t)
  goes [] [] s t u w r p q z e = e ∙ sym (λ i. list_order o (rest (p i)) (rest (q i)))
  goes [] (y ∷ ys) s t u w r p q z e = absurd z
  goes (x ∷ xs) [] s t u w r p q z e = absurd z
  goes (x ∷ xs) (y ∷ ys) s t u w r (j, a, p) (k, b, q) (c, z) e =
      goes xs ys j k u w r p q z e ∙ ap (λ m. ordering_then m (list_order o (rest j) (rest k))) (sym c) ∙ sym (λ i. list_order o (a i) (b i))

  -- what std's comparison of iterators answers
  pub by_items : (s other : S) (r : Ordering) → ComparesItemsByCmp Steps (λ x t. t ≡ x) Steps s other (λ x y. o (v x) (v y)) r → r ≡ list_order o (rest s) (rest other)
  by_items s other r (t, xs, ys, a, b, u, w, m, (s', p, p'), (t', q, q'), z, l) =
      goes xs ys s t s' t' r p q z (ends s' t' u w a b r p' q' l) ∙ ap (λ k. list_order o (rest s) (rest k)) m
