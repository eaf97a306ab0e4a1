-- The library's order of slices, and the order of lists of what the members stand for.
use Rattle.std.proofs.Common.{◌≡◌, ℕ, List, [], ◌∷◌, map, Less, Equal, Greater, refl}
use Rattle.std.specs.Cmp.Lexicographic.{slice_cmp}
use Rattle.std.specs.Ordering.{ordering_then, nat_cmp}
use Rattle.terms.specs.Compare.{Order, list_order}
use Rattle.terms.specs.Orders.{elem_order}
use Rattle.leaves.specs.Values.{elem_of}
use Rattle.leaves.specs.declared.pattern.PatternElem.{PatternElem}
use Rattle.leaves.specs.declared.pattern.PatternElem.TheVariants.{Scalar, Wildcard}

by_members : {A B : Type 0} (f : A → B) (o : Order B) (p : Order A) → ((x y : A) → p x y ≡ o (f x) (f y)) → (a b : List A) → slice_cmp p a b ≡ list_order o (map f a) (map f b)
by_members f o p h [] [] = refl
by_members f o p h [] (y ∷ b) = refl
by_members f o p h (x ∷ a) [] = refl
by_members f o p h (x ∷ a) (y ∷ b) = λ i. ordering_then (h x y i) (by_members f o p h a b i)

module _ (p : Order PatternElem) (ss : (m n : ℕ) → p (Scalar m) (Scalar n) ≡ nat_cmp m n) (sw : (m : ℕ) → p (Scalar m) Wildcard ≡ Less) (ws : (n : ℕ) → p Wildcard (Scalar n) ≡ Greater) (ww : p Wildcard Wildcard ≡ Equal) where
  elems : (x y : PatternElem) → p x y ≡ elem_order (elem_of x) (elem_of y)
  elems (Scalar m) (Scalar n) = ss m n
  elems (Scalar m) Wildcard = sw m
  elems Wildcard (Scalar n) = ws n
  elems Wildcard Wildcard = ww

  pub by_elems : (a b : List PatternElem) → slice_cmp p a b ≡ list_order elem_order (map elem_of a) (map elem_of b)
  by_elems = by_members elem_of elem_order p elems
