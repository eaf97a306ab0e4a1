-- The order of lists whose members stand for others.
use Rattle.std.proofs.Common.{◌≡◌, List, [], ◌∷◌, map, refl, ap}
use Rattle.std.specs.Ordering.{ordering_then}
use Rattle.terms.specs.Compare.{Order, by, list_order}

-- by what the members stand for, and of the lists of these
pub order_map : {A B : Type 0} (f : A → B) (o : Order B) (a b : List A) → list_order (by f o) a b ≡ list_order o (map f a) (map f b)
order_map f o [] [] = refl
order_map f o [] (y ∷ ys) = refl
order_map f o (x ∷ xs) [] = refl
order_map f o (x ∷ xs) (y ∷ ys) = ap (ordering_then (o (f x) (f y))) (order_map f o xs ys)
