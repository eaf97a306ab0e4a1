-- One more member at a place of a list.
use Rattle.std.proofs.Common.{◌≡◌, ℕ, zero, suc, Bool, true, List, [], ◌∷◌, map, refl, ap}
use Rattle.std.specs.List.{insert}
use Rattle.std.proofs.lemmas.Bool.{and_parts, and_from}
use Rattle.model.specs.Checks.{every}

pub every_inserted : {A : Type 0} (f : A → Bool) (xs : List A) (i : ℕ) (x : A) → f x ≡ true → every f xs ≡ true → every f (insert xs i x) ≡ true
every_inserted f [] zero x e h = and_from _ _ e refl
every_inserted f [] (suc i) x e h = and_from _ _ e refl
every_inserted f (y ∷ ys) zero x e h = and_from _ _ e h
every_inserted f (y ∷ ys) (suc i) x e h = let p = and_parts _ _ h in and_from _ _ p.0 (every_inserted f ys i x e p.1)

-- what the members of a list with one more stand for
pub map_inserted : {A B : Type 0} (f : A → B) (xs : List A) (i : ℕ) (x : A) → map f (insert xs i x) ≡ insert (map f xs) i (f x)
map_inserted f [] zero x = refl
map_inserted f [] (suc i) x = refl
map_inserted f (y ∷ ys) zero x = refl
map_inserted {B = B} f (y ∷ ys) (suc i) x = ap (λ (r : List B). f y ∷ r) (map_inserted f ys i x)
