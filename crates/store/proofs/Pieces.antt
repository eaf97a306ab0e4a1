-- Parts of lists that grow, and tests of all members.
use Rattle.std.proofs.Common.{◌≡◌, ℕ, Bool, true, List, [], ◌∷◌, ◌++◌, map, length, take, drop, Some, None, Option, sym, refl, ap, ◌∙◌, arith}
use Rattle.std.proofs.lemmas.List.{drop_at, take_all}
use Rattle.std.proofs.lemmas.List.Folds.{list_all-append}
use Rattle.std.proofs.lemmas.Bool.{and_parts, and_from}
use Rattle.std.specs.Option.{option_map}
use Rattle.model.specs.Checks.{every, any}

module _ {X : Type 0} where
  -- those that were added last
  pub read_new : (xs new : List X) (i n : ℕ) → i ≡ length xs → n ≡ length new → take n (drop i (xs ++ new)) ≡ new
  read_new xs new i n e k = ap (take n) (drop_at xs new i (sym e)) ∙ take_all n new (omega arith)

  -- a test that all members of two lists pass
  pub every_push : (p : X → Bool) (xs ys : List X) → every p xs ≡ true → every p ys ≡ true → every p (xs ++ ys) ≡ true
  every_push p xs ys a b = list_all-append p xs ys ∙ and_from (every p xs) (every p ys) a b

  -- a test that follows from another
  pub every_stays : (p q : X → Bool) → ((x : X) → p x ≡ true → q x ≡ true) → (xs : List X) → every p xs ≡ true → every q xs ≡ true
  every_stays p q f [] a = a
  every_stays p q f (x ∷ xs) a = let h = and_parts (p x) (every p xs) a in and_from (q x) (every q xs) (f x h.0) (every_stays p q f xs h.1)

  -- functions that agree where a test passes
  pub map_same : {Y : Type 0} (p : X → Bool) (f g : X → Y) → ((x : X) → p x ≡ true → f x ≡ g x) → (xs : List X) → every p xs ≡ true → map f xs ≡ map g xs
  map_same p f g e [] a = refl
  map_same p f g e (x ∷ xs) a =
      let h = and_parts (p x) (every p xs) a in
      let i = e x h.0 in
      let j = map_same p f g e xs h.1 in
      cc

-- the same of what may be there
pub any_stays : {A : Type 0} (p q : A → Bool) → ((x : A) → p x ≡ true → q x ≡ true) → (o : Option A) → any p o ≡ true → any q o ≡ true
any_stays p q f None h = refl
any_stays p q f (Some x) h = f x h

pub mapped_same : {A B : Type 0} (p : A → Bool) (f g : A → B) → ((x : A) → p x ≡ true → f x ≡ g x) → (o : Option A) → any p o ≡ true → option_map f o ≡ option_map g o
mapped_same p f g e None h = refl
mapped_same p f g e (Some x) h = ap Some (e x h)
