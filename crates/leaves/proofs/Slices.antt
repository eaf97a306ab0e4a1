-- The order of two lists that are taken apart as first member and rest.
use Rattle.std.proofs.Common.{◌≡◌, ◌-◌, ◌<◌, ◌≤◌, List, [], ◌∷◌, length, get_or, take, drop, Ordering, Less, Equal, Greater, refl, ap, ◌∙◌, arith, take_all}
use Rattle.std.specs.Ordering.{ordering_then}
use Rattle.terms.specs.Compare.{Order, list_order}

-- what stands behind the first member, as the code takes it
abbrev pub rest : {A : Type 0} → List A → List A
rest a = take (length a - 1) (drop 1 a)

rest_of : {A : Type 0} (x : A) (xs : List A) → rest (x ∷ xs) ≡ xs
rest_of x xs = take_all (length (x ∷ xs) - 1) xs (omega arith)

module _ {A : Type 0} (o : Order A) where
  pub both_empty : (a b : List A) → length a ≤ 0 → length b ≤ 0 → Equal ≡ list_order o a b
  both_empty [] [] h k = refl
  both_empty [] (y ∷ ys) h k = absurd (omega arith)
  both_empty (x ∷ xs) b h k = absurd (omega arith)

  pub first_empty : (a b : List A) → length a ≤ 0 → 0 < length b → Less ≡ list_order o a b
  first_empty [] [] h k = absurd (omega arith)
  first_empty [] (y ∷ ys) h k = refl
  first_empty (x ∷ xs) b h k = absurd (omega arith)

  pub second_empty : (a b : List A) → 0 < length a → length b ≤ 0 → Greater ≡ list_order o a b
  second_empty [] b h k = absurd (omega arith)
  second_empty (x ∷ xs) [] h k = refl
  second_empty (x ∷ xs) (y ∷ ys) h k = absurd (omega arith)

  -- d and e: what the code read at the first place
  pub first_alike : (a b : List A) (d e : A) (r : Ordering) → 0 < length a → 0 < length b → Equal ≡ o (get_or a 0 d) (get_or b 0 e) → r ≡ list_order o (rest a) (rest b) → r ≡ list_order o a b
  first_alike [] b d e r h k q s = absurd (omega arith)
  first_alike (x ∷ xs) [] d e r h k q s = absurd (omega arith)
  first_alike (x ∷ xs) (y ∷ ys) d e r h k q s = s ∙ (λ i. list_order o (rest_of x xs i) (rest_of y ys i)) ∙ ap (λ p. ordering_then p (list_order o xs ys)) q
