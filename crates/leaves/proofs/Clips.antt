-- Parts of lists that are cut at the end of the list, and what `get` answers.
use Rattle.std.proofs.Common.{◌≡◌, ℕ, ◌+◌, ◌-◌, ◌≤◌, min, ltb, List, length, get_or, take, drop, is_some, IfSome, Some, None, Option, MatchOption, IsSomeAnd, sym, refl, ap, ◌∙◌, arith, Bor, ltb-false, ltb-true}
use native.Mathlib.Decide.{dec_le}
use Rattle.std.specs.List.{slice_get}
use Rattle.std.specs.Option.{option_map}
use Rattle.std.proofs.lemmas.Option.{slice_get_read, slice_get_past}
use Rattle.std.proofs.lemmas.List.{length-drop, take_all, drop_all}

module _ {A : Type 0} where
  drop_clipped : (xs : List A) (a s : ℕ) → a ≡ min (length xs) s → Dec (s ≤ length xs) → drop a xs ≡ drop s xs
  drop_clipped xs a s e (yes h) = let k : a ≡ s = omega arith in ap (λ n. drop n xs) k
  drop_clipped xs a s e (no h) = drop_all a xs (omega arith) ∙ sym (drop_all s xs (omega arith))

  take_clipped : (xs : List A) (a n : ℕ) → a ≡ min (length xs) n → Dec (n ≤ length xs) → take a xs ≡ take n xs
  take_clipped xs a n e (yes h) = let k : a ≡ n = omega arith in ap (λ n. take n xs) k
  take_clipped xs a n e (no h) = take_all a xs (omega arith) ∙ sym (take_all n xs (omega arith))

  -- n members from the place s on, or what there is of them
  pub clipped : (xs : List A) (a m s n : ℕ) → a ≡ min (length xs) s → m ≡ min (length xs - a) n → take ((a + m) - a) (drop a xs) ≡ take n (drop s xs)
  clipped xs a m s n e f =
      let k : (a + m) - a ≡ m = omega arith in
      let l : m ≡ min (length (drop a xs)) n = omega (arith, length-drop a xs) in
      ap (λ j. take j (drop a xs)) k ∙ take_clipped (drop a xs) m n l (dec_le n (length (drop a xs))) ∙ ap (take n) (drop_clipped xs a s e (dec_le s (length xs)))

-- what a slice's `get` answers
pub got : {A : Type 0} (xs : List A) (i : ℕ) (r : Option (Bor A)) → is_some r ≡ ltb i (length xs) → IfSome r (λ x. x.now ≡ get_or xs i x.now) → option_map (λ x. x.now) r ≡ slice_get xs i
got xs i None e f = sym (slice_get_past xs i (ltb-false i (length xs) (sym e)))
got xs i (Some x) e f = sym (slice_get_read xs (length xs) i x.now refl (ltb-true i (length xs) (sym e)) f)

-- what `map` makes of a borrowed value
pub mapped : {A B : Type 0} (f : A → B) (P : Bor A → Bor B → Type 0) (a : Option (Bor A)) (r : Option (Bor B)) → MatchOption a (r ≡ None) (λ x. IsSomeAnd r (P x)) → ((x : Bor A) (y : Bor B) → P x y → y.now ≡ f x.now) → option_map (λ y. y.now) r ≡ option_map f (option_map (λ x. x.now) a)
mapped f P None r h k = ap (option_map (λ y. y.now)) h
mapped f P (Some x) None h k = absurd h
mapped f P (Some x) (Some y) h k = ap Some (k x y h)
