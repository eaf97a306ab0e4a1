-- Where a search for the first line feed leads.
use Rattle.std.proofs.Common.{◌≡◌, ℕ, zero, suc, ◌+◌, ◌-◌, ◌<◌, List, [], ◌∷◌, length, get_or, take, drop, Some, Option, sym, refl, ◌∙◌, subst, inr, ◌≢◌, add-one, arith}
use Rattle.std.specs.List.{AllWithin, HoldsAt}
use Rattle.std.proofs.lemmas.List.{take_rest}
use Rattle.std.proofs.lemmas.Bool.Decides.{nat_tests}
use Rattle.terms.specs.Terms.{Text}
use Rattle.lines.specs.Lines.{first_line, after_line, split_line, lines, with_first, Cut}

-- no line feed stands before i
abbrev Free : List ℕ → ℕ → Type 0
Free xs i = (k : ℕ) → k < i → get_or xs k 0 ≢ 10

later : (x : ℕ) (xs : List ℕ) (i : ℕ) → Free (x ∷ xs) (suc i) → Free xs i
later x xs i f k h = f (suc k) (omega arith)

-- the first line feed stands at i
feeds : (xs : List ℕ) (i : ℕ) → Free xs i → i < length xs → get_or xs i 0 ≡ 10 → (first_line xs ≡ take i xs) × (after_line xs ≡ drop (suc i) xs)
feeds [] i f h e = absurd (omega arith)
feeds (x ∷ xs) zero f h e = (grind (arith, nat_tests), grind (arith, nat_tests))
feeds (x ∷ xs) (suc i) f h e =
    let r = feeds xs i (later x xs i f) (omega arith) e in
    (grind (arith, nat_tests, f 0 (omega arith), r.0), grind (arith, nat_tests, f 0 (omega arith), r.1))

-- there is none
lasts : (xs : List ℕ) → Free xs (length xs) → (first_line xs ≡ xs) × (after_line xs ≡ [])
lasts [] f = (refl, refl)
lasts (x ∷ xs) f =
    let r = lasts xs (later x xs (length xs) f) in
    (grind (arith, nat_tests, f 0 (omega arith), r.0), grind (arith, nat_tests, f 0 (omega arith), r.1))

some_split : (xs : List ℕ) → 0 < length xs → split_line xs ≡ Some (first_line xs, after_line xs)
some_split [] h = absurd (omega arith)
some_split (x ∷ xs) h = refl

-- what a line that ends at i is, as the code has its two parts
pub split_at_feed : (xs : List ℕ) (i : ℕ) → (i < length xs) × HoldsAt (λ b. b ≡ 10) xs i × AllWithin (λ b. b ≢ 10) xs 0 i → Some (take i xs, take (length xs - (i + 1)) (drop (i + 1) xs)) ≡ split_line xs
split_at_feed xs i h =
    let r = feeds xs i (λ k l. h.2 k 0 (omega arith) l) h.0 (h.1 0) in
    rw (take_rest xs (i + 1), add-one) (sym (some_split xs (omega arith) ∙ (λ j. Some (r.0 j, r.1 j))))

pub split_at_end : (xs : List ℕ) → 0 < length xs → AllWithin (λ b. b ≢ 10) xs 0 (length xs) → Some (xs, []) ≡ split_line xs
split_at_end xs l h =
    let r = lasts xs (λ k m. h k 0 (omega arith) m) in
    sym (some_split xs l ∙ (λ j. Some (r.0 j, r.1 j)))

-- ---- the split gives all lines

all_lines : (x : ℕ) (xs : List ℕ) → lines (x ∷ xs) ≡ first_line (x ∷ xs) ∷ lines (after_line (x ∷ xs))
all_lines x [] = grind (arith, nat_tests)
all_lines x (y ∷ ys) = grind (arith, nat_tests, all_lines y ys)

-- ---- what the parts are

cuts : (xs : List ℕ) → Cut xs (Some (first_line xs, after_line xs))
cuts [] = (tt, inr (refl, refl))
cuts (x ∷ xs) = grind (arith, nat_tests, cuts xs)

-- the laws of the split, of an answer that is equal to it
pub lines_of : (xs : List ℕ) (r : Option (Text × List ℕ)) → r ≡ split_line xs → lines xs ≡ with_first r
lines_of [] r e = rw e
lines_of (x ∷ xs) r e = rw e (all_lines x xs)

pub cut_of : (xs : List ℕ) (r : Option (Text × List ℕ)) → r ≡ split_line xs → Cut xs r
cut_of [] r e = rw e refl
cut_of (x ∷ xs) r e = subst (Cut (x ∷ xs)) (sym e) (cuts (x ∷ xs))
