-- What follows a line is shorter than the bytes.
use Rattle.std.proofs.Common.{◌≡◌, ℕ, ◌<◌, ◌≤◌, Bool, true, false, cond, eqb, List, [], ◌∷◌, length, Some, None, Option, ap, arith}
use Rattle.terms.specs.Terms.{Text}
use Rattle.lines.specs.Lines.{after_line, split_line}

after_by : (x : ℕ) (xs : List ℕ) (t : Bool) → length (after_line xs) ≤ length xs → length (cond t xs (after_line xs)) < length (x ∷ xs)
after_by x xs true h = omega arith
after_by x xs false h = omega arith

-- no more follows the first line than there is
after_upto : (xs : List ℕ) → length (after_line xs) ≤ length xs
after_upto [] = omega arith
after_upto (x ∷ xs) = let h = after_by x xs (eqb x 10) (after_upto xs) in omega arith

abbrev rest_of : Option (Text × List ℕ) → List ℕ
rest_of None = []
rest_of (Some p) = p.1

-- where there is a line, fewer bytes follow it
pub shorter : (xs l r : List ℕ) → Some (l, r) ≡ split_line xs → length r < length xs
shorter [] l r e = let z : ◌≡◌ {A = ℕ} 0 1 = cc in absurd (omega arith)
shorter (x ∷ xs) l r e = let h = after_by x xs (eqb x 10) (after_upto xs) in omega (arith, ap length (ap rest_of e))
