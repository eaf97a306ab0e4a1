-- Lists, in the library's words.
use Rattle.std.proofs.Common.{◌≡◌, ◌+◌, ◌*◌, ◌≤◌, Bool, true, List, [], ◌∷◌, ◌&&◌, length, sum_by, refl, ap, ◌∙◌, arith, leb-true}
use Rattle.std.specs.List.{list_all}
use Rattle.std.proofs.lemmas.Bool.{and_parts}
use Rattle.std.proofs.lemmas.List.Sums.{sum_by-cons}
use Rattle.terms.specs.Terms.{Text}
use Rattle.model.specs.Checks.{every, text_short}
use Rattle.model.specs.Costs.{texts_bytes}
use Rattle.checks.specs.Checked.{member_bytes}

-- a test of each member
pub every_all : {A : Type 0} (p : A → Bool) (xs : List A) → list_all p xs ≡ every p xs
every_all p [] = refl
every_all p (x ∷ xs) = ap (λ b. p x && b) (every_all p xs)

-- what texts take in a list
pub bytes_sum : (ts : List Text) → sum_by member_bytes ts ≡ texts_bytes ts
bytes_sum [] = refl
bytes_sum (t ∷ ts) = sum_by-cons member_bytes t ts ∙ ap (λ n. member_bytes t + n) (bytes_sum ts)

-- short ones take at most 514 each
pub bytes_bound : (ts : List Text) → every text_short ts ≡ true → texts_bytes ts ≤ 514 * length ts
bytes_bound [] e = omega arith
bytes_bound (t ∷ ts) e =
    let h = and_parts (text_short t) (every text_short ts) e in
    omega (arith, leb-true (length t) 512 h.0, bytes_bound ts h.1)
