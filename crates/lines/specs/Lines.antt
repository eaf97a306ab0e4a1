-- Bytes as lines. A line feed ends a line and is no part of it; the last line may lack it.
use Rattle.std.specs.Prelude.{◌≡◌, ℕ, cond, ◌⊎◌, List, [], ◌∷◌, ◌++◌, Some, None, Option, ◌==◌, ◌≢◌}
use Rattle.std.specs.Borrow.{Bor}
use Rattle.std.specs.Option.{option_map}
use Rattle.std.specs.List.{AllByRecursion}
use Rattle.terms.specs.Terms.{Text}

-- the bytes that two references point to
abbrev pub both_parts : Option (Bor (List ℕ) × Bor (List ℕ)) → Option (Text × List ℕ)
both_parts r = option_map (λ p. (p.0.now, p.1.now)) r

-- the bytes before the first line feed
abbrev pub first_line : List ℕ → Text
first_line [] = []
first_line (b ∷ bs) = cond (b == 10) [] (b ∷ first_line bs)

-- the bytes after the first line feed
abbrev pub after_line : List ℕ → List ℕ
after_line [] = []
after_line (b ∷ bs) = cond (b == 10) bs (after_line bs)

-- the first line and what follows it, where there is a line
abbrev pub split_line : List ℕ → Option (Text × List ℕ)
split_line [] = None
split_line (b ∷ bs) = Some (first_line (b ∷ bs), after_line (b ∷ bs))

-- a byte put before the first line
abbrev pub onto : ℕ → List Text → List Text
onto b [] = (b ∷ []) ∷ []
onto b (l ∷ ls) = (b ∷ l) ∷ ls

-- all lines
abbrev pub lines : List ℕ → List Text
lines [] = []
lines (b ∷ bs) = cond (b == 10) ([] ∷ lines bs) (onto b (lines bs))

-- all lines, from the first and what follows it
abbrev pub with_first : Option (Text × List ℕ) → List Text
with_first None = []
with_first (Some p) = p.0 ∷ lines p.1

-- a line without line feeds, then a line feed and the rest, or nothing
abbrev pub Cut : List ℕ → Option (Text × List ℕ) → Type 0
Cut bs None = bs ≡ []
Cut bs (Some p) = AllByRecursion (λ b. b ≢ 10) p.0 × ((bs ≡ p.0 ++ 10 ∷ p.1) ⊎ ((bs ≡ p.0) × (p.1 ≡ [])))
