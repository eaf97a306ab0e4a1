-- What the check of a leaf answers.
use Rattle.std.specs.Prelude.{ℕ, ◌+◌, Bool, ◌&&◌, [], ◌∷◌, length, Some, None, Ok, Err, Option, Result, ◌==◌}
use Rattle.terms.specs.Terms.{Text, Leaf}
use Rattle.terms.specs.Kinds.{kind, sort}
use Rattle.terms.specs.declared.refusal.Refusal.{Refusal}
use Rattle.terms.specs.declared.refusal.Refusal.TheVariants as refusal
use Rattle.model.specs.Checks.{first_failed, leaf_fits, leaf_short}
use Rattle.model.specs.Costs.{leaf_bytes}

-- the bytes that a text takes in a list of texts
abbrev pub member_bytes : Text → ℕ
member_bytes t = length t + 2

-- a leaf of the sort that kind k has, in its bounds
abbrev pub suits : ℕ → Leaf → Bool
suits k l = sort l == (kind k).leaf && leaf_fits (kind k).codes l

-- the bytes that it takes, unless it is refused
abbrev pub cost_unless : Option Refusal → Leaf → Result ℕ Refusal
cost_unless None l = Ok (leaf_bytes l)
cost_unless (Some e) l = Err e

-- what a leaf of a node of kind k costs, or its refusal: 2 before 3
abbrev pub leaf_cost : ℕ → Leaf → Result ℕ Refusal
leaf_cost k l = cost_unless (first_failed ((suits k l, refusal.Leaf) ∷ (leaf_short l, refusal.Text) ∷ [])) l
