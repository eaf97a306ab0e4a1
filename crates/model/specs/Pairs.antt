-- Drafts: pairs of key and node in ascending key order, and how one more is put.
use Rattle.std.specs.Prelude.{◌≡◌, ℕ, ◌+◌, Bool, false, not, ◌&&◌, ◌||◌, List, [], ◌∷◌, length, Some, None, Ok, Err, Option, Result, nat_le, nat_lt}
use Rattle.std.specs.declared.cmp.Ordering.TheVariants.{Less, Equal, Greater}
use Rattle.std.specs.declared.cmp.Ordering.{Ordering}
use Rattle.std.specs.Ordering.{is_eq}
use Rattle.terms.specs.Terms.{Text}
use Rattle.terms.specs.Orders.{text_order}
use Rattle.terms.specs.Bank.{Child}
use Rattle.terms.specs.declared.refusal.Refusal.{Refusal}
use Rattle.terms.specs.declared.refusal.Refusal.TheVariants as refusal
use Rattle.model.specs.Checks.{Check, first_failed, text_short}
use Rattle.model.specs.Costs.{keys_bytes}

-- whether a key stands among pairs
abbrev pub has_key : Text → List Child → Bool
has_key k [] = false
has_key k (c ∷ cs) = is_eq (text_order k c.0) || has_key k cs

-- a pair before the first one whose key is not less
abbrev pub put_before : Ordering → Child → Child → List Child → List Child → List Child
put_before Less p c cs placed = p ∷ c ∷ cs
put_before Equal p c cs placed = p ∷ c ∷ cs
put_before Greater p c cs placed = c ∷ placed

abbrev pub with_pair : Child → List Child → List Child
with_pair p [] = p ∷ []
with_pair p (c ∷ cs) = put_before (text_order p.0 c.0) p c cs (with_pair p cs)

-- what is asked of a pair, in the order of the table of refusals
abbrev pub pair_asks : List Child → Text → ℕ → List Check
pair_asks ps k n =
    (nat_lt n 512, refusal.Node)
    ∷ (text_short k, refusal.Text)
    ∷ (not (has_key k ps), refusal.Key)
    ∷ ((nat_lt (length ps) 64 && nat_le (keys_bytes ps + length k) 2048), refusal.Room)
    ∷ []

abbrev pub put_answer : Option Refusal → Result (Unit {0}) Refusal
put_answer None = Ok tt
put_answer (Some e) = Err e

abbrev pub put_pairs : Option Refusal → List Child → Text → ℕ → List Child
put_pairs None ps k n = with_pair (k, n) ps
put_pairs (Some e) ps k n = ps

-- putting a pair to the pairs ps answers r and leaves ps'
pub record Put (ps : List Child) (k : Text) (n : ℕ) (r : Result (Unit {0}) Refusal) (ps' : List Child) : Type 0 where
  pub answers : r ≡ put_answer (first_failed (pair_asks ps k n))
  pub becomes : ps' ≡ put_pairs (first_failed (pair_asks ps k n)) ps k n
