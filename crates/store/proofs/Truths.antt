-- Answers that follow from a truncated fact, since they are decided.
use Rattle.std.proofs.Common.{◌≡◌, ℕ, ◌<◌, Bool, true, false, Some, None, Option, sym, refl, true≢false}
use mathlib.Core.Logic.{∥∥₁_elim}
use mathlib.Core.HLevel.{⊥_prop}
use native.Mathlib.Decide.{dec_lt}
use Rattle.model.proofs.Small.{some_none, some_same}

pub decided : {P S : Type 0} → ∥ S ∥₁ → (S → P) → Dec P → P
decided s f (yes p) = p
decided s f (no n) = absurd (∥∥₁_elim s ⊥_prop (λ x. n (f x)))

pub less_told : {S : Type 0} (a b : ℕ) → ∥ S ∥₁ → (S → a < b) → a < b
less_told a b s f = decided s f (dec_lt a b)

option_dec : (x y : Option Bool) → Dec (x ≡ y)
option_dec None None = yes refl
option_dec None (Some b) = no (λ e. some_none b (sym e))
option_dec (Some a) None = no (λ e. some_none a e)
option_dec (Some true) (Some true) = yes refl
option_dec (Some true) (Some false) = no (λ e. true≢false (some_same true false e))
option_dec (Some false) (Some true) = no (λ e. true≢false (sym (some_same false true e)))
option_dec (Some false) (Some false) = yes refl

pub bool_told : {S : Type 0} (x y : Option Bool) → ∥ S ∥₁ → (S → x ≡ y) → x ≡ y
bool_told x y s f = decided s f (option_dec x y)
