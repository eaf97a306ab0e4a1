-- How a state is led on by lists of bytes.
use Rattle.std.proofs.Common.{◌≡◌, ℕ, List, [], ◌∷◌, ◌++◌, refl}
use Rattle.terms.specs.Hashers.{fed}

-- bytes after bytes
pub fed-++ : {S : Type 0} (next : S → ℕ → S) (s : S) (a b : List ℕ) → fed next s (a ++ b) ≡ fed next (fed next s a) b
fed-++ next s [] b = refl
fed-++ next s (x ∷ a) b = fed-++ next (next s x) a b
