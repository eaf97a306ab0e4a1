-- What lists of texts take.
use Rattle.std.proofs.Common.{◌≤◌, List, [], ◌∷◌, length, arith}
use Rattle.terms.specs.Terms.{Text}
use Rattle.model.specs.Costs.{texts_bytes}

-- each text takes some bytes
pub list_long : (ts : List Text) → length ts ≤ texts_bytes ts
list_long [] = omega arith
list_long (t ∷ ts) = omega (arith, list_long ts)
