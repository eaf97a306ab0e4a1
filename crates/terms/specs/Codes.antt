-- How an enum is read from a number, and the numbers of types.
use Rattle.std.specs.Prelude.{ℕ, cond, List, [], ◌∷◌, Some, None, Ok, Err, Option, Result, ◌==◌}
use Rattle.terms.specs.declared.refusal.Refusal.{Refusal}
use Rattle.terms.specs.declared.refusal.Refusal.TheVariants as refusal
use Rattle.terms.specs.declared.types.Type.{«Type»}
use Rattle.terms.specs.declared.types.Type.TheVariants as type

-- the one of the cases that has the number n, and refusal 2 where none has it
abbrev pub from_code : {A : Type 0} → (A → ℕ) → List A → ℕ → Result A Refusal
from_code code [] n = Err refusal.Leaf
from_code code (x ∷ xs) n = cond (code x == n) (Ok x) (from_code code xs n)

-- the types, by their numbers
abbrev pub type_code : {N : Type 0} → «Type» N → ℕ
type_code type.Bool = 0
type_code type.Long = 1
type_code type.String = 2
type_code type.Set = 3
type_code type.Record = 4
type_code (type.Entity n) = 5
type_code (type.Extension n) = 6

-- the name that a type has
abbrev pub type_name : {N : Type 0} → «Type» N → Option N
type_name type.Bool = None
type_name type.Long = None
type_name type.String = None
type_name type.Set = None
type_name type.Record = None
type_name (type.Entity n) = Some n
type_name (type.Extension n) = Some n

-- the type that has the number, among those without a name or those with this one
abbrev pub type_from_code : {N : Type 0} → ℕ → Option N → Result («Type» N) Refusal
type_from_code c None = from_code type_code (type.Bool ∷ type.Long ∷ type.String ∷ type.Set ∷ type.Record ∷ []) c
type_from_code c (Some n) = from_code type_code (type.Entity n ∷ type.Extension n ∷ []) c
