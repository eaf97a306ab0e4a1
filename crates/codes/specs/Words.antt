-- The words that stand for a variable or a slot.
use Rattle.std.specs.Prelude.{ℕ, cond, List, [], ◌∷◌, Some, None, codes, Option}
use Rattle.std.specs.Str.{bytes_eq}
use Rattle.codes.specs.declared.var.Var.{Var}
use Rattle.codes.specs.declared.var.Var.TheVariants as var
use Rattle.codes.specs.declared.var.SlotId.{SlotId}
use Rattle.codes.specs.declared.var.SlotId.TheVariants as slot

-- the one of the cases that has the word w
abbrev pub from_word : {A : Type 0} → (A → List ℕ) → List A → List ℕ → Option A
from_word word [] w = None
from_word word (x ∷ xs) w = cond (bytes_eq w (word x)) (Some x) (from_word word xs w)

-- the word for each variable
abbrev pub var_word : Var → List ℕ
var_word var.Principal = codes "principal"
var_word var.Action = codes "action"
var_word var.Resource = codes "resource"
var_word var.Context = codes "context"

-- the word for each slot
abbrev pub slot_word : SlotId → List ℕ
slot_word slot.Principal = codes "?principal"
slot_word slot.Resource = codes "?resource"
