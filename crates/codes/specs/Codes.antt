-- The numbers of kinds, variables, slots and operators.
use Rattle.std.specs.Prelude.{ℕ, List, [], ◌∷◌, Ok, ◌≡◌}
use Rattle.terms.specs.Kinds as model
use Rattle.terms.specs.Codes.{from_code}
use Rattle.codes.specs.declared.kind.Kind.{Kind}
use Rattle.codes.specs.declared.kind.Kind.TheVariants as kind
use Rattle.codes.specs.declared.kind.LeafSort.{LeafSort}
use Rattle.codes.specs.declared.kind.LeafSort.TheVariants as sort
use Rattle.codes.specs.declared.kind.Children.{Children}
use Rattle.codes.specs.declared.kind.Children.TheVariants as children
use Rattle.codes.specs.declared.var.Var.{Var}
use Rattle.codes.specs.declared.var.Var.TheVariants as var
use Rattle.codes.specs.declared.var.SlotId.{SlotId}
use Rattle.codes.specs.declared.var.SlotId.TheVariants as slot
use Rattle.codes.specs.declared.ops.UnaryOp.{UnaryOp}
use Rattle.codes.specs.declared.ops.UnaryOp.TheVariants as unary
use Rattle.codes.specs.declared.ops.BinaryOp.{BinaryOp}
use Rattle.codes.specs.declared.ops.BinaryOp.TheVariants as binary

-- n is the number of x, and reads as x
abbrev pub IsCodeOf : {A : Type 0} → (A → ℕ) → List A → A → ℕ → Type 0
IsCodeOf code all x n = (n ≡ code x) × (from_code code all n ≡ Ok x)

-- the kinds, by the numbers of the table
abbrev pub kind_code : Kind → ℕ
kind_code kind.Lit = 0
kind_code kind.Var = 1
kind_code kind.Slot = 2
kind_code kind.Unknown = 3
kind_code kind.If = 4
kind_code kind.And = 5
kind_code kind.Or = 6
kind_code kind.UnaryApp = 7
kind_code kind.BinaryApp = 8
kind_code kind.ExtensionFunctionApp = 9
kind_code kind.GetAttr = 10
kind_code kind.HasAttr = 11
kind_code kind.ExtHasAttr = 12
kind_code kind.Like = 13
kind_code kind.Set = 14
kind_code kind.Record = 15
kind_code kind.Is = 16

-- every kind
abbrev pub all_kinds : List Kind
all_kinds = kind.Lit ∷ kind.Var ∷ kind.Slot ∷ kind.Unknown ∷ kind.If ∷ kind.And ∷ kind.Or ∷ kind.UnaryApp ∷ kind.BinaryApp ∷ kind.ExtensionFunctionApp ∷ kind.GetAttr ∷ kind.HasAttr ∷ kind.ExtHasAttr ∷ kind.Like ∷ kind.Set ∷ kind.Record ∷ kind.Is ∷ []

-- the sorts of leaves, by the numbers of the definitions
abbrev pub sort_code : LeafSort → ℕ
sort_code sort.Nothing = model.no_leaf
sort_code sort.Literal = model.a_literal
sort_code sort.Code = model.a_code
sort_code sort.Unknown = model.an_unknown
sort_code sort.Name = model.a_name
sort_code sort.Text = model.a_text
sort_code sort.Texts = model.some_texts
sort_code sort.Pattern = model.a_pattern

-- children, as the table of the definitions has them
abbrev pub children_of : Children → model.Children
children_of (children.Exactly n) = model.exactly n
children_of children.Many = model.many
children_of children.Keyed = model.keyed

-- the variables, by their numbers
abbrev pub var_code : Var → ℕ
var_code var.Principal = 0
var_code var.Action = 1
var_code var.Resource = 2
var_code var.Context = 3

-- every variable
abbrev pub all_vars : List Var
all_vars = var.Principal ∷ var.Action ∷ var.Resource ∷ var.Context ∷ []

-- the slots, by their numbers
abbrev pub slot_code : SlotId → ℕ
slot_code slot.Principal = 0
slot_code slot.Resource = 1

-- every slot
abbrev pub all_slots : List SlotId
all_slots = slot.Principal ∷ slot.Resource ∷ []

-- the unary operators, by their numbers
abbrev pub unary_code : UnaryOp → ℕ
unary_code unary.Not = 0
unary_code unary.Neg = 1
unary_code unary.IsEmpty = 2

-- every unary operator
abbrev pub all_unary : List UnaryOp
all_unary = unary.Not ∷ unary.Neg ∷ unary.IsEmpty ∷ []

-- the binary operators, by their numbers
abbrev pub binary_code : BinaryOp → ℕ
binary_code binary.Eq = 0
binary_code binary.Less = 1
binary_code binary.LessEq = 2
binary_code binary.Add = 3
binary_code binary.Sub = 4
binary_code binary.Mul = 5
binary_code binary.In = 6
binary_code binary.Contains = 7
binary_code binary.ContainsAll = 8
binary_code binary.ContainsAny = 9
binary_code binary.GetTag = 10
binary_code binary.HasTag = 11

-- every binary operator
abbrev pub all_binary : List BinaryOp
all_binary = binary.Eq ∷ binary.Less ∷ binary.LessEq ∷ binary.Add ∷ binary.Sub ∷ binary.Mul ∷ binary.In ∷ binary.Contains ∷ binary.ContainsAll ∷ binary.ContainsAny ∷ binary.GetTag ∷ binary.HasTag ∷ []
