-- The leaves of a condition tree, as values.
use Rattle.std.specs.Prelude.{ℕ, Bool, List, ℤ, Option}

-- the bytes of a text
abbrev pub Text : Type 0
Text = List ℕ

-- a base and the namespaces before it
pub record NameS : Type 0 where
  pub base : Text
  pub namespaces : List Text

-- a truth value, a signed number of 64 bits, a text, or an entity by its type name and identifier
pub data LiteralS : Type 0 where
  bool : Bool → LiteralS
  long : ℤ → LiteralS
  string : Text → LiteralS
  entity : NameS → Text → LiteralS

-- Bool 0, Long 1, String 2, Set 3, Record 4; Entity 5 and Extension 6 with a name
pub record TypeS : Type 0 where
  pub code : ℕ
  pub name : Option NameS

-- an element of a pattern: a Unicode scalar value or the wildcard
pub data ElemS : Type 0 where
  scalar : ℕ → ElemS
  wildcard : ElemS

-- what a node has besides its children; a variable, a slot and an operator are codes
pub data Leaf : Type 0 where
  bare : Leaf
  literal : LiteralS → Leaf
  code : ℕ → Leaf
  unknown : Text → Option TypeS → Leaf
  name : NameS → Leaf
  text : Text → Leaf
  texts : List Text → Leaf
  pattern : List ElemS → Leaf
