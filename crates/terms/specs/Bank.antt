-- A bank as a plain list of nodes, and the shapes of its nodes.
use Rattle.std.specs.Prelude.{◌≡◌, ℕ, suc, ◌<◌, List, [], ◌∷◌, ◌++◌, length, None, Option, slice_index_or}
use Rattle.terms.specs.Terms.{Text, Leaf}
use Rattle.terms.specs.Shape.{Shape, node, Shapes, done, entry}
use Rattle.terms.specs.Formed.{All, NodeOk}

-- where a node stands in a source
pub record Loc : Type 0 where
  pub source : ℕ
  pub offset : ℕ
  pub extent : ℕ

-- a child's number with its key, which is empty but in records
abbrev pub Child : Type 0
Child = Text × ℕ

-- a node as a bank keeps it
pub record NodeM : Type 0 where
  pub kind : ℕ
  pub leaf : Leaf
  pub children : List Child
  pub place : Option Loc

-- a bank: its nodes, which are numbered from 0
abbrev pub Bank : Type 0
Bank = List NodeM

-- what a number without a node reads as
abbrev blank : NodeM
blank = record { kind = 0; leaf = Leaf.bare; children = []; place = None }

-- the node under a number
abbrev pub node_at : Bank → ℕ → NodeM
node_at m i = slice_index_or m i blank

-- what f makes of each node, from what it made of the nodes before it
abbrev pub table : {A : Type 0} → (List A → NodeM → A) → List A → Bank → List A
table f acc [] = acc
table f acc (n ∷ ns) = table f (acc ++ (f acc n ∷ [])) ns

-- the shape that a number without a node has
abbrev pub nothing : Shape
nothing = node 0 Leaf.bare done

-- the children, from the shapes of the nodes before
abbrev pub gather : List Shape → List Child → Shapes
gather ss [] = done
gather ss (p ∷ ps) = entry p.0 (slice_index_or ss p.1 nothing) (gather ss ps)

-- a node's shape, from the shapes of the nodes before
abbrev pub shape_of : List Shape → NodeM → Shape
shape_of ss n = node n.kind n.leaf (gather ss n.children)

-- the shapes of all nodes
abbrev pub shapes : Bank → List Shape
shapes m = table shape_of [] m

-- the shape of the tree under a number
abbrev pub shape_at : Bank → ℕ → Shape
shape_at m i = slice_index_or (shapes m) i nothing

-- a child's number is below its parent's, which is b at the first node
-- every child is below its parent
abbrev pub ClosedFrom : ℕ → Bank → Type 0
ClosedFrom b [] = Unit {0}
ClosedFrom b (n ∷ ns) = All (λ (p : Child). p.1 < b) n.children × ClosedFrom (suc b) ns

abbrev pub Closed : Bank → Type 0
Closed m = ClosedFrom 0 m

-- each node is as its kind has it, over the shapes of the nodes before
-- every node is as its kind has it
abbrev pub NodesOkOver : List Shape → Bank → Type 0
NodesOkOver ss [] = Unit {0}
NodesOkOver ss (n ∷ ns) = NodeOk n.kind n.leaf (gather ss n.children) × NodesOkOver (ss ++ (shape_of ss n ∷ [])) ns

abbrev pub NodesOk : Bank → Type 0
NodesOk m = NodesOkOver [] m

-- what holds of the shapes of any bank
pub record BankLaws : Type 0 where
  -- nodes that are added leave every shape before them as it was
  pub kept : (m more : Bank) (i : ℕ) → i < length m → shape_at (m ++ more) i ≡ shape_at m i
  -- a node that is added has its shape from theirs
  pub added : (m : Bank) (n : NodeM) → shape_at (m ++ (n ∷ [])) (length m) ≡ shape_of (shapes m) n
  -- the shape under a number is its node's, over the shapes of its children
  pub opened : (m : Bank) (i : ℕ) (d : NodeM) → Closed m → i < length m → shape_at m i ≡ shape_of (shapes m) (slice_index_or m i d)
