-- A tree as nodes: one for each subexpression, children left to right, then the node itself.
use Rattle.std.specs.Prelude.{◌≡◌, ℕ, ◌+◌, ◌<◌, List, [], ◌∷◌, ◌++◌, length, None}
use Rattle.terms.specs.Terms.{Leaf}
use Rattle.terms.specs.Shape.{Shape, node, Shapes, done, entry, size, sizes}
use Rattle.terms.specs.Formed.{Formed}
use Rattle.terms.specs.Bank.{Child, NodeM, Bank, shape_at, Closed, NodesOk}

-- the number of a tree's root, where its nodes are numbered from b on
abbrev pub root : ℕ → Shape → ℕ
root b (node k l c) = b + sizes c

-- the roots of the children
abbrev pub roots : ℕ → Shapes → List Child
roots b done = []
roots b (entry k s r) = (k, root b s) ∷ roots (b + size s) r

-- a node without a location
abbrev pub laid_node : ℕ → Leaf → List Child → NodeM
laid_node k l cs = record { kind = k; leaf = l; children = cs; place = None }

-- the nodes of a tree, and of trees in a row, from the number b on
abbrev mutual
  pub laid : ℕ → Shape → Bank
  laid b (node k l c) = laids b c ++ (laid_node k l (roots b c) ∷ [])

  pub laids : ℕ → Shapes → Bank
  laids b done = []
  laids b (entry k s r) = laid b s ++ laids (b + size s) r

-- the bank, room aside, holds the tree under the number
pub record Holds (m : Bank) (i : ℕ) (s : Shape) : Type 0 where
  pub closed : Closed m
  pub nodes : NodesOk m
  pub within : i < length m
  pub shape : shape_at m i ≡ s

-- a shape is well formed exactly where some such bank holds it
pub record FormedLaws : Type 0 where
  pub held : (s : Shape) → Formed s → Holds (laid 0 s) (root 0 s) s
  pub formed : (m : Bank) (i : ℕ) (s : Shape) → Holds m i s → Formed s
