-- What is built for a kind, a leaf and children. Two calls build another kind than they are named for.
use Rattle.std.specs.Prelude.{ℕ, Bool, cond, [], ◌∷◌, Some, None, Option, ◌==◌}
use Rattle.terms.specs.Terms.{Text, LiteralS, Leaf}
use Rattle.terms.specs.Shape.{Shape, node, Shapes, done}
use Rattle.terms.specs.Fold.{fold}
use Rattle.terms.specs.Bank.{NodeM, Bank, gather, shapes}

-- the text of a list of one
abbrev pub lone : Leaf → Option Text
lone Leaf.bare = None
lone (Leaf.literal l) = None
lone (Leaf.code c) = None
lone (Leaf.unknown t o) = None
lone (Leaf.name n) = None
lone (Leaf.text t) = None
lone (Leaf.texts []) = None
lone (Leaf.texts (t ∷ [])) = Some t
lone (Leaf.texts (t ∷ u ∷ ts)) = None
lone (Leaf.pattern p) = None

-- the attribute of an extended has, which is 12, of a single one
abbrev pub single : ℕ → Leaf → Option Text
single k l = cond (k == 12) (lone l) None

-- it is a plain has, which is 11
abbrev pub plain_as : NodeM → Option Text → NodeM
plain_as n None = n
plain_as n (Some t) = record { kind = 11; leaf = Leaf.text t; children = n.children; place = n.place }

abbrev pub plain : NodeM → NodeM
plain n = plain_as n (single n.kind n.leaf)

-- the literal that an And or an Or comes to, at its location
abbrev pub folded_as : NodeM → Option Bool → NodeM
folded_as n None = n
folded_as n (Some b) = record { kind = 0; leaf = Leaf.literal (LiteralS.bool b); children = []; place = n.place }

-- And and Or over two boolean literals become the literal of their result
abbrev pub folded : Bank → NodeM → NodeM
folded m n = folded_as n (fold n.kind (gather (shapes m) n.children))

-- ---- the same on shapes

abbrev pub folded_shape : Shape → Option Bool → Shape
folded_shape s None = s
folded_shape s (Some b) = node 0 (Leaf.literal (LiteralS.bool b)) done

abbrev pub made_as : ℕ → Leaf → Shapes → Option Text → Shape
made_as k l c None = folded_shape (node k l c) (fold k c)
made_as k l c (Some t) = node 11 (Leaf.text t) c

-- the shape that is built of a kind, a leaf and children
abbrev pub made : ℕ → Leaf → Shapes → Shape
made k l c = made_as k l c (single k l)
