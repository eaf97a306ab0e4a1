-- What an And or an Or over two boolean literals comes to. Building folds it, so none stands in a bank.
use Rattle.std.specs.Prelude.{ℕ, Bool, cond, ◌&&◌, ◌||◌, Some, None, Option, ◌==◌}
use Rattle.terms.specs.Terms.{LiteralS, Leaf}
use Rattle.terms.specs.Shape.{Shape, node, Shapes, done, entry}

-- the boolean that a leaf is
abbrev pub leaf_bool : Leaf → Option Bool
leaf_bool Leaf.bare = None
leaf_bool (Leaf.literal (LiteralS.bool b)) = Some b
leaf_bool (Leaf.literal (LiteralS.long z)) = None
leaf_bool (Leaf.literal (LiteralS.string t)) = None
leaf_bool (Leaf.literal (LiteralS.entity n t)) = None
leaf_bool (Leaf.code c) = None
leaf_bool (Leaf.unknown t o) = None
leaf_bool (Leaf.name n) = None
leaf_bool (Leaf.text t) = None
leaf_bool (Leaf.texts ts) = None
leaf_bool (Leaf.pattern p) = None

-- the boolean that a tree is
abbrev pub as_bool : Shape → Option Bool
as_bool (node k l done) = leaf_bool l
as_bool (node k l (entry j s r)) = None

-- two booleans under And, which is 5, or Or, which is 6
abbrev pub join : ℕ → Option Bool → Option Bool → Option Bool
join k None b = None
join k (Some x) None = None
join k (Some x) (Some y) = cond (k == 5) (Some (x && y)) (cond (k == 6) (Some (x || y)) None)

-- the boolean that a node of this kind over these children comes to, if any
abbrev pub fold : ℕ → Shapes → Option Bool
fold k done = None
fold k (entry i x done) = None
fold k (entry i x (entry j y done)) = join k (as_bool x) (as_bool y)
fold k (entry i x (entry j y (entry h z r))) = None
