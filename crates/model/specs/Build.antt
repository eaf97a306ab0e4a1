-- Building: what a call for a node makes of a bank, and which call is refused.
use Rattle.std.specs.Prelude.{◌≡◌, ℕ, ◌+◌, ◌<◌, ◌≤◌, Bool, true, ◌&&◌, List, [], ◌∷◌, ◌++◌, length, Some, None, Ok, Err, Option, Result, FitsSigned, nat_le, nat_lt}
use Rattle.std.specs.Int.{w64}
use Rattle.terms.specs.Terms.{LiteralS, Leaf}
use Rattle.terms.specs.Shape.{size}
use Rattle.terms.specs.Formed.{All, NodeOk}
use Rattle.terms.specs.Bank.{Child, NodeM, Bank, gather, shape_of, shapes, shape_at, Closed, NodesOk}
use Rattle.terms.specs.declared.refusal.Refusal.{Refusal}
use Rattle.terms.specs.declared.refusal.Refusal.TheVariants as refusal
use Rattle.model.specs.Checks.{Check, first_failed, every, there, node_fits, leaf_short, key_short}
use Rattle.model.specs.Costs.{node_bytes, links_used, bytes_used}
use Rattle.model.specs.Made.{plain, folded, made}

-- all texts have at most 512 bytes
abbrev pub node_short : NodeM → Bool
node_short n = leaf_short n.leaf && every key_short n.children

-- a tree counts at most 65,536
abbrev pub light : Bank → NodeM → Bool
light m n = nat_le (size (shape_of (shapes m) n)) 65536

-- a place, links and bytes
abbrev pub has_room : Bank → NodeM → Bool
has_room m n = nat_lt (length m) 512 && (nat_le (links_used m + length n.children) 1024 && nat_le (bytes_used m + node_bytes n) 16384)

-- what is asked, in the order of the table of refusals: of the call for n, and then of the node b that it adds
abbrev pub asks : Bank → NodeM → NodeM → List Check
asks m n b =
    (every (there (length m)) n.children, refusal.Node)
    ∷ (node_fits n, refusal.Leaf)
    ∷ (node_short n, refusal.Text)
    ∷ (light m b, refusal.Size)
    ∷ (has_room m b, refusal.Room)
    ∷ []

-- the bank with one node more, or the refusal
abbrev pub add : Bank → NodeM → Option Refusal → Result (Bank × ℕ) Refusal
add m n None = Ok (m ++ (n ∷ []), length m)
add m n (Some e) = Err e

-- the same for a node that is no extended has of a single attribute
abbrev pub built_plain : Bank → NodeM → Result (Bank × ℕ) Refusal
built_plain m n = add m (folded m n) (first_failed (asks m n (folded m n)))

-- what a call for a node comes to: the bank after with the new number, or the refusal
abbrev pub built : Bank → NodeM → Result (Bank × ℕ) Refusal
built m n = built_plain m (plain n)

-- what a call answers
abbrev pub answer : {A E : Type 0} → Result (Bank × A) E → Result A E
answer (Ok p) = Ok p.1
answer (Err e) = Err e

-- the bank after a call; a refusal leaves it as it was
abbrev pub after : {A E : Type 0} → Bank → Result (Bank × A) E → Bank
after m (Ok p) = p.0
after m (Err e) = m

-- a call for the node n on the bank m answers r and leaves the bank m'
pub record Built (m : Bank) (n : NodeM) (r : Result ℕ Refusal) (m' : Bank) : Type 0 where
  pub answers : r ≡ answer (built m n)
  pub becomes : m' ≡ after m (built m n)

-- a Long has 64 bits, which the type of a call's argument says
abbrev pub LongOk : Leaf → Type 0
LongOk Leaf.bare = Unit {0}
LongOk (Leaf.literal (LiteralS.bool b)) = Unit {0}
LongOk (Leaf.literal (LiteralS.long z)) = FitsSigned w64 z
LongOk (Leaf.literal (LiteralS.string t)) = Unit {0}
LongOk (Leaf.literal (LiteralS.entity n t)) = Unit {0}
LongOk (Leaf.code c) = Unit {0}
LongOk (Leaf.unknown t o) = Unit {0}
LongOk (Leaf.name n) = Unit {0}
LongOk (Leaf.text t) = Unit {0}
LongOk (Leaf.texts ts) = Unit {0}
LongOk (Leaf.pattern p) = Unit {0}

-- a node that a bank can take as its next
pub record Fitting (m : Bank) (n : NodeM) : Type 0 where
  pub ok : NodeOk n.kind n.leaf (gather (shapes m) n.children)
  pub within : All (λ (c : Child). c.1 < length m) n.children
  pub light : light m n ≡ true
  pub room : has_room m n ≡ true

-- what holds of every bank
pub record Sound (m : Bank) : Type 0 where
  -- a child's number is below its parent's
  pub closed : Closed m
  -- each node is as its kind has it: a record's keys ascend, no And or Or stands over two boolean literals, no extended has over one attribute
  pub nodes : NodesOk m
  -- no tree counts more than 65,536
  pub sized : (i : ℕ) → i < length m → size (shape_at m i) ≤ 65536
  -- places, links and bytes suffice
  pub places : length m ≤ 512
  pub links : links_used m ≤ 1024
  pub bytes : bytes_used m ≤ 16384

-- what building does to any bank, whichever node it is called for
pub record BuildLaws : Type 0 where
  -- every tree that was there keeps its shape
  pub kept : (m : Bank) (n : NodeM) (i : ℕ) → i < length m → shape_at (after m (built m n)) i ≡ shape_at m i
  -- an accepted call adds one node, whose number is the count before
  pub number : (m : Bank) (n : NodeM) (p : Bank × ℕ) → built m n ≡ Ok p → (p.1 ≡ length m) × (length p.0 ≡ length m + 1)
  -- and its tree has the shape that is built of its kind, its leaf and its children's shapes
  pub shape : (m : Bank) (n : NodeM) (p : Bank × ℕ) → built m n ≡ Ok p → shape_at p.0 p.1 ≡ made n.kind n.leaf (gather (shapes m) n.children)
  -- the facts of a bank are kept
  pub sound : (m : Bank) (n : NodeM) → LongOk n.leaf → Sound m → Sound (after m (built m n))
  -- and hold of an empty one
  pub empty : Sound []
