-- How the rows of the tables are read as nodes, and what every store keeps.
use Rattle.std.specs.Prelude.{◌≡◌, ℕ, ◌<◌, Bool, true, ◌&&◌, List, map, length, take, Option, nat_le, slice_index_or}
use Rattle.std.specs.Option.{option_map}
use Rattle.terms.specs.Shape.{size}
use Rattle.terms.specs.Bank.{Loc, Child, NodeM, Bank, shapes}
use Rattle.model.specs.Checks.{every}
use Rattle.model.specs.Costs.{links_used, bytes_used}
use Rattle.codes.specs.Codes.{kind_code}
use Rattle.leaves.specs.Values.{read}
use Rattle.pairs.specs.declared.link.Link.{Link}
use Rattle.pairs.specs.Links.{children_of, inside}
use Rattle.store.specs.declared.location.Location.{Location}
use Rattle.store.specs.declared.parts.Mark.{Mark}
use Rattle.store.specs.declared.parts.Node.{Node}
use Rattle.store.specs.Spans.{span_in}
use Rattle.store.specs.Pools.{Pool, used, upto}
use Rattle.store.specs.Kept.{leaf_kept, leaf_in}

-- a location
abbrev pub loc_of : Location → Loc
loc_of l = record { source = l.source; offset = l.offset; extent = l.len }

-- a location, if there is one
abbrev pub place_of : Option Location → Option Loc
place_of p = option_map loc_of p

-- a row as a node, where cs are the children of all nodes
abbrev pub node_of : List Child → Pool → Node → NodeM
node_of cs s n =
    record {
      kind = kind_code n.kind;
      leaf = leaf_kept s n.leaf;
      children = read cs n.links;
      place = place_of n.place;
    }

-- the nodes of three tables
unfoldable pub model_of : List Node → List Link → Pool → Bank
model_of nodes links s = map (node_of (children_of s.bytes links) s) nodes

-- ---- what every store keeps

-- a key within its table
abbrev pub key_in : Pool → Link → Bool
key_in s l = inside (length s.bytes) l

-- a mark within a pool
abbrev pub mark_in : Pool → Mark → Bool
mark_in s k = nat_le k.bytes (length s.bytes) && (nat_le k.spans (length s.spans) && nat_le k.elems (length s.elems))

-- a row within its tables
abbrev pub node_in : ℕ → Pool → Node → Bool
node_in links s n = span_in links n.links && (leaf_in s n.leaf && mark_in s n.mark)

-- the size that a row keeps
abbrev pub size_of : Node → ℕ
size_of n = n.size

-- rows and keys lie within their tables, the sizes that are kept are right, and the tables hold what the nodes take
abbrev pub Held : List Node → List Link → Pool → Type 0
Held nodes links s =
    (every (node_in (length links) s) nodes ≡ true)
    × (every (key_in s) links ≡ true)
    × (map size_of nodes ≡ map size (shapes (model_of nodes links s)))
    × (length links ≡ links_used (model_of nodes links s))
    × (used s ≡ bytes_used (model_of nodes links s))

-- what stood before the node x was put as node i
pub record Before (nodes : List Node) (links : List Link) (s : Pool) (i : ℕ) (x : Node) : Type 0 where
  pub held : Held (take i nodes) (take x.links.start links) (upto s x.mark)
  pub inside : every (span_in (length (upto s x.mark).bytes)) (upto s x.mark).spans ≡ true

-- every row marks the tables as they were before it
abbrev pub Marked : List Node → List Link → Pool → Type 0
Marked nodes links s = (i : ℕ) (x : Node) → i < length nodes → x ≡ slice_index_or nodes i x → Before nodes links s i x
