-- The nodes of a store, and what its calls answer.
use Rattle.std.specs.Prelude.{◌≡◌, ℕ, ◌+◌, Bool, true, ◌&&◌, List, [], ◌∷◌, ◌++◌, map, length, None, Option, Result, nat_le, nat_lt}
use Rattle.terms.specs.Bank.{Child, NodeM, Bank}
use Rattle.terms.specs.declared.refusal.Refusal.{Refusal}
use Rattle.terms.specs.declared.refusal.Refusal.TheVariants as refusal
use Rattle.model.specs.Checks.{first_failed, every, there, count_fits, keys_fit, node_fits}
use Rattle.model.specs.Costs.{keys_bytes, links_used, bytes_used}
use Rattle.model.specs.Build.{node_short, light, has_room, add, answer, after}
use Rattle.model.specs.Nodes.{of_kind}
use Rattle.codes.specs.declared.kind.Kind.{Kind}
use Rattle.codes.specs.Codes.{kind_code}
use Rattle.terms.specs.Terms.{Leaf}
use Rattle.terms.specs.Kinds.{kind}
use Rattle.checks.specs.Checked.{cost_unless}
use Rattle.leaves.specs.Values.{GivenLeaf, leaf_of}
use Rattle.store.specs.declared.call.Call.{Call}
use Rattle.store.specs.declared.location.Location.{Location}
use Rattle.store.specs.declared.store.Store.{Store}
use Rattle.pairs.specs.declared.link.Link.{Link}
use Rattle.pairs.specs.Links.{child_of}
use Rattle.store.specs.Branches.{branches_of}
use Rattle.store.specs.Pools.{Pool, pool}
use Rattle.store.specs.Tables.{place_of, key_in, model_of}

-- the nodes that a store holds
abbrev pub model : Store → Bank
model b = model_of b.nodes b.links (pool b.texts)

-- the node that a call is for
abbrev pub called : Kind → GivenLeaf → List Child → Option Location → NodeM
called k l cs at = of_kind (kind_code k) (leaf_of l) cs (place_of at)

-- the same of a call for a node
abbrev pub asked : Call → NodeM
asked c = called c.kind c.leaf (branches_of c.children) c.at

-- children as kind k has them
abbrev pub children_fit : ℕ → List Child → Bool
children_fit k cs = count_fits (kind k).children (length cs) && keys_fit (kind k).children cs

-- the bytes of the leaf, unless refusal 1, 2 or 3 comes
abbrev pub checked : Bank → ℕ → Leaf → List Child → Result ℕ Refusal
checked m k l cs =
    cost_unless
    (first_failed ((every (there (length m)) cs, refusal.Node) ∷ (node_fits (of_kind k l cs None), refusal.Leaf) ∷ (node_short (of_kind k l cs None), refusal.Text) ∷ []))
    l

-- whether there is room for a node with a leaf of k bytes and these children
abbrev pub room_for : Bank → ℕ → List Child → Bool
room_for m k cs = nat_lt (length m) 512 && (nat_le (links_used m + length cs) 1024 && nat_le (bytes_used m + (k + keys_bytes cs)) 16384)

-- a node is added where size and room allow
abbrev pub added : Bank → NodeM → Result (Bank × ℕ) Refusal
added m n = add m n (first_failed ((light m n, refusal.Size) ∷ (has_room m n, refusal.Room) ∷ []))

-- a call comes to b: it answers r and leaves m'
pub record Comes (m : Bank) (b : Result (Bank × ℕ) Refusal) (r : Result ℕ Refusal) (m' : Bank) : Type 0 where
  pub answers : r ≡ answer b
  pub becomes : m' ≡ after m b

-- links that are new in a table are read as these children
abbrev pub Entered : List Link → List Link → Pool → List Child → Type 0
Entered links links' s cs =
    (ls : List Link) × ((links' ≡ links ++ ls) × (map (child_of s.bytes) ls ≡ cs) × (every (key_in s) ls ≡ true))
