-- What a node takes of a bank: links and text bytes.
use Rattle.std.specs.Prelude.{ℕ, ◌+◌, ◌*◌, List, [], ◌∷◌, length, Some, None, Option}
use Rattle.terms.specs.Terms.{Text, NameS, LiteralS, TypeS, Leaf}
use Rattle.terms.specs.Bank.{Child, NodeM, Bank}

-- the texts' bytes, and two more for each text
abbrev pub texts_bytes : List Text → ℕ
texts_bytes [] = 0
texts_bytes (t ∷ ts) = (length t + 2) + texts_bytes ts

-- the base and the namespaces
abbrev pub name_bytes : NameS → ℕ
name_bytes n = texts_bytes (n.base ∷ n.namespaces)

-- what a value takes, where there is one
abbrev pub maybe_bytes : {A : Type 0} → (A → ℕ) → Option A → ℕ
maybe_bytes f None = 0
maybe_bytes f (Some x) = f x

-- the type's name, where it has one
abbrev pub type_bytes : TypeS → ℕ
type_bytes t = maybe_bytes name_bytes t.name

-- the texts of a literal
abbrev pub literal_bytes : LiteralS → ℕ
literal_bytes (LiteralS.bool b) = 0
literal_bytes (LiteralS.long z) = 0
literal_bytes (LiteralS.string t) = length t
literal_bytes (LiteralS.entity n t) = name_bytes n + length t

-- a text its bytes, a pattern four bytes an element
abbrev pub leaf_bytes : Leaf → ℕ
leaf_bytes Leaf.bare = 0
leaf_bytes (Leaf.literal l) = literal_bytes l
leaf_bytes (Leaf.code c) = 0
leaf_bytes (Leaf.unknown t o) = length t + maybe_bytes type_bytes o
leaf_bytes (Leaf.name n) = name_bytes n
leaf_bytes (Leaf.text t) = length t
leaf_bytes (Leaf.texts ts) = texts_bytes ts
leaf_bytes (Leaf.pattern p) = 4 * length p

-- the keys' bytes
abbrev pub keys_bytes : List Child → ℕ
keys_bytes [] = 0
keys_bytes (c ∷ cs) = length c.0 + keys_bytes cs

-- the leaf and the keys
abbrev pub node_bytes : NodeM → ℕ
node_bytes n = leaf_bytes n.leaf + keys_bytes n.children

-- the links that a bank's nodes take
abbrev pub links_used : Bank → ℕ
links_used [] = 0
links_used (n ∷ ns) = length n.children + links_used ns

-- the text bytes that a bank's nodes take
abbrev pub bytes_used : Bank → ℕ
bytes_used [] = 0
bytes_used (n ∷ ns) = node_bytes n + bytes_used ns
