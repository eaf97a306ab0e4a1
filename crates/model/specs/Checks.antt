-- What is asked of the parts of a node before it is built, as tests.
use Rattle.std.specs.Prelude.{ℕ, Bool, true, cond, ◌&&◌, ◌||◌, List, [], ◌∷◌, length, is_some, Some, None, Option, ◌==◌, nat_le, nat_lt}
use Rattle.std.specs.Bool.{beq}
use Rattle.std.specs.Ordering.{is_lt}
use Rattle.terms.specs.Terms.{Text, NameS, LiteralS, TypeS, ElemS, Leaf}
use Rattle.terms.specs.Orders.{text_order}
use Rattle.terms.specs.Kinds.{Children, exactly, many, keyed, kind, sort}
use Rattle.terms.specs.Bank.{Child, NodeM}
use Rattle.terms.specs.declared.refusal.Refusal.{Refusal}

-- a test, and the refusal that comes where it fails
abbrev pub Check : Type 0
Check = Bool × Refusal

-- the refusal of the first test that fails, if one does
abbrev pub first_failed : List Check → Option Refusal
first_failed [] = None
first_failed (c ∷ cs) = cond c.0 (first_failed cs) (Some c.1)

-- each member passes
abbrev pub every : {A : Type 0} → (A → Bool) → List A → Bool
every p [] = true
every p (x ∷ xs) = p x && every p xs

-- nothing, or a value that passes
abbrev pub any : {A : Type 0} → (A → Bool) → Option A → Bool
any p None = true
any p (Some x) = p x

-- ---- codes, scalars, bases and lists within their bounds

-- a base that isn't empty, and at most 8 namespaces
abbrev pub name_fits : NameS → Bool
name_fits n = nat_lt 0 (length n.base) && nat_le (length n.namespaces) 8

-- a name exactly at 5 and 6
abbrev pub type_fits : TypeS → Bool
type_fits t = nat_lt t.code 7 && (beq (is_some t.name) (nat_le 5 t.code) && any name_fits t.name)

-- an entity has a name
abbrev pub literal_fits : LiteralS → Bool
literal_fits (LiteralS.bool b) = true
literal_fits (LiteralS.long z) = true
literal_fits (LiteralS.string t) = true
literal_fits (LiteralS.entity n t) = name_fits n

-- a Unicode scalar value
abbrev pub elem_fits : ElemS → Bool
elem_fits (ElemS.scalar n) = nat_lt n 55296 || (nat_lt 57343 n && nat_lt n 1114112)
elem_fits ElemS.wildcard = true

-- a code is below b; an attribute list has 2 to 16 texts
abbrev pub leaf_fits : ℕ → Leaf → Bool
leaf_fits b Leaf.bare = true
leaf_fits b (Leaf.literal l) = literal_fits l
leaf_fits b (Leaf.code c) = nat_lt c b
leaf_fits b (Leaf.unknown t o) = any type_fits o
leaf_fits b (Leaf.name n) = name_fits n
leaf_fits b (Leaf.text t) = true
leaf_fits b (Leaf.texts ts) = nat_lt 1 (length ts) && nat_le (length ts) 16
leaf_fits b (Leaf.pattern p) = nat_le (length p) 256 && every elem_fits p

-- ---- texts of at most 512 bytes

abbrev pub text_short : Text → Bool
text_short t = nat_le (length t) 512

-- the base and each namespace
abbrev pub name_short : NameS → Bool
name_short n = text_short n.base && every text_short n.namespaces

-- the name, where there is one
abbrev pub type_short : TypeS → Bool
type_short t = any name_short t.name

-- the texts of a literal
abbrev pub literal_short : LiteralS → Bool
literal_short (LiteralS.bool b) = true
literal_short (LiteralS.long z) = true
literal_short (LiteralS.string t) = text_short t
literal_short (LiteralS.entity n t) = name_short n && text_short t

-- all texts of a leaf
abbrev pub leaf_short : Leaf → Bool
leaf_short Leaf.bare = true
leaf_short (Leaf.literal l) = literal_short l
leaf_short (Leaf.code c) = true
leaf_short (Leaf.unknown t o) = text_short t && any type_short o
leaf_short (Leaf.name n) = name_short n
leaf_short (Leaf.text t) = text_short t
leaf_short (Leaf.texts ts) = every text_short ts
leaf_short (Leaf.pattern p) = true

-- the key of a child
abbrev pub key_short : Child → Bool
key_short c = text_short c.0

-- ---- children as the table of kinds has them

-- a child that is there, where k nodes are
abbrev pub there : ℕ → Child → Bool
there k c = nat_lt c.1 k

-- as many as the kind has, or a list of at most 64
abbrev pub count_fits : Children → ℕ → Bool
count_fits (exactly n) c = c == n
count_fits many c = nat_le c 64
count_fits keyed c = nat_le c 64

-- without a key
abbrev pub keyless : Child → Bool
keyless c = length c.0 == 0

-- the key is below that of the first child
abbrev pub key_under : Text → List Child → Bool
key_under k [] = true
key_under k (c ∷ cs) = is_lt (text_order k c.0)

-- keys ascend strictly
abbrev pub keys_rise : List Child → Bool
keys_rise [] = true
keys_rise (c ∷ cs) = key_under c.0 cs && keys_rise cs

-- keys stand in records only, and ascend there
abbrev pub keys_fit : Children → List Child → Bool
keys_fit (exactly n) cs = every keyless cs
keys_fit many cs = every keyless cs
keys_fit keyed cs = keys_rise cs

-- leaf and children are of the sorts that the kind has, in their bounds
abbrev pub node_fits : NodeM → Bool
node_fits n =
    (nat_lt n.kind 17 && (sort n.leaf == (kind n.kind).leaf && leaf_fits (kind n.kind).codes n.leaf))
    && (count_fits (kind n.kind).children (length n.children) && keys_fit (kind n.kind).children n.children)
