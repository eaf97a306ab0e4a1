-- Which shapes a bank with room can hold: each part in its bounds, leaf and children as the table of kinds has them, and nothing left to fold.
use Rattle.std.specs.Prelude.{◌≡◌, ℕ, ◌<◌, ◌≤◌, ◌⊎◌, List, [], ◌∷◌, length, is_some, IfSome, None, FitsSigned, nat_le}
use Rattle.std.specs.declared.cmp.Ordering.TheVariants.{Less}
use Rattle.std.specs.Int.{w64}
use Rattle.terms.specs.Terms.{Text, NameS, LiteralS, TypeS, ElemS, Leaf}
use Rattle.terms.specs.Orders.{text_order}
use Rattle.terms.specs.Kinds.{Children, exactly, many, keyed, kind, sort}
use Rattle.terms.specs.Shape.{Shape, node, Shapes, done, entry, count}
use Rattle.terms.specs.Fold.{fold}

-- P of each member
abbrev pub All : {A : Type 0} → (A → Type 0) → List A → Type 0
All P [] = Unit {0}
All P (x ∷ xs) = P x × All P xs

-- at most 512 bytes, any bytes
abbrev pub TextOk : Text → Type 0
TextOk t = length t ≤ 512

-- a base that isn't empty, and at most 8 namespaces
abbrev pub NameOk : NameS → Type 0
NameOk n = (0 < length n.base) × TextOk n.base × (length n.namespaces ≤ 8) × All TextOk n.namespaces

-- a Long has 64 bits
abbrev pub LiteralOk : LiteralS → Type 0
LiteralOk (LiteralS.bool b) = Unit {0}
LiteralOk (LiteralS.long z) = FitsSigned w64 z
LiteralOk (LiteralS.string t) = TextOk t
LiteralOk (LiteralS.entity n t) = NameOk n × TextOk t

-- a name exactly at 5 and 6
abbrev pub TypeOk : TypeS → Type 0
TypeOk t = (t.code < 7) × (is_some t.name ≡ nat_le 5 t.code) × IfSome t.name NameOk

-- a Unicode scalar value
abbrev pub ElemOk : ElemS → Type 0
ElemOk (ElemS.scalar n) = (n < 55296) ⊎ ((57343 < n) × (n < 1114112))
ElemOk ElemS.wildcard = Unit {0}

-- a leaf in its bounds, where a code is below b; an attribute list has 2 to 16 texts
abbrev pub LeafOk : ℕ → Leaf → Type 0
LeafOk b Leaf.bare = Unit {0}
LeafOk b (Leaf.literal l) = LiteralOk l
LeafOk b (Leaf.code c) = c < b
LeafOk b (Leaf.unknown t o) = TextOk t × IfSome o TypeOk
LeafOk b (Leaf.name n) = NameOk n
LeafOk b (Leaf.text t) = TextOk t
LeafOk b (Leaf.texts ts) = (1 < length ts) × (length ts ≤ 16) × All TextOk ts
LeafOk b (Leaf.pattern p) = (length p ≤ 256) × All ElemOk p

-- as many children as the kind has, or a list of at most 64
abbrev pub CountOk : Children → ℕ → Type 0
CountOk (exactly n) c = c ≡ n
CountOk many c = c ≤ 64
CountOk keyed c = c ≤ 64

-- keys stand in records only
abbrev pub KeyOk : Children → Text → Type 0
KeyOk (exactly n) k = k ≡ []
KeyOk many k = k ≡ []
KeyOk keyed k = TextOk k

-- each key
abbrev pub KeysOk : Children → Shapes → Type 0
KeysOk m done = Unit {0}
KeysOk m (entry k s r) = KeyOk m k × KeysOk m r

-- k is below the first key
abbrev pub Below : Text → Shapes → Type 0
Below k done = Unit {0}
Below k (entry j t q) = text_order k j ≡ Less

-- each key is below the next
abbrev pub Rising : Shapes → Type 0
Rising done = Unit {0}
Rising (entry k s r) = Below k r × Rising r

-- the keys of a record ascend strictly
abbrev pub RisesOk : Children → Shapes → Type 0
RisesOk (exactly n) c = Unit {0}
RisesOk many c = Unit {0}
RisesOk keyed c = Rising c

-- a node of kind k with this leaf over these children
pub record NodeOk (k : ℕ) (l : Leaf) (c : Shapes) : Type 0 where
  pub known : k < 17
  pub has : sort l ≡ (kind k).leaf
  pub leaf : LeafOk (kind k).codes l
  pub number : CountOk (kind k).children (count c)
  pub keys : KeysOk (kind k).children c
  pub rises : RisesOk (kind k).children c
  -- no And or Or over two boolean literals
  pub settled : fold k c ≡ None

-- well formed: each node is
abbrev mutual
  pub Formed : Shape → Type 0
  Formed (node k l c) = NodeOk k l c × AllFormed c

  pub AllFormed : Shapes → Type 0
  AllFormed done = Unit {0}
  AllFormed (entry k s r) = Formed s × AllFormed r
