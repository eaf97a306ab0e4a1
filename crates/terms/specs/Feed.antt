-- The bytes that a shape is fed as.
use Rattle.std.specs.Prelude.{ℕ, zero, suc, ◌/◌, ◌%◌, Bool, true, false, List, [], ◌∷◌, ◌++◌, length, Some, None, Option}
use Rattle.std.specs.Int.{w64}
use Rattle.std.proofs.Common.{of_z}
use Rattle.terms.specs.Terms.{Text, NameS, LiteralS, TypeS, ElemS, Leaf}
use Rattle.terms.specs.Kinds.{Children, exactly, many, keyed, kind}
use Rattle.terms.specs.Shape.{Shape, node, Shapes, done, entry, count}

-- k bytes, least first
abbrev pub bytes : ℕ → ℕ → List ℕ
bytes zero n = []
bytes (suc k) n = n % 256 ∷ bytes k (n / 256)

-- a count is eight bytes
abbrev pub feed_number : ℕ → List ℕ
feed_number n = bytes 8 n

-- one after the other
abbrev pub each : {A : Type 0} → (A → List ℕ) → List A → List ℕ
each f [] = []
each f (x ∷ xs) = f x ++ each f xs

-- a text's length
abbrev pub feed_length : ℕ → List ℕ
feed_length n = bytes 8 n

-- a count, then the members
abbrev pub feed_list : {A : Type 0} → (A → List ℕ) → List A → List ℕ
feed_list f xs = feed_number (length xs) ++ each f xs

-- its length, then its bytes
abbrev pub feed_text : Text → List ℕ
feed_text t = feed_length (length t) ++ t

-- the base, a count and the namespaces
abbrev pub feed_name : NameS → List ℕ
feed_name n = feed_text n.base ++ feed_list feed_text n.namespaces

-- false is 0 and true is 1
abbrev pub bit : Bool → ℕ
bit false = 0
bit true = 1

-- its case, then what it holds; a Long in two's complement
abbrev pub feed_literal : LiteralS → List ℕ
feed_literal (LiteralS.bool b) = 0 ∷ bit b ∷ []
feed_literal (LiteralS.long z) = 1 ∷ bytes 8 (of_z w64 z)
feed_literal (LiteralS.string t) = 2 ∷ feed_text t
feed_literal (LiteralS.entity n t) = 3 ∷ (feed_name n ++ feed_text t)

-- a value bare, where something else says whether there is one
abbrev pub feed_maybe : {A : Type 0} → (A → List ℕ) → Option A → List ℕ
feed_maybe f None = []
feed_maybe f (Some x) = f x

-- its code, and the name if any
abbrev pub feed_type : TypeS → List ℕ
feed_type t = t.code ∷ feed_maybe feed_name t.name

-- 0 for nothing, 1 and the value
abbrev pub feed_option : {A : Type 0} → (A → List ℕ) → Option A → List ℕ
feed_option f None = 0 ∷ []
feed_option f (Some x) = 1 ∷ f x

-- 0 and four bytes for a scalar, 1 for the wildcard
abbrev pub feed_elem : ElemS → List ℕ
feed_elem (ElemS.scalar n) = 0 ∷ bytes 4 n
feed_elem ElemS.wildcard = 1 ∷ []

-- a leaf alone; the kind says which sort it is
abbrev pub feed_leaf : Leaf → List ℕ
feed_leaf Leaf.bare = []
feed_leaf (Leaf.literal l) = feed_literal l
feed_leaf (Leaf.code c) = c ∷ []
feed_leaf (Leaf.unknown t o) = feed_text t ++ feed_option feed_type o
feed_leaf (Leaf.name n) = feed_name n
feed_leaf (Leaf.text t) = feed_text t
feed_leaf (Leaf.texts ts) = feed_list feed_text ts
feed_leaf (Leaf.pattern p) = feed_list feed_elem p

-- a list's count; what the kind fixes is not fed
abbrev pub feed_count : Children → ℕ → List ℕ
feed_count (exactly n) c = []
feed_count many c = feed_number c
feed_count keyed c = feed_number c

-- keys are fed in records only
abbrev pub feed_key : Children → Text → List ℕ
feed_key (exactly n) k = []
feed_key many k = []
feed_key keyed k = feed_text k

-- the leaf before the count and the children's bytes, or after them
abbrev pub around : Bool → Children → Leaf → ℕ → List ℕ → List ℕ
around false m l n inner = feed_leaf l ++ (feed_count m n ++ inner)
around true m l n inner = feed_count m n ++ (inner ++ feed_leaf l)

-- the kind's byte, then leaf, count and children as the table of kinds has them, key before child
abbrev mutual
  pub feed : Shape → List ℕ
  feed (node k l c) = k ∷ around (kind k).last (kind k).children l (count c) (feeds c (kind k).children)

  pub feeds : Shapes → Children → List ℕ
  feeds done m = []
  feeds (entry k s r) m = feed_key m k ++ (feed s ++ feeds r m)
