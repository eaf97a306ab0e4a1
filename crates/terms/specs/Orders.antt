-- The orders of the leaves. A type of several cases is laid out as a chain of sides, the least first, so that its order is that of the chain.
use Rattle.std.specs.Prelude.{ℕ, Bool, ◌⊎◌, List, ℤ, Option}
use Rattle.std.proofs.Common.{inl, inr}
use Rattle.terms.specs.Compare.{Order, bool_order, one_order, list_order, option_order, either_order, pair_order, by}
use Rattle.terms.specs.Terms.{Text, NameS, LiteralS, TypeS, ElemS, Leaf}
use Rattle.std.specs.Ordering.{nat_cmp, int_cmp}

-- texts byte by byte, the empty text first
abbrev pub text_order : Order Text
text_order = list_order nat_cmp

-- lists of texts member by member
abbrev pub texts_order : Order (List Text)
texts_order = list_order text_order

-- the base, then the namespaces as a list
abbrev pub name_parts : NameS → Text × List Text
name_parts n = (n.base, n.namespaces)

-- names by their parts
abbrev pub name_order : Order NameS
name_order = by name_parts (pair_order text_order texts_order)

-- Bool, Long, String, entity
abbrev pub LiteralSides : Type 0
LiteralSides = Bool ⊎ (ℤ ⊎ (Text ⊎ (NameS × Text)))

-- the side that a literal is on
abbrev pub literal_side : LiteralS → LiteralSides
literal_side (LiteralS.bool b) = inl b
literal_side (LiteralS.long z) = inr (inl z)
literal_side (LiteralS.string t) = inr (inr (inl t))
literal_side (LiteralS.entity n t) = inr (inr (inr (n, t)))

-- literals by their sides; false before true, Longs as signed numbers
abbrev pub literal_order : Order LiteralS
literal_order = by literal_side (either_order bool_order (either_order int_cmp (either_order text_order (pair_order name_order text_order))))

-- the code as a number, then the name
abbrev pub type_parts : TypeS → ℕ × Option NameS
type_parts t = (t.code, t.name)

-- types by their parts; no name is least
abbrev pub type_order : Order TypeS
type_order = by type_parts (pair_order nat_cmp (option_order name_order))

-- the wildcard is above every scalar
abbrev pub elem_side : ElemS → ℕ ⊎ Unit {0}
elem_side (ElemS.scalar n) = inl n
elem_side ElemS.wildcard = inr tt

-- scalars as numbers, then the wildcard
abbrev pub elem_order : Order ElemS
elem_order = by elem_side (either_order nat_cmp one_order)

-- the sorts of leaves in a row
abbrev pub LeafSides : Type 0
LeafSides = Unit {0} ⊎ (LiteralS ⊎ (ℕ ⊎ ((Text × Option TypeS) ⊎ (NameS ⊎ (Text ⊎ (List Text ⊎ List ElemS))))))

-- the side that a leaf is on
abbrev pub leaf_side : Leaf → LeafSides
leaf_side Leaf.bare = inl tt
leaf_side (Leaf.literal l) = inr (inl l)
leaf_side (Leaf.code c) = inr (inr (inl c))
leaf_side (Leaf.unknown t o) = inr (inr (inr (inl (t, o))))
leaf_side (Leaf.name n) = inr (inr (inr (inr (inl n))))
leaf_side (Leaf.text t) = inr (inr (inr (inr (inr (inl t)))))
leaf_side (Leaf.texts ts) = inr (inr (inr (inr (inr (inr (inl ts))))))
leaf_side (Leaf.pattern p) = inr (inr (inr (inr (inr (inr (inr p))))))

-- leaves by their sort, then by what they hold; two nodes of one kind have leaves of one sort
abbrev pub leaf_order : Order Leaf
leaf_order = by leaf_side (either_order one_order (either_order literal_order (either_order nat_cmp (either_order (pair_order text_order (option_order type_order)) (either_order name_order (either_order text_order (either_order texts_order (list_order elem_order))))))))
