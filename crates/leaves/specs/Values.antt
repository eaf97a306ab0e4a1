-- What the values of the code stand for.
use Rattle.std.specs.Prelude.{List, map, take, drop, Option}
use Rattle.std.specs.Borrow.{Bor}
use Rattle.std.specs.Option.{option_map}
use Rattle.terms.specs.Terms.{Text, NameS, LiteralS, TypeS, ElemS}
use Rattle.terms.specs.Codes.{type_code, type_name}
use Rattle.terms.specs.declared.types.Type.{«Type»}
use Rattle.leaves.specs.declared.text.Text as given
use Rattle.leaves.specs.Texts.{text_of}
use Rattle.leaves.specs.declared.text_list.Span.{Span}
use Rattle.leaves.specs.declared.text_list.TextList.{TextList}
use Rattle.leaves.specs.declared.text_list.TextList.TheVariants as list
use Rattle.leaves.specs.declared.name.Name.{Name}
use Rattle.leaves.specs.declared.pattern.PatternElem.{PatternElem}
use Rattle.leaves.specs.declared.pattern.PatternElem.TheVariants as elem
use Rattle.leaves.specs.declared.literal.Literal.{Literal}
use Rattle.leaves.specs.declared.literal.Literal.TheVariants as literal
use Rattle.leaves.specs.declared.literal.Unknown.{Unknown}
use Rattle.leaves.specs.declared.leaf.Leaf.{Leaf}
use Rattle.leaves.specs.declared.leaf.Leaf.TheVariants as leaf
use Rattle.terms.specs.Terms as model

-- so many members from a place on, or what there is of them
abbrev pub read : {A : Type 0} → List A → Span → List A
read xs s = take s.len (drop s.start xs)

-- the texts of a list, as given or as read
abbrev pub texts_of : TextList → List Text
texts_of (list.Given ts) = map (λ x. x.now) ts.now
texts_of (list.Kept bytes spans) = map (read bytes.now) spans.now

-- the name with its texts
abbrev pub name_of : Name → NameS
name_of n = record { base = text_of n.base; namespaces = texts_of n.namespaces }

-- an element of a pattern
abbrev pub elem_of : PatternElem → ElemS
elem_of (elem.Scalar n) = ElemS.scalar n
elem_of elem.Wildcard = ElemS.wildcard

-- the elements in turn
abbrev pub pattern_of : List PatternElem → List ElemS
pattern_of p = map elem_of p

-- ---- with f and g for how texts and names are given

-- a type by its number and its name
abbrev pub type_by : {N : Type 0} → (N → NameS) → «Type» N → TypeS
type_by g t = record { code = type_code t; name = option_map g (type_name t) }

-- a literal with its texts
abbrev pub literal_by : {T N : Type 0} → (T → Text) → (N → NameS) → Literal T N → LiteralS
literal_by f g (literal.Bool b) = LiteralS.bool b
literal_by f g (literal.Long z) = LiteralS.long z
literal_by f g (literal.String t) = LiteralS.string (f t)
literal_by f g (literal.Entity n t) = LiteralS.entity (g n) (f t)

-- an unknown's name and type, as its leaf has them
abbrev pub unknown_by : {T N : Type 0} → (T → Text) → (N → NameS) → Unknown T N → Text × Option TypeS
unknown_by f g u = (f u.name, option_map (type_by g) u.type_annotation)

-- ---- texts as slices, and names over them

-- a type over such a name
abbrev pub type_of : «Type» Name → TypeS
type_of t = type_by name_of t

-- a literal over slices
abbrev pub literal_of : Literal given.Text Name → LiteralS
literal_of l = literal_by text_of name_of l

-- an unknown over slices
abbrev pub unknown_of : Unknown given.Text Name → Text × Option TypeS
unknown_of u = unknown_by text_of name_of u

-- a leaf, with h for how a list of texts is given and p for how a pattern is
abbrev pub leaf_by : {T N L P : Type 0} → (T → Text) → (N → NameS) → (L → List Text) → (P → List ElemS) → Leaf T N L P → model.Leaf
leaf_by f g h p leaf.Nothing = model.Leaf.bare
leaf_by f g h p (leaf.Literal l) = model.Leaf.literal (literal_by f g l)
leaf_by f g h p (leaf.Code c) = model.Leaf.code c
leaf_by f g h p (leaf.Unknown u) = model.Leaf.unknown (unknown_by f g u).0 (unknown_by f g u).1
leaf_by f g h p (leaf.Name n) = model.Leaf.name (g n)
leaf_by f g h p (leaf.Text t) = model.Leaf.text (f t)
leaf_by f g h p (leaf.Texts ts) = model.Leaf.texts (h ts)
leaf_by f g h p (leaf.Pattern es) = model.Leaf.pattern (p es)

-- a leaf over slices
abbrev pub GivenLeaf : Type 0
GivenLeaf = Leaf given.Text Name TextList (Bor (List PatternElem))

-- what it stands for
abbrev pub leaf_of : GivenLeaf → model.Leaf
leaf_of l = leaf_by text_of name_of texts_of (λ es. pattern_of es.now) l
