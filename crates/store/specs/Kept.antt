-- Leaves as they are kept.
use Rattle.std.specs.Prelude.{Bool, true, ◌&&◌, List, [], ◌∷◌, length, nat_lt}
use Rattle.terms.specs.Terms as model
use Rattle.terms.specs.Terms.{Text, NameS, ElemS}
use Rattle.terms.specs.Codes.{type_name}
use Rattle.model.specs.Checks.{any}
use Rattle.leaves.specs.declared.text_list.Span.{Span}
use Rattle.leaves.specs.declared.literal.Literal.{Literal}
use Rattle.leaves.specs.declared.literal.Literal.TheVariants as literal
use Rattle.leaves.specs.declared.literal.Unknown.{Unknown}
use Rattle.leaves.specs.declared.leaf.Leaf.{Leaf}
use Rattle.leaves.specs.declared.leaf.Leaf.TheVariants as leaf
use Rattle.leaves.specs.Values.{read, pattern_of, leaf_by}
use Rattle.terms.specs.declared.types.Type.{«Type»}
use Rattle.store.specs.Spans.{span_in}
use Rattle.store.specs.Pools.{Pool, listed}

-- a leaf over spans of a text table
abbrev pub KeptLeaf : Type 0
KeptLeaf = Leaf Span Span Span Span

-- a name from its texts, the base first
abbrev pub named : List Text → NameS
named [] = record { base = []; namespaces = [] }
named (t ∷ ts) = record { base = t; namespaces = ts }

-- the texts of a list
abbrev pub texts_kept : Pool → Span → List Text
texts_kept s p = read (listed s) p

-- a name: its base and its namespaces as one list
abbrev pub name_kept : Pool → Span → NameS
name_kept s p = named (texts_kept s p)

-- the elements of a pattern
abbrev pub pattern_kept : Pool → Span → List ElemS
pattern_kept s p = pattern_of (read s.elems p)

-- a leaf, read in its table
abbrev pub leaf_kept : Pool → KeptLeaf → model.Leaf
leaf_kept s l = leaf_by (read s.bytes) (name_kept s) (texts_kept s) (pattern_kept s) l

-- ---- whether it lies within its table

-- a text within the bytes
abbrev pub text_in : Pool → Span → Bool
text_in s p = span_in (length s.bytes) p

-- a list within the spans
abbrev pub list_in : Pool → Span → Bool
list_in s p = span_in (length s.spans) p

-- a name has a base
abbrev pub name_in : Pool → Span → Bool
name_in s p = nat_lt 0 p.len && list_in s p

-- a type, whose name lies there, if it has one
abbrev pub type_in : Pool → «Type» Span → Bool
type_in s t = any (name_in s) (type_name t)

-- a literal, whose texts lie there
abbrev pub literal_in : Pool → Literal Span Span → Bool
literal_in s (literal.Bool b) = true
literal_in s (literal.Long z) = true
literal_in s (literal.String t) = text_in s t
literal_in s (literal.Entity n t) = name_in s n && text_in s t

-- an unknown, whose name and type lie there
abbrev pub unknown_in : Pool → Unknown Span Span → Bool
unknown_in s u = text_in s u.name && any (type_in s) u.type_annotation

-- a leaf, all of which lies there
abbrev pub leaf_in : Pool → KeptLeaf → Bool
leaf_in s leaf.Nothing = true
leaf_in s (leaf.Literal l) = literal_in s l
leaf_in s (leaf.Code c) = true
leaf_in s (leaf.Unknown u) = unknown_in s u
leaf_in s (leaf.Name n) = name_in s n
leaf_in s (leaf.Text t) = text_in s t
leaf_in s (leaf.Texts p) = list_in s p
leaf_in s (leaf.Pattern p) = span_in (length s.elems) p
