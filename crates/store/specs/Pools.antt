-- What a text table holds.
use Rattle.std.specs.Prelude.{◌≡◌, ℕ, ◌+◌, ◌*◌, ◌≤◌, List, ◌++◌, map, length, take}
use Rattle.terms.specs.Terms.{Text}
use Rattle.leaves.specs.declared.text_list.Span.{Span}
use Rattle.leaves.specs.declared.pattern.PatternElem.{PatternElem}
use Rattle.leaves.specs.Values.{read}
use Rattle.store.specs.declared.parts.Mark.{Mark}
use Rattle.store.specs.declared.texts.TextTable.{TextTable}

-- the bytes of all texts, the spans of the texts of lists, and the elements of patterns
pub record Pool : Type 0 where
  pub bytes : List ℕ
  pub spans : List Span
  pub elems : List PatternElem

-- the lists of a table
abbrev pub pool : TextTable → Pool
pool t = record { bytes = t.bytes; spans = t.spans; elems = t.elems }

-- a text of a list takes two bytes more than it has, and an element of a pattern four
abbrev pub used : Pool → ℕ
used s = length s.bytes + (2 * length s.spans + 4 * length s.elems)

-- the texts of all lists in turn
unfoldable pub listed : Pool → List Text
listed s = map (read s.bytes) s.spans

-- a pool with more at the end of each of its lists
abbrev pub plus : Pool → Pool → Pool
plus s m = record { bytes = s.bytes ++ m.bytes; spans = s.spans ++ m.spans; elems = s.elems ++ m.elems }

-- s' is s with more
abbrev pub Grows : Pool → Pool → Type 0
Grows s s' = (m : Pool) × (s' ≡ plus s m)

-- room for n bytes more
abbrev pub Room : Pool → ℕ → Type 0
Room s n = used s + n ≤ 16384

-- t is s with n bytes more
pub record Takes (s t : Pool) (n : ℕ) : Type 0 where
  pub grows : Grows s t
  pub bytes : used t ≡ used s + n

-- what was in use at a mark
abbrev pub upto : Pool → Mark → Pool
upto s k = record { bytes = take k.bytes s.bytes; spans = take k.spans s.spans; elems = take k.elems s.elems }
