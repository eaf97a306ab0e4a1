-- A leaf that is kept stays what it is as the text table grows.
use Rattle.std.proofs.Common.{◌≡◌, true, ltb, List, map, length, refl, ap, ◌∙◌}
use Rattle.std.proofs.lemmas.Bool.{and_parts, and_from}
use Rattle.terms.specs.Terms as model
use Rattle.terms.specs.Terms.{Text, LiteralS}
use Rattle.terms.specs.Codes.{type_code, type_name}
use Rattle.terms.specs.declared.types.Type.{«Type»}
use Rattle.leaves.specs.declared.text_list.Span.{Span}
use Rattle.leaves.specs.declared.literal.Literal.{Literal}
use Rattle.leaves.specs.declared.literal.Literal.TheVariants as literal
use Rattle.leaves.specs.declared.leaf.Leaf.TheVariants as leaf
use Rattle.leaves.specs.declared.pattern.PatternElem.{PatternElem}
use Rattle.leaves.specs.Values.{read, pattern_of, type_by, literal_by}
use Rattle.model.specs.Checks.{every, any}
use Rattle.store.specs.Spans.{span_in}
use Rattle.store.specs.Pools.{Pool, listed, plus}
use Rattle.store.specs.Kept.{KeptLeaf, named, texts_kept, name_kept, leaf_kept, text_in, list_in, name_in, type_in, literal_in, leaf_in}
use Rattle.store.proofs.Pieces.{any_stays, mapped_same}
use Rattle.store.proofs.Grown.{span_in_stays, read_more, listed_plus, length_listed}

module _ (s m : Pool) where
  -- what lies within a pool lies within one with more
  pub name_in_stays : (p : Span) → name_in s p ≡ true → name_in (plus s m) p ≡ true
  name_in_stays p h =
      let e = and_parts (ltb 0 p.len) (list_in s p) h in
      and_from (ltb 0 p.len) (list_in (plus s m) p) e.0 (span_in_stays s.spans m.spans p e.1)

  type_in_stays : (t : «Type» Span) → type_in s t ≡ true → type_in (plus s m) t ≡ true
  type_in_stays t h = any_stays (name_in s) (name_in (plus s m)) name_in_stays (type_name t) h

  literal_in_stays : (l : Literal Span Span) → literal_in s l ≡ true → literal_in (plus s m) l ≡ true
  literal_in_stays (literal.Bool b) h = refl
  literal_in_stays (literal.Long z) h = refl
  literal_in_stays (literal.String t) h = span_in_stays s.bytes m.bytes t h
  literal_in_stays (literal.Entity n t) h =
      let p = and_parts (name_in s n) (text_in s t) h in
      and_from (name_in (plus s m) n) (text_in (plus s m) t) (name_in_stays n p.0) (span_in_stays s.bytes m.bytes t p.1)

  pub leaf_in_stays : (l : KeptLeaf) → leaf_in s l ≡ true → leaf_in (plus s m) l ≡ true
  leaf_in_stays leaf.Nothing h = refl
  leaf_in_stays (leaf.Literal l) h = literal_in_stays l h
  leaf_in_stays (leaf.Code c) h = refl
  leaf_in_stays (leaf.Unknown u) h =
      let p = and_parts (text_in s u.name) (any (type_in s) u.type_annotation) h in
      and_from (text_in (plus s m) u.name) (any (type_in (plus s m)) u.type_annotation) (span_in_stays s.bytes m.bytes u.name p.0)
      (any_stays (type_in s) (type_in (plus s m)) type_in_stays u.type_annotation p.1)
  leaf_in_stays (leaf.Name n) h = name_in_stays n h
  leaf_in_stays (leaf.Text t) h = span_in_stays s.bytes m.bytes t h
  leaf_in_stays (leaf.Texts p) h = span_in_stays s.spans m.spans p h
  leaf_in_stays (leaf.Pattern p) h = span_in_stays s.elems m.elems p h

module _ (s m : Pool) (inside : every (span_in (length s.bytes)) s.spans ≡ true) where
  -- and reads the same there
  list_stays : (p : Span) → list_in s p ≡ true → texts_kept (plus s m) p ≡ texts_kept s p
  list_stays p h =
      let l = length_listed s in
      ap (λ (us : List Text). read us p) (listed_plus s m inside)
      ∙ read_more (listed s) (map (read (plus s m).bytes) m.spans) p (rw l h)

  name_stays : (p : Span) → name_in s p ≡ true → name_kept (plus s m) p ≡ name_kept s p
  name_stays p h = ap named (list_stays p (and_parts (ltb 0 p.len) (list_in s p) h).1)

  type_stays : (t : «Type» Span) → type_in s t ≡ true → type_by (name_kept (plus s m)) t ≡ type_by (name_kept s) t
  type_stays t h = ap (λ n. record { code = type_code t; name = n }) (mapped_same (name_in s) (name_kept (plus s m)) (name_kept s) name_stays (type_name t) h)

  literal_stays : (l : Literal Span Span) → literal_in s l ≡ true → literal_by (read (plus s m).bytes) (name_kept (plus s m)) l ≡ literal_by (read s.bytes) (name_kept s) l
  literal_stays (literal.Bool b) h = refl
  literal_stays (literal.Long z) h = refl
  literal_stays (literal.String t) h = ap LiteralS.string (read_more s.bytes m.bytes t h)
  literal_stays (literal.Entity n t) h =
      let p = and_parts (name_in s n) (text_in s t) h in
      let a = name_stays n p.0 in
      let b = read_more s.bytes m.bytes t p.1 in
      cc

  pub leaf_stays : (l : KeptLeaf) → leaf_in s l ≡ true → leaf_kept (plus s m) l ≡ leaf_kept s l
  leaf_stays leaf.Nothing h = refl
  leaf_stays (leaf.Literal l) h = ap model.Leaf.literal (literal_stays l h)
  leaf_stays (leaf.Code c) h = refl
  leaf_stays (leaf.Unknown u) h =
      let p = and_parts (text_in s u.name) (any (type_in s) u.type_annotation) h in
      let a = read_more s.bytes m.bytes u.name p.0 in
      let b = mapped_same (type_in s) (type_by (name_kept (plus s m))) (type_by (name_kept s)) type_stays u.type_annotation p.1 in
      cc
  leaf_stays (leaf.Name n) h = ap model.Leaf.name (name_stays n h)
  leaf_stays (leaf.Text t) h = ap model.Leaf.text (read_more s.bytes m.bytes t h)
  leaf_stays (leaf.Texts p) h = ap model.Leaf.texts (list_stays p h)
  leaf_stays (leaf.Pattern p) h = ap (λ (es : List PatternElem). model.Leaf.pattern (pattern_of es)) (read_more s.elems m.elems p h)
