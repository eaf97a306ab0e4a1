-- What a text table holds stays as it grows.
use Rattle.std.proofs.Common.{◌≡◌, ℕ, ◌+◌, ◌≤◌, true, List, [], ◌∷◌, ◌++◌, map, length, Option, drop, sym, ap, ◌∙◌, arith, rules, leb-true, length-append, length-drop}
use lib.ListN.{length-map}
use Rattle.std.proofs.lemmas.List.{append_assoc, append-nil, map-append, map_push, drop-append-le, take-append-le}
use Rattle.std.specs.Option.{option_map}
use Rattle.terms.specs.Terms.{Text}
use Rattle.terms.specs.Codes.{type_name}
use Rattle.terms.specs.declared.types.Type.{«Type»}
use Rattle.leaves.specs.declared.text_list.Span.{Span}
use Rattle.leaves.specs.declared.pattern.PatternElem.{PatternElem}
use Rattle.leaves.specs.Values.{read, type_by}
use Rattle.model.specs.Checks.{every, any}
use Rattle.store.specs.Spans.{span_in}
use Rattle.store.specs.Pools.{Pool, listed, plus, Grows, Takes}
use Rattle.store.specs.Kept.{named, name_kept, name_in, type_in}
use Rattle.store.proofs.Pieces.{map_same, any_stays}

-- a pool whose lists are longer
pub grows_by : (s : Pool) (bytes x : List ℕ) (spans y : List Span) (elems z : List PatternElem) → bytes ≡ s.bytes ++ x → spans ≡ s.spans ++ y → elems ≡ s.elems ++ z → Grows s (record { bytes = bytes; spans = spans; elems = elems })
grows_by s bytes x spans y elems z a b c = (record { bytes = x; spans = y; elems = z }, rw (a, b, c))

-- with nothing more
pub grows_none : (s : Pool) → Grows s s
grows_none s = grows_by s s.bytes [] s.spans [] s.elems [] (sym (append-nil _)) (sym (append-nil _)) (sym (append-nil _))

-- with more twice
pub grows_on : (s t u : Pool) → Grows s t → Grows t u → Grows s u
grows_on s t u (m, e) (n, f) = (
  plus m n,
  f ∙ (rw e
      (let a = append_assoc s.bytes m.bytes n.bytes in
      let b = append_assoc s.spans m.spans n.spans in
      let c = append_assoc s.elems m.elems n.elems in
      cc)),
)

-- the same with the bytes that are taken
pub takes_none : (s : Pool) (n : ℕ) → n ≡ 0 → Takes s s n
takes_none s n e = record { grows = grows_none s; bytes = omega arith }

pub takes_on : (s t u : Pool) (m n k : ℕ) → Takes s t m → Takes t u n → k ≡ m + n → Takes s u k
takes_on s t u m n k a b e = record { grows = grows_on s t u a.grows b.grows; bytes = omega (arith, a.bytes, b.bytes) }

-- a span within a list lies within one with more
pub span_in_stays : {X : Type 0} (xs more : List X) (p : Span) → span_in (length xs) p ≡ true → span_in (length (xs ++ more)) p ≡ true
span_in_stays xs more p h = let l = length-append xs more in search rules

-- and reads the same there
pub read_more : {X : Type 0} (xs more : List X) (p : Span) → span_in (length xs) p ≡ true → read (xs ++ more) p ≡ read xs p
read_more xs more p h =
    let a : p.start + p.len ≤ length xs = leb-true _ _ h in
    let b : p.start ≤ length xs = omega arith in
    let c : p.len ≤ length (drop p.start xs) = simp length-drop (omega arith) in
    rw (drop-append-le, take-append-le)

-- the texts of lists stay, and those that are new come after them
pub listed_plus : (s m : Pool) → every (span_in (length s.bytes)) s.spans ≡ true → listed (plus s m) ≡ listed s ++ map (read (plus s m).bytes) m.spans
unfolding listed
listed_plus s m h =
    map-append (read (plus s m).bytes) s.spans m.spans
    ∙ ap (λ (ts : List Text). ts ++ map (read (plus s m).bytes) m.spans) (map_same (span_in (length s.bytes)) (read (plus s m).bytes) (read s.bytes) (read_more s.bytes m.bytes) s.spans h)

-- as many texts as spans
pub length_listed : (s : Pool) → length (listed s) ≡ length s.spans
unfolding listed
length_listed s = length-map s.spans (read s.bytes)

-- more bytes leave the texts of lists as they are
pub listed_same : (s : Pool) (bytes x : List ℕ) → bytes ≡ s.bytes ++ x → every (span_in (length s.bytes)) s.spans ≡ true → listed (record { bytes = bytes; spans = s.spans; elems = s.elems }) ≡ listed s
unfolding listed
listed_same s bytes x e h = rw e (map_same (span_in (length s.bytes)) (read (s.bytes ++ x)) (read s.bytes) (read_more s.bytes x) s.spans h)

-- one span more
pub listed_next : (s : Pool) (spans : List Span) (p : Span) → spans ≡ s.spans ++ p ∷ [] → listed (record { bytes = s.bytes; spans = spans; elems = s.elems }) ≡ listed s ++ read s.bytes p ∷ []
unfolding listed
listed_next s spans p e = rw e (map_push (read s.bytes) s.spans p)

-- what is read of the texts of lists rests on these alone
pub name_same : (s t : Pool) (p : Span) → listed t ≡ listed s → name_kept t p ≡ name_kept s p
name_same s t p e = ap (λ (us : List Text). named (read us p)) e

-- and so does whether a name lies within its table
pub name_in_same : (s t : Pool) (p : Span) → listed t ≡ listed s → name_in s p ≡ true → name_in t p ≡ true
name_in_same s t p e h =
    let a = sym (length_listed t) ∙ ap length e ∙ length_listed s in
    rw a h

-- the same of a type, where there is one
pub types_same : (s t : Pool) (o : Option («Type» Span)) → listed t ≡ listed s → option_map (type_by (name_kept t)) o ≡ option_map (type_by (name_kept s)) o
types_same s t o e = ap (λ (us : List Text). option_map (type_by (λ p. named (read us p))) o) e

pub types_in_same : (s t : Pool) (o : Option («Type» Span)) → listed t ≡ listed s → any (type_in s) o ≡ true → any (type_in t) o ≡ true
types_in_same s t o e h = any_stays (type_in s) (type_in t) (λ x k. any_stays (name_in s) (name_in t) (λ p i. name_in_same s t p e i) (type_name x) k) o h
