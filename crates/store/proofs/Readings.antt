-- What is read of the bytes and the spans of a text table.
use Rattle.std.proofs.Common.{◌≡◌, ℕ, ◌-◌, ◌<◌, ◌≤◌, List, [], ◌∷◌, map, length, get_or, take, drop, sym, refl, ap, ◌∙◌, arith}
use Rattle.std.proofs.lemmas.List.{take_all, take-map, drop-map}
use Rattle.terms.specs.Terms.{Text}
use Rattle.leaves.specs.declared.text_list.Span.{Span}
use Rattle.leaves.specs.Values.{read}
use Rattle.store.specs.Pools.{Pool, listed}
use Rattle.store.specs.Kept.{named, texts_kept, name_kept}

-- a name of no texts
none_named : (f : Span → Text) (ss : List Span) → length ss ≤ 0 → record { base = []; namespaces = [] } ≡ named (map f ss)
none_named f [] h = refl
none_named f (x ∷ ss) h = absurd (omega arith)

-- a name by its first text and the others; d is what the code reads past the end
some_named : (f g : Span → Text) (ss : List Span) (d : Span) (base : Text) → f ≡ g → 0 < length ss → base ≡ g (get_or ss 0 d) → record { base = base; namespaces = map f (take (length ss - 1) (drop 1 ss)) } ≡ named (map g ss)
some_named f g [] d base q h e = absurd (omega arith)
some_named f g (x ∷ ss) d base q h e =
    let t : take (length (x ∷ ss) - 1) ss ≡ ss = take_all (length (x ∷ ss) - 1) ss (omega arith) in
    ap (λ (us : List Span). record { base = base; namespaces = map f us }) t ∙ ap (λ (b : Text). record { base = b; namespaces = map f ss }) e ∙ ap (λ (k : Span → Text). record { base = g x; namespaces = map k ss }) q

module _ (s : Pool) (p : Span) (ss : List Span) (e : ss ≡ read s.spans p) where
  -- the texts of a list are those of its spans
  texts_listed : map (read s.bytes) ss ≡ texts_kept s p
  unfolding listed
  texts_listed =
      ap (map (read s.bytes)) e
      ∙ sym (ap (take p.len) (drop-map (read s.bytes) p.start s.spans) ∙ take-map (read s.bytes) p.len (drop p.start s.spans))

  -- with what the code has for the bytes
  pub texts_read : (bs : List ℕ) → bs ≡ s.bytes → map (read bs) ss ≡ texts_kept s p
  texts_read bs b = ap (λ (t : List ℕ). map (read t) ss) b ∙ texts_listed

  -- an empty list reads as a name of empty texts
  pub name_none : length ss ≤ 0 → record { base = []; namespaces = [] } ≡ name_kept s p
  name_none h = none_named (read s.bytes) ss h ∙ ap named texts_listed

  -- and any other as its first text and the rest
  pub name_read : (bs : List ℕ) (d : Span) (base : Text) → bs ≡ s.bytes → 0 < length ss → base ≡ read s.bytes (get_or ss 0 d) → record { base = base; namespaces = map (read bs) (take (length ss - 1) (drop 1 ss)) } ≡ name_kept s p
  name_read bs d base b h f = some_named (read bs) (read s.bytes) ss d base (ap read b) h f ∙ ap named texts_listed
