-- What a table makes of a list of nodes, whatever it makes.
use Rattle.std.proofs.Common.{◌≡◌, ℕ, zero, suc, ◌+◌, ◌<◌, ◌≤◌, List, [], ◌∷◌, ◌++◌, length, get_or, take, sym, refl, ap, ◌∙◌, arith}
use Rattle.std.proofs.lemmas.List.{take_all, get_or_push, length_push, take_at, take-take, get_or-take}
use Rattle.terms.specs.Bank.{NodeM, Bank, table}

module _ {A : Type 0} (f : List A → NodeM → A) where
  pub table_append : (acc : List A) (ns ms : Bank) → table f acc (ns ++ ms) ≡ table f (table f acc ns) ms
  table_append acc [] ms = refl
  table_append acc (n ∷ ns) ms = table_append (acc ++ (f acc n ∷ [])) ns ms

  pub table_length : (acc : List A) (ns : Bank) → length (table f acc ns) ≡ length acc + length ns
  table_length acc [] = omega arith
  table_length acc (n ∷ ns) = let e = table_length (acc ++ (f acc n ∷ [])) ns in let l = length_push acc (f acc n) in omega arith

  pub table_take : (acc : List A) (ns : Bank) → take (length acc) (table f acc ns) ≡ acc
  table_take acc [] = take_all (length acc) acc (omega arith)
  table_take acc (n ∷ ns) =
      let more = acc ++ (f acc n ∷ []) in
      let l : length acc ≤ length more = omega (arith, length_push acc (f acc n)) in
      sym (take-take (length acc) (length more) (table f more ns) l) ∙ ap (take (length acc)) (table_take more ns) ∙ take_at acc (f acc n ∷ []) (length acc) refl

  -- what was made before is kept
  pub table_front : (acc : List A) (ns : Bank) (i : ℕ) (d : A) → i < length acc → get_or (table f acc ns) i d ≡ get_or acc i d
  table_front acc ns i d l = sym (get_or-take (length acc) (table f acc ns) i d l) ∙ ap (λ xs. get_or xs i d) (table_take acc ns)

  -- what is made of a node, from what was made before it
  pub table_at : (acc : List A) (ns : Bank) (i : ℕ) (d : A) (e : NodeM) → i < length ns → get_or (table f acc ns) (length acc + i) d ≡ f (take (length acc + i) (table f acc ns)) (get_or ns i e)
  table_at acc [] i d e l = absurd (omega arith)
  table_at acc (n ∷ ns) zero d e l =
      let more = acc ++ (f acc n ∷ []) in
      let z : length acc + 0 ≡ length acc = omega arith in
      let k : length acc < length more = omega (arith, length_push acc (f acc n)) in
      rw z (table_front more ns (length acc) d k ∙ get_or_push acc (f acc n) d (length acc) refl ∙ ap (λ xs. f xs n) (sym (table_take acc (n ∷ ns))))
  table_at acc (n ∷ ns) (suc i) d e l =
      let more = acc ++ (f acc n ∷ []) in
      let z : length acc + suc i ≡ length more + i = omega (arith, length_push acc (f acc n)) in
      rw z (table_at more ns i d e (omega arith))
