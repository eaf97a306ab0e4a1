-- Links over key bytes that grow at the end.
use Rattle.std.proofs.Common.{◌≡◌, ℕ, ◌+◌, ◌≤◌, true, List, [], ◌∷◌, ◌++◌, map, length, take, drop, refl, ap, ◌∙◌, arith}
use Rattle.std.proofs.Math.Seq.{drop-append_seam}
use Rattle.std.specs.List.{insert}
use Rattle.std.proofs.lemmas.List.{length-drop, take-append-le, drop-append-le, take_all, map-append, take-map, drop-map}
use Rattle.std.proofs.lemmas.Bool.{and_parts, and_from, leb-true, le-leb}
use Rattle.terms.specs.Terms.{Text}
use Rattle.leaves.specs.Values.{read}
use Rattle.model.specs.Checks.{every}
use Rattle.pairs.specs.declared.link.Link.{Link}
use Rattle.pairs.specs.Links.{child_of, children_of, inside}
use Rattle.pairs.proofs.Inserts.{every_inserted}

-- bytes at the end leave a part before them as it was
part_kept : {A : Type 0} (xs ys : List A) (i n : ℕ) → i + n ≤ length xs → take n (drop i (xs ++ ys)) ≡ take n (drop i xs)
part_kept xs ys i n h =
    let l : n ≤ length (drop i xs) = omega (arith, length-drop i xs) in
    ap (take n) (drop-append-le i xs ys (omega arith)) ∙ take-append-le n (drop i xs) ys l

children_kept : (bs more : Text) (ls : List Link) → every (inside (length bs)) ls ≡ true → children_of (bs ++ more) ls ≡ children_of bs ls
children_kept bs more [] h = refl
children_kept bs more (l ∷ ls) h =
    let p = and_parts _ _ h in
    λ j. (part_kept bs more l.key.start l.key.len (leb-true _ _ p.0) j, l.child) ∷ children_kept bs more ls p.1 j

-- what lies inside n bytes lies inside more
inside_more : (n m : ℕ) (ls : List Link) → n ≤ m → every (inside n) ls ≡ true → every (inside m) ls ≡ true
inside_more n m [] h e = refl
inside_more n m (l ∷ ls) h e =
    let p = and_parts _ _ e in
    let s = leb-true (l.key.start + l.key.len) n p.0 in
    and_from _ _ (le-leb _ _ (omega arith)) (inside_more n m ls h p.1)

-- a link whose key is put after all others
abbrev last : ℕ → Text → ℕ → Link
last s k n = record { key = record { start = s; len = length k }; child = n }

pub children_put : (bs k : Text) (ls : List Link) (i n s : ℕ) → s ≡ length bs → every (inside s) ls ≡ true → children_of (bs ++ k) (insert ls i (last s k n)) ≡ insert (children_of bs ls) i (k, n)
children_put bs k ls i n s e h =
    let of = child_of (bs ++ k) in
    let here : read (bs ++ k) (last s k n).key ≡ k = rw (e, drop-append_seam) (take_all (length k) k (omega arith)) in
    let more = children_kept bs k ls (rw e at h) in
    let moved : children_of (bs ++ k) (insert ls i (last s k n)) ≡ insert (map of ls) i (of (last s k n)) = simp (map-append, take-map, drop-map) in
    moved ∙ (λ j. insert (more j) i (here j, n))

pub inside_put : (k : Text) (ls : List Link) (i n s m : ℕ) → m ≡ s + length k → every (inside s) ls ≡ true → every (inside m) (insert ls i (last s k n)) ≡ true
inside_put k ls i n s m e h = every_inserted (inside m) ls i (last s k n) (le-leb (s + length k) m (omega arith)) (inside_more s m ls (omega arith) h)
