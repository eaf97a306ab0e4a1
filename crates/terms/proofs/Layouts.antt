-- A well-formed shape is held by the bank that it is laid out as.
use Rattle.std.proofs.Common.{◌≡◌, ℕ, suc, ◌+◌, List, [], ◌∷◌, ◌++◌, length, get_or, sym, refl, ap, ◌∙◌, subst, arith, length-append}
use Rattle.std.proofs.lemmas.List.{get_or_push}
use Rattle.terms.specs.Shape.{Shape, node, Shapes, done, entry, size, sizes}
use Rattle.terms.specs.Formed.{NodeOk, Formed, AllFormed}
use Rattle.terms.specs.Bank.{Bank, table, nothing, gather, shape_of, ClosedFrom, NodesOkOver}
use Rattle.terms.specs.Layout.{root, roots, laid_node, laid, laids, Holds, FormedLaws}
use Rattle.terms.proofs.Tables.{table_append, table_length, table_front}
use Rattle.terms.proofs.BankShapes.{Within, within_up, formed}

-- ---- how many nodes

mutual
  laid_length : (b : ℕ) (s : Shape) → length (laid b s) ≡ size s
  laid_length b (node k l c) = simp length-append (omega (arith, laids_length b c))

  laids_length : (b : ℕ) (c : Shapes) → length (laids b c) ≡ sizes c
  laids_length b done = refl
  laids_length b (entry k s r) = simp length-append (omega (arith, laid_length b s, laids_length (b + size s) r))

root_last : (b : ℕ) (s : Shape) → suc (root b s) ≡ b + size s
root_last b (node k l c) = omega arith

-- ---- the shapes of the nodes

mutual
  -- the root's shape is the tree
  laid_shape : (ss : List Shape) (b : ℕ) (s : Shape) → length ss ≡ b → get_or (table shape_of ss (laid b s)) (root b s) nothing ≡ s
  laid_shape ss b (node k l c) e =
      let n = laid_node k l (roots b c) in
      let ts = table shape_of ss (laids b c) in
      let j : length ts ≡ b + sizes c = omega (arith, table_length shape_of ss (laids b c), laids_length b c) in
      ap (λ us. get_or us (b + sizes c) nothing) (table_append shape_of ss (laids b c) (n ∷ []))
      ∙ get_or_push ts (shape_of ts n) nothing (b + sizes c) j
      ∙ ap (node k l) (laids_shapes ss b c e)

  -- and the children's roots have theirs
  laids_shapes : (ss : List Shape) (b : ℕ) (c : Shapes) → length ss ≡ b → gather (table shape_of ss (laids b c)) (roots b c) ≡ c
  laids_shapes ss b done e = refl
  laids_shapes ss b (entry k s r) e =
      let ts = table shape_of ss (laid b s) in
      let us = table shape_of ts (laids (b + size s) r) in
      let j : length ts ≡ b + size s = omega (arith, table_length shape_of ss (laid b s), laid_length b s) in
      let here : get_or us (root b s) nothing ≡ s = table_front shape_of ts (laids (b + size s) r) (root b s) nothing (omega (arith, root_last b s)) ∙ laid_shape ss b s e in
      ap (λ vs. gather vs (roots b (entry k s r))) (table_append shape_of ss (laid b s) (laids (b + size s) r))
      ∙ (λ i. entry k (here i) (laids_shapes ts (b + size s) r j i))

-- ---- children below their parents

roots_within : (b : ℕ) (c : Shapes) → Within (b + sizes c) (roots b c)
roots_within b done = tt
roots_within b (entry k s r) = (omega (arith, root_last b s), within_up ((b + size s) + sizes r) (b + (size s + sizes r)) (roots (b + size s) r) (omega arith) (roots_within (b + size s) r))

pub closed_append : (b d : ℕ) (m n : Bank) → d ≡ b + length m → ClosedFrom b m → ClosedFrom d n → ClosedFrom b (m ++ n)
closed_append b d [] n e p q = let k : d ≡ b = omega arith in subst (λ i. ClosedFrom i n) k q
closed_append b d (x ∷ m) n e p q = (p.0, closed_append (suc b) d m n (omega arith) p.1 q)

mutual
  laid_closed : (b : ℕ) (s : Shape) → ClosedFrom b (laid b s)
  laid_closed b (node k l c) = closed_append b (b + sizes c) (laids b c) (laid_node k l (roots b c) ∷ []) (omega (arith, laids_length b c)) (laids_closed b c) (roots_within b c, tt)

  laids_closed : (b : ℕ) (c : Shapes) → ClosedFrom b (laids b c)
  laids_closed b done = tt
  laids_closed b (entry k s r) = closed_append b (b + size s) (laid b s) (laids (b + size s) r) (omega (arith, laid_length b s)) (laid_closed b s) (laids_closed (b + size s) r)

-- ---- nodes as their kinds have them

pub ok_append : (ss : List Shape) (m n : Bank) → NodesOkOver ss m → NodesOkOver (table shape_of ss m) n → NodesOkOver ss (m ++ n)
ok_append ss [] n p q = q
ok_append ss (x ∷ m) n p q = (p.0, ok_append (ss ++ (shape_of ss x ∷ [])) m n p.1 q)

mutual
  laid_ok : (ss : List Shape) (b : ℕ) (s : Shape) → length ss ≡ b → Formed s → NodesOkOver ss (laid b s)
  laid_ok ss b (node k l c) e f = ok_append ss (laids b c) (laid_node k l (roots b c) ∷ []) (laids_ok ss b c e f.1) (subst (NodeOk k l) (sym (laids_shapes ss b c e)) f.0, tt)

  laids_ok : (ss : List Shape) (b : ℕ) (c : Shapes) → length ss ≡ b → AllFormed c → NodesOkOver ss (laids b c)
  laids_ok ss b done e f = tt
  laids_ok ss b (entry k s r) e f =
      let ts = table shape_of ss (laid b s) in
      let j : length ts ≡ b + size s = omega (arith, table_length shape_of ss (laid b s), laid_length b s) in
      ok_append ss (laid b s) (laids (b + size s) r) (laid_ok ss b s e f.0) (laids_ok ts (b + size s) r j f.1)

held : (s : Shape) → Formed s → Holds (laid 0 s) (root 0 s) s
held s f = record {
  closed = laid_closed 0 s;
  nodes = laid_ok [] 0 s refl f;
  within = omega (arith, root_last 0 s, laid_length 0 s);
  shape = laid_shape [] 0 s refl;
}

pub formed_laws : FormedLaws
formed_laws = record { held = held; formed = λ m i s h. subst Formed h.shape (formed m i h.closed h.nodes h.within) }
