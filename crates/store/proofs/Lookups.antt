-- What is read of a store's rows, said of its model.
use Rattle.std.proofs.Common.{◌≡◌, ℕ, zero, suc, ◌+◌, ◌<◌, ◌≤◌, Bool, true, false, cond, ltb, List, [], ◌∷◌, map, length, get_or, drop, Ok, Err, Result, sym, refl, ap, ◌∙◌, arith, length-drop, ltb-true}
use lib.ListN.{length-map}
use Rattle.std.proofs.lemmas.List.{get_or-map, get_or-take, get_or-drop, get_or_past, length-take-le}
use Rattle.std.proofs.lemmas.Bool.{and_parts}
use Rattle.terms.specs.Shape.{Shape, size}
use Rattle.terms.specs.Bank.{Child, NodeM, Bank, nothing, node_at, shapes, shape_at}
use Rattle.terms.specs.Refusals.{known}
use Rattle.terms.specs.declared.refusal.Refusal.{Refusal}
use Rattle.terms.specs.declared.refusal.Refusal.TheVariants as refusal
use Rattle.terms.proofs.BankShapes.{shapes_length}
use Rattle.model.specs.Checks.{every}
use Rattle.model.specs.Build.{Sound}
use Rattle.model.proofs.Small.{ok_err}
use Rattle.leaves.specs.declared.text_list.Span.{Span}
use Rattle.leaves.specs.Values.{read}
use Rattle.pairs.specs.declared.link.Link.{Link}
use Rattle.pairs.specs.Links.{child_of, children_of}
use Rattle.store.specs.declared.parts.Node.{Node}
use Rattle.store.specs.Pools.{Pool}
use Rattle.store.specs.Kept.{leaf_in}
use Rattle.store.specs.Tables.{node_of, mark_in, node_in, size_of, model_of, Held}
use Rattle.store.proofs.Truths.{less_told}
use Rattle.store.proofs.Stays.{node_parts}

pub every_at : {X : Type 0} (p : X → Bool) (xs : List X) (i : ℕ) (d : X) → i < length xs → every p xs ≡ true → p (get_or xs i d) ≡ true
every_at p [] i d h e = absurd (omega arith)
every_at p (x ∷ xs) zero d h e = (and_parts (p x) (every p xs) e).0
every_at p (x ∷ xs) (suc i) d h e = every_at p xs i d (omega arith) (and_parts (p x) (every p xs) e).1

-- a number that is not refused is a node's, and one that is refused is none
passed : (b : Bool) (u : Unit {0}) → ◌≡◌ {A = Result (Unit {0}) Refusal} (Ok u) (cond b (Ok tt) (Err refusal.Node)) → b ≡ true
passed true u e = refl
passed false u e = ok_err u refusal.Node e

pub known_below : (i n : ℕ) (u : Unit {0}) → Ok u ≡ known i n → i < n
known_below i n u e = ltb-true i n (passed (ltb i n) u e)

length_read : {X : Type 0} (xs : List X) (p : Span) → p.start + p.len ≤ length xs → length (read xs p) ≡ p.len
length_read xs p h = length-take-le p.len (drop p.start xs) (simp length-drop (omega arith))

get_or_read : {X : Type 0} (xs : List X) (p : Span) (j : ℕ) (d : X) → j < p.len → get_or (read xs p) j d ≡ get_or xs (p.start + j) d
get_or_read xs p j d h = get_or-take p.len (drop p.start xs) j d h ∙ get_or-drop p.start xs j d

size_get_or : (ss : List Shape) (i : ℕ) → get_or (map size ss) i 1 ≡ size (get_or ss i nothing)
size_get_or [] i = refl
size_get_or (x ∷ xs) zero = refl
size_get_or (x ∷ xs) (suc i) = size_get_or xs i

module _ (nodes : List Node) (links : List Link) (s : Pool) where
  pub length_model : length (model_of nodes links s) ≡ length nodes
  unfolding model_of
  length_model = length-map nodes (node_of (children_of s.bytes links) s)

  module _ (i : ℕ) (x : Node) (h : i < length nodes) (e : x ≡ get_or nodes i x) where
    pub model_at : node_at (model_of nodes links s) i ≡ node_of (children_of s.bytes links) s x
    unfolding model_of
    model_at = get_or-map (node_of (children_of s.bytes links) s) nodes i x _ h ∙ ap (node_of (children_of s.bytes links) s) (sym e)

    module _ (held : Held nodes links s) where
      -- so many links that a place among them is a u32
      pub links_few : ∥ Sound (model_of nodes links s) ∥₁ → length links < 1025
      links_few sound = less_told _ _ sound (λ so. omega (arith, held.3, so.links))

      pub size_is : x.size ≡ size (shape_at (model_of nodes links s) i)
      size_is =
          ap size_of e ∙ sym (get_or-map size_of nodes i x 1 h) ∙ ap (λ (ks : List ℕ). get_or ks i 1) held.2 ∙ size_get_or (shapes (model_of nodes links s)) i

      row_is : (x.links.start + x.links.len ≤ length links) × (leaf_in s x.leaf ≡ true) × (mark_in s x.mark ≡ true)
      row_is = node_parts (length links) s x (rw (sym e) at (every_at (node_in (length links) s) nodes i x h held.0))

      pub row_in : x.links.start + x.links.len ≤ length links
      row_in = row_is.0

      pub mark_is_in : mark_in s x.mark ≡ true
      mark_is_in = row_is.2

      kids_are : (node_at (model_of nodes links s) i).children ≡ read (children_of s.bytes links) x.links
      kids_are = ap (λ (n : NodeM). n.children) model_at

      pub degree_is : x.links.len ≡ length (node_at (model_of nodes links s) i).children
      degree_is =
          sym (ap length kids_are ∙ length_read (children_of s.bytes links) x.links (rw (length-map links (child_of s.bytes)) row_in))

      pub child_is : (j : ℕ) → j < x.links.len → (d : Link) → child_of s.bytes (get_or links (x.links.start + j) d) ≡ get_or (node_at (model_of nodes links s) i).children j ([], 0)
      child_is j k d =
          let r = row_in in
          sym (ap (λ (cs : List Child). get_or cs j ([], 0)) kids_are
          ∙ get_or_read (children_of s.bytes links) x.links j ([], 0) k
          ∙ get_or-map (child_of s.bytes) links (x.links.start + j) d ([], 0) (omega arith))

pub shape_past : (m : Bank) (i : ℕ) → length m ≤ i → shape_at m i ≡ nothing
shape_past m i h = get_or_past (shapes m) i nothing (omega (arith, shapes_length m))
