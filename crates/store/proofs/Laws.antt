-- Laws of a store's model that hold whatever its functions do.
use Rattle.std.proofs.Common.{◌≡◌, ℕ, ◌+◌, ◌<◌, ◌≤◌, Bool, true, false, ◌&&◌, eqb, leb, List, [], ◌∷◌, ◌++◌, length, get_or, None, Option, sym, refl, ap, ◌∙◌, arith, rules}
use native.Mathlib.Decide.{dec_lt}
use borrow.Author.Tests.{lt-leb}
use Rattle.std.proofs.Math.Bool.{and-true}
use Rattle.std.proofs.lemmas.Bool.{and_right}
use Rattle.std.proofs.lemmas.List.{get_or_past}
use Rattle.terms.specs.Terms.{Leaf}
use Rattle.terms.specs.Kinds.{Children, exactly, many, keyed}
use Rattle.terms.specs.Shape.{Shape}
use Rattle.terms.specs.Fold.{as_bool, join, fold}
use Rattle.terms.specs.Bank.{Child, NodeM, Bank, nothing, node_at, gather}
use Rattle.terms.proofs.BankShapes.{closed_at}
use Rattle.model.specs.Checks.{every, keyless, keys_rise, count_fits, keys_fit}
use Rattle.model.specs.Nodes.{numbered}
use Rattle.model.specs.Build.{Sound}
use Rattle.model.proofs.Rows.{all_at, join_never}
use Rattle.codes.specs.declared.kind.Kind.{Kind}
use Rattle.codes.specs.declared.kind.Kind.TheVariants as kind
use Rattle.codes.specs.Codes.{kind_code}
use Rattle.leaves.specs.declared.text_list.Span.{Span}
use Rattle.pairs.specs.declared.link.Link.{Link}
use Rattle.store.specs.declared.parts.Node.{Node}
use Rattle.store.specs.Spans.{span_in}
use Rattle.store.specs.Pools.{Pool, plus}
use Rattle.store.specs.Tables.{model_of, Held}
use Rattle.store.proofs.Truths.{less_told}
use Rattle.store.proofs.Children.{length_numbered}
use Rattle.store.proofs.Lookups.{row_in, degree_is}
use Rattle.store.proofs.Grows.{links_now, nodes_old}

-- ---- the children of a node

-- a child of a node in the model stands among the links
module _ (nodes : List Node) (links : List Link) (s : Pool) (i : ℕ) (x : Node) (h : i < length nodes) (e : x ≡ get_or nodes i x) (held : Held nodes links s) where
  pub link_in : (j : ℕ) → j < length (node_at (model_of nodes links s) i).children → (x.links.start + j < length links) × (j < x.links.len)
  link_in j k =
      let r = row_in nodes links s i x h e held in
      let d = degree_is nodes links s i x h e held in
      (omega arith, omega arith)

-- a number without a node
abbrev void : NodeM
void = record { kind = 0; leaf = Leaf.bare; children = []; place = None }

node_past : (m : Bank) (i : ℕ) → length m ≤ i → node_at m i ≡ void
node_past m i h = get_or_past m i void h

known_by : (m : Bank) (i k : ℕ) → k < length (node_at m i).children → Dec (i < length m) → i < length m
known_by m i k h (yes l) = l
known_by m i k h (no l) = let z = ap (λ (n : NodeM). length n.children) (node_past m i (omega arith)) in absurd (omega arith)

-- what has children is there
pub known_by_child : (m : Bank) (i k : ℕ) → k < length (node_at m i).children → i < length m
known_by_child m i k h = known_by m i k h (dec_lt i (length m))

-- a child's number is below its parent's
pub child_below : (m : Bank) (i k : ℕ) → ∥ Sound m ∥₁ → k < length (node_at m i).children → (get_or (node_at m i).children k ([], 0)).1 < i
child_below m i k sound h =
    less_told _ _ sound (λ so. all_at (λ (c : Child). c.1 < i) (node_at m i).children k ([], 0) (closed_at m i _ so.closed (known_by_child m i k h)) h)

-- ---- larger tables

-- links and texts that no node has leave the model as it was
module _ (nodes : List Node) (links : List Link) (s : Pool) (ls : List Link) (m : Pool)
    (held : Held nodes links s)
    (lists : every (span_in (length s.bytes)) s.spans ≡ true)
  where
    pub model_more : model_of nodes (links ++ ls) (plus s m) ≡ model_of nodes links s
    unfolding model_of
    model_more = rw (links_now nodes links s ls m held lists) (nodes_old nodes links s ls m held lists)

-- a span within some members lies within more
pub span_in_more : (m n : ℕ) → m ≤ n → (s : Span) → span_in m s ≡ true → span_in n s ≡ true
span_in_more m n h s e = search rules

-- ---- children without keys, as their kind has them

-- what is asked of how many there are
abbrev pub fit_plain : Children → ℕ → Bool
fit_plain (exactly n) k = eqb k n
fit_plain many k = leb k 64
fit_plain keyed k = leb k 1

keyless_numbered : (is : List ℕ) → every keyless (numbered is) ≡ true
keyless_numbered [] = refl
keyless_numbered (i ∷ is) = keyless_numbered is

-- two empty keys do not ascend
rise_numbered : (is : List ℕ) → (leb (length (numbered is)) 64 && keys_rise (numbered is)) ≡ leb (length is) 1
rise_numbered [] = refl
rise_numbered (i ∷ []) = refl
rise_numbered (i ∷ j ∷ is) = and_right _ false refl ∙ sym (lt-leb (length (i ∷ j ∷ is)) 1 (omega arith))

-- numbers alone suit a kind by how many there are
pub fit_numbered : (m : Children) (is : List ℕ) → (count_fits m (length (numbered is)) && keys_fit m (numbered is)) ≡ fit_plain m (length is)
fit_numbered (exactly n) is = ap (λ b. eqb (length (numbered is)) n && b) (keyless_numbered is) ∙ and-true _ ∙ ap (λ k. eqb k n) (length_numbered is)
fit_numbered many is = ap (λ b. leb (length (numbered is)) 64 && b) (keyless_numbered is) ∙ and-true _ ∙ ap (λ k. leb k 64) (length_numbered is)
fit_numbered keyed is = rise_numbered is

-- ---- what nodes over booleans come to

-- a kind that is neither And nor Or
pub never : (k : Kind) (a b : Option Bool) → (k ≡ kind.And → ⊥) → (k ≡ kind.Or → ⊥) → join (kind_code k) a b ≡ None
never kind.Lit a b p q = join_never 0 a b refl refl
never kind.Var a b p q = join_never 1 a b refl refl
never kind.Slot a b p q = join_never 2 a b refl refl
never kind.Unknown a b p q = join_never 3 a b refl refl
never kind.If a b p q = join_never 4 a b refl refl
never kind.And a b p q = absurd (p refl)
never kind.Or a b p q = absurd (q refl)
never kind.UnaryApp a b p q = join_never 7 a b refl refl
never kind.BinaryApp a b p q = join_never 8 a b refl refl
never kind.ExtensionFunctionApp a b p q = join_never 9 a b refl refl
never kind.GetAttr a b p q = join_never 10 a b refl refl
never kind.HasAttr a b p q = join_never 11 a b refl refl
never kind.ExtHasAttr a b p q = join_never 12 a b refl refl
never kind.Like a b p q = join_never 13 a b refl refl
never kind.Set a b p q = join_never 14 a b refl refl
never kind.Record a b p q = join_never 15 a b refl refl
never kind.Is a b p q = join_never 16 a b refl refl

-- two children
pub fold_two : (k : ℕ) (ss : List Shape) (cs : List Child) → length cs ≡ 2
    → fold k (gather ss cs) ≡ join k (as_bool (get_or ss (get_or cs 0 ([], 0)).1 nothing)) (as_bool (get_or ss (get_or cs 1 ([], 0)).1 nothing))
fold_two k ss [] e = absurd (omega arith)
fold_two k ss (a ∷ []) e = absurd (omega arith)
fold_two k ss (a ∷ b ∷ []) e = refl
fold_two k ss (a ∷ b ∷ c ∷ cs) e = absurd (omega arith)
