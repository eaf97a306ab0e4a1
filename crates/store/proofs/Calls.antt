-- What a call for a node comes to, from what was asked of it.
use Rattle.std.proofs.Common.{◌≡◌, ℕ, ◌+◌, ◌<◌, ◌≤◌, Bool, true, false, List, [], ◌∷◌, length, Some, None, Ok, Err, Option, Result, sym, refl, subst, arith, ltb-true, le-leb}
use Rattle.terms.specs.Terms.{Leaf}
use Rattle.terms.specs.Kinds.{Kind, kinds, kind}
use Rattle.terms.specs.Shape.{sizes}
use Rattle.terms.specs.Fold.{fold}
use Rattle.terms.specs.Formed.{All, CountOk, NodeOk}
use Rattle.terms.specs.Bank.{Child, NodeM, Bank, gather, shapes}
use Rattle.terms.specs.declared.refusal.Refusal.{Refusal}
use Rattle.terms.specs.declared.refusal.Refusal.TheVariants as refusal
use Rattle.model.specs.Checks.{Check, first_failed, every, there, node_fits}
use Rattle.model.specs.Costs.{leaf_bytes}
use Rattle.model.specs.Made.{folded_as, folded}
use Rattle.model.specs.Build.{node_short, light, has_room, asks, add, built_plain, LongOk, Fitting}
use Rattle.model.proofs.Small.{some_none, ok_err, ok_same}
use Rattle.model.proofs.Rows.{all_at}
use Rattle.model.proofs.Fits.{every_all}
use Rattle.model.proofs.Builds.{count_gather, node_ok}
use Rattle.checks.specs.Checked.{cost_unless}
use Rattle.store.specs.Stores.{checked, room_for, added, Comes}

-- ---- a node that is as its kind has it

-- no kind has more than 64 children
abbrev Few : Kind → Type 0
Few r = (n : ℕ) → CountOk r.children n → n ≤ 64

few_row : All Few kinds
few_row = (λ n e. omega arith, (λ n e. omega arith, (λ n e. omega arith, (λ n e. omega arith, (λ n e. omega arith, (λ n e. omega arith, (λ n e. omega arith, (λ n e. omega arith, (λ n e. omega arith, (λ n e. e, (λ n e. omega arith, (λ n e. omega arith, (λ n e. omega arith, (λ n e. omega arith, (λ n e. e, (λ n e. e, (λ n e. omega arith, tt)))))))))))))))))

module _ (m : Bank) (n : NodeM) (ok : NodeOk n.kind n.leaf (gather (shapes m) n.children)) where
  pub few_children : length n.children ≤ 64
  few_children =
      all_at Few kinds n.kind _ few_row ok.known (length n.children)
      (subst (CountOk (kind n.kind).children) (count_gather (shapes m) n.children) ok.number)

  -- and for which there is room
  pub fits : (k : ℕ) → every (there (length m)) n.children ≡ true
      → k ≡ leaf_bytes n.leaf
      → 1 + sizes (gather (shapes m) n.children) ≤ 65536
      → room_for m k n.children ≡ true
      → Fitting m n
  fits k known bytes size room = record {
    ok = ok;
    within = every_all (there (length m)) (λ (c : Child). c.1 < length m) (λ c e. ltb-true c.1 (length m) e) n.children known;
    light = le-leb _ 65536 size;
    room = subst (λ j. room_for m j n.children ≡ true) bytes room;
  }

-- ---- the tests of a call

-- the first three, and the others
abbrev tested : Bool → Bool → Bool → List Check → List Check
tested a b c more = (a, refusal.Node) ∷ (b, refusal.Leaf) ∷ (c, refusal.Text) ∷ more

-- of the node b that would be added
abbrev others : Bank → NodeM → List Check
others m b = (light m b, refusal.Size) ∷ (has_room m b, refusal.Room) ∷ []

stopped : (a b c : Bool) (more : List Check) (e : Refusal) → first_failed (tested a b c []) ≡ Some e → first_failed (tested a b c more) ≡ Some e
stopped true true true more e h = some_none e (sym h)
stopped true true false more e h = h
stopped true false c more e h = h
stopped false b c more e h = h

pub record Passed (a b c : Bool) : Type 0 where
  pub there : a ≡ true
  pub fits : b ≡ true
  pub short : c ≡ true

passed : (a b c : Bool) → first_failed (tested a b c []) ≡ None → Passed a b c
passed true true true h = record { there = refl; fits = refl; short = refl }
passed true true false h = some_none {A = Refusal} refusal.Text h
passed true false c h = some_none {A = Refusal} refusal.Leaf h
passed false b c h = some_none {A = Refusal} refusal.Node h

goes_on : (a b c : Bool) (more : List Check) → Passed a b c → first_failed (tested a b c more) ≡ first_failed more
goes_on a b c more p = rw (p.there, p.fits, p.short)

cost_err : (o : Option Refusal) (l : Leaf) (e : Refusal) → cost_unless o l ≡ Err e → o ≡ Some e
cost_err None l e h = ok_err (leaf_bytes l) e h
cost_err (Some x) l e h = cc

cost_ok : (o : Option Refusal) (l : Leaf) (k : ℕ) → cost_unless o l ≡ Ok k → (o ≡ None) × (leaf_bytes l ≡ k)
cost_ok None l k h = (refl, ok_same (leaf_bytes l) k h)
cost_ok (Some x) l k h = ok_err k x (sym h)

refused : (m : Bank) (b : NodeM) (o : Option Refusal) (e : Refusal) → o ≡ Some e → Comes m (add m b o) (Err e) m
refused m b o e h = subst (λ p. Comes m (add m b p) (Err e) m) (sym h) (record { answers = refl; becomes = refl })

module _ (m : Bank) (n : NodeM) where
  -- a call that is refused early
  pub call_refused : (e : Refusal) → checked m n.kind n.leaf n.children ≡ Err e → Comes m (built_plain m n) (Err e) m
  call_refused e h =
      refused m (folded m n) _ e (stopped (every (there (length m)) n.children) (node_fits n) (node_short n) (others m (folded m n)) e (cost_err _ n.leaf e h))

  module _ (k : ℕ) (h : checked m n.kind n.leaf n.children ≡ Ok k) where
    call_passed : Passed (every (there (length m)) n.children) (node_fits n) (node_short n)
    call_passed = passed _ _ _ (cost_ok _ n.leaf k h).0

    pub call_bytes : k ≡ leaf_bytes n.leaf
    call_bytes = sym (cost_ok _ n.leaf k h).1

    pub call_ok : LongOk n.leaf → fold n.kind (gather (shapes m) n.children) ≡ None → NodeOk n.kind n.leaf (gather (shapes m) n.children)
    call_ok long folds = node_ok m n long call_passed.fits call_passed.short folds

    -- and one that is not
    pub call_added : (o : Option Bool) (r : Result ℕ Refusal) (m' : Bank) → fold n.kind (gather (shapes m) n.children) ≡ o
        → Comes m (added m (folded_as n o)) r m'
        → Comes m (built_plain m n) r m'
    call_added o r m' folds comes =
        subst (λ p. Comes m (add m (folded_as n p) (first_failed (asks m n (folded_as n p)))) r m') (sym folds)
        (subst (λ p. Comes m (add m (folded_as n o) p) r m') (sym (goes_on _ _ _ (others m (folded_as n o)) call_passed)) comes)
