-- What building does to a bank.
use Rattle.std.proofs.Common.{◌≡◌, ℕ, suc, ◌+◌, ◌<◌, ◌≤◌, Bool, true, false, ◌&&◌, eqb, ltb, leb, List, [], ◌∷◌, ◌++◌, length, Some, None, Ok, Option, sym, refl, ap, ◌∙◌, subst, arith, ltb-true, eqb-true, leb-true}
use native.Mathlib.Decide.{dec_lt}
use Rattle.std.proofs.lemmas.List.{length_push}
use Rattle.terms.specs.Terms.{Text}
use Rattle.terms.specs.Kinds.{kind, sort}
use Rattle.terms.specs.Shape.{Shape, Shapes, done, entry, count, size}
use Rattle.terms.specs.Fold.{as_bool, fold}
use Rattle.terms.specs.Formed.{CountOk, NodeOk}
use Rattle.terms.specs.Bank.{Child, NodeM, Bank, gather, shape_of, shapes, shape_at}
use Rattle.terms.specs.declared.refusal.Refusal.{Refusal}
use Rattle.terms.specs.declared.refusal.Refusal.TheVariants as refusal
use Rattle.terms.proofs.BankShapes.{bank_laws}
use Rattle.terms.proofs.Layouts.{closed_append, ok_append}
use Rattle.model.specs.Checks.{first_failed, every, there, leaf_fits, leaf_short, count_fits, keys_fit, node_fits}
use Rattle.model.specs.Costs.{node_bytes, links_used, bytes_used}
use Rattle.model.specs.Made.{single, plain_as, plain, folded_as, folded, folded_shape, made_as, made}
use Rattle.model.specs.Build.{node_short, light, has_room, asks, add, built, after, LongOk, Fitting, Sound, BuildLaws}
use Rattle.model.proofs.Small.{some_none, ok_err, ok_same, and_left, and_right}
use Rattle.model.proofs.Rows.{join_never}
use Rattle.model.proofs.Fits.{every_all, leaf_ok, count_ok, keys_ok, rises_ok}

-- ---- what is known of a call that is not refused

-- the five tests of a call in turn
pub record Passes (m : Bank) (n b : NodeM) : Type 0 where
  pub there : every (there (length m)) n.children ≡ true
  pub fits : node_fits n ≡ true
  pub short : node_short n ≡ true
  pub light : light m b ≡ true
  pub room : has_room m b ≡ true

tests : (a b c d e : Bool)
    → first_failed ((a, refusal.Node) ∷ (b, refusal.Leaf) ∷ (c, refusal.Text) ∷ (d, refusal.Size) ∷ (e, refusal.Room) ∷ []) ≡ None
    → (a ≡ true) × (b ≡ true) × (c ≡ true) × (d ≡ true) × (e ≡ true)
tests true true true true true h = (refl, refl, refl, refl, refl)
tests true true true true false h = some_none {A = Refusal} refusal.Room h
tests true true true false e h = some_none {A = Refusal} refusal.Size h
tests true true false d e h = some_none {A = Refusal} refusal.Text h
tests true false c d e h = some_none {A = Refusal} refusal.Leaf h
tests false b c d e h = some_none {A = Refusal} refusal.Node h

pub passes : (m : Bank) (n b : NodeM) → first_failed (asks m n b) ≡ None → Passes m n b
passes m n b e =
    let h = tests (every (there (length m)) n.children) (node_fits n) (node_short n) (light m b) (has_room m b) e in
    record { there = h.0; fits = h.1; short = h.2; light = h.3; room = h.4 }

pub count_gather : (ss : List Shape) (cs : List Child) → count (gather ss cs) ≡ length cs
count_gather ss [] = refl
count_gather ss (c ∷ cs) = ap suc (count_gather ss cs)

-- the node is as its kind has it
pub node_ok : (m : Bank) (n : NodeM) → LongOk n.leaf → node_fits n ≡ true → node_short n ≡ true → fold n.kind (gather (shapes m) n.children) ≡ None
    → NodeOk n.kind n.leaf (gather (shapes m) n.children)
node_ok m n long fits short folds =
    let k = kind n.kind in
    let a = and_left _ (count_fits k.children (length n.children) && keys_fit k.children n.children) fits in
    let b = and_right (ltb n.kind 17 && (eqb (sort n.leaf) k.leaf && leaf_fits k.codes n.leaf)) _ fits in
    let c = and_right (ltb n.kind 17) _ a in
    let keys = and_right (count_fits k.children (length n.children)) _ b in
    let shorts = and_right (leaf_short n.leaf) _ short in
    record {
      known = ltb-true n.kind 17 (and_left _ _ a);
      has = eqb-true (sort n.leaf) k.leaf (and_left _ _ c);
      leaf = leaf_ok k.codes n.leaf (and_right (eqb (sort n.leaf) k.leaf) _ c) (and_left _ _ short) long;
      number = subst (CountOk k.children) (sym (count_gather (shapes m) n.children)) (count_ok k.children (length n.children) (and_left _ _ b));
      keys = keys_ok k.children (shapes m) n.children keys shorts;
      rises = rises_ok k.children (shapes m) n.children keys;
      settled = folds;
    }

-- ---- one node more

fitting : (m : Bank) (n : NodeM) (o : Option Bool) → LongOk n.leaf → fold n.kind (gather (shapes m) n.children) ≡ o → Passes m n (folded_as n o) → Fitting m (folded_as n o)
fitting m n None long f p = record {
  ok = node_ok m n long p.fits p.short f;
  within = every_all (there (length m)) (λ (c : Child). c.1 < length m) (λ c e. ltb-true c.1 (length m) e) n.children p.there;
  light = p.light;
  room = p.room;
}
fitting m n (Some b) long f p = record {
  ok = record { known = omega arith; has = refl; leaf = tt; number = refl; keys = tt; rises = tt; settled = refl };
  within = tt;
  light = p.light;
  room = p.room;
}

pub links_more : (m : Bank) (n : NodeM) → links_used (m ++ (n ∷ [])) ≡ links_used m + length n.children
links_more [] n = omega arith
links_more (x ∷ m) n = omega (arith, links_more m n)

pub bytes_more : (m : Bank) (n : NodeM) → bytes_used (m ++ (n ∷ [])) ≡ bytes_used m + node_bytes n
bytes_more [] n = omega arith
bytes_more (x ∷ m) n = omega (arith, bytes_more m n)

-- what holds of every tree before, and of the new one
each_more : (P : Shape → Type 0) (m : Bank) (n : NodeM) → ((i : ℕ) → i < length m → P (shape_at m i)) → P (shape_of (shapes m) n) → (i : ℕ) → i < length (m ++ (n ∷ [])) → Dec (i < length m) → P (shape_at (m ++ (n ∷ [])) i)
each_more P m n s f i h (yes l) = subst P (sym (bank_laws.kept m (n ∷ []) i l)) (s i l)
each_more P m n s f i h (no l) =
    let e : length m ≡ i = omega (arith, length_push m n) in
    subst (λ k. P (shape_at (m ++ (n ∷ [])) k)) e (subst P (sym (bank_laws.added m n)) f)

pub sound_more : (m : Bank) (n : NodeM) → Sound m → Fitting m n → Sound (m ++ (n ∷ []))
sound_more m n s f =
    let r = f.room in
    let p = ltb-true (length m) 512 (and_left _ _ r) in
    let q = and_right (ltb (length m) 512) _ r in
    let l = leb-true (links_used m + length n.children) 1024 (and_left _ _ q) in
    let b = leb-true (bytes_used m + node_bytes n) 16384 (and_right (leb (links_used m + length n.children) 1024) _ q) in
    record {
      closed = closed_append 0 (length m) m (n ∷ []) (omega arith) s.closed (f.within, tt);
      nodes = ok_append [] m (n ∷ []) s.nodes (f.ok, tt);
      sized = λ i h. each_more (λ t. size t ≤ 65536) m n s.sized (leb-true _ 65536 f.light) i h (dec_lt i (length m));
      places = omega (arith, length_push m n);
      links = omega (arith, links_more m n);
      bytes = omega (arith, bytes_more m n);
    }

pub sound_empty : Sound []
sound_empty = record { closed = tt; nodes = tt; sized = λ i h. absurd (omega arith); places = omega arith; links = omega arith; bytes = omega arith }

-- ---- a call

added_sound : (m : Bank) (n b : NodeM) (o : Option Refusal) → Sound m → (o ≡ None → Fitting m b) → Sound (after m (add m b o))
added_sound m n b None s f = sound_more m b s (f refl)
added_sound m n b (Some e) s f = s

plain_long : (n : NodeM) (o : Option Text) → LongOk n.leaf → LongOk (plain_as n o).leaf
plain_long n None h = h
plain_long n (Some t) h = tt

pub built_sound : (m : Bank) (n : NodeM) → LongOk n.leaf → Sound m → Sound (after m (built m n))
built_sound m n h s =
    let p = plain n in
    added_sound m p (folded m p) (first_failed (asks m p (folded m p))) s
    (λ e. fitting m p (fold p.kind (gather (shapes m) p.children)) (plain_long n (single n.kind n.leaf) h) refl (passes m p (folded m p) e))

added_kept : (m : Bank) (b : NodeM) (o : Option Refusal) (i : ℕ) → i < length m → shape_at (after m (add m b o)) i ≡ shape_at m i
added_kept m b None i h = bank_laws.kept m (b ∷ []) i h
added_kept m b (Some e) i h = refl

-- an accepted call adds the node
added_as : (m : Bank) (b : NodeM) (o : Option Refusal) (p : Bank × ℕ) → add m b o ≡ Ok p → ◌≡◌ {A = Bank × ℕ} (m ++ (b ∷ []), length m) p
added_as m b None p e = ok_same (m ++ (b ∷ []), length m) p e
added_as m b (Some k) p e = ok_err p k (sym e)

pub accepted_as : (m : Bank) (n : NodeM) (p : Bank × ℕ) → built m n ≡ Ok p → ◌≡◌ {A = Bank × ℕ} (m ++ (folded m (plain n) ∷ []), length m) p
accepted_as m n p e = added_as m (folded m (plain n)) (first_failed (asks m (plain n) (folded m (plain n)))) p e

-- ---- shapes

shape_folded : (m : Bank) (n : NodeM) (o : Option Bool) → shape_of (shapes m) (folded_as n o) ≡ folded_shape (shape_of (shapes m) n) o
shape_folded m n None = refl
shape_folded m n (Some b) = refl

-- a plain has never folds
no_fold : (c : Shapes) → fold 11 c ≡ None
no_fold done = refl
no_fold (entry i x done) = refl
no_fold (entry i x (entry j y done)) = join_never 11 (as_bool x) (as_bool y) refl refl
no_fold (entry i x (entry j y (entry h z r))) = refl

plain_shape : (m : Bank) (n : NodeM) (o : Option Text) → shape_of (shapes m) (folded m (plain_as n o)) ≡ made_as n.kind n.leaf (gather (shapes m) n.children) o
plain_shape m n None = shape_folded m n (fold n.kind (gather (shapes m) n.children))
plain_shape m n (Some t) =
    let b = plain_as n (Some t) in
    let c = gather (shapes m) n.children in
    shape_folded m b (fold 11 c) ∙ ap (folded_shape (shape_of (shapes m) b)) (no_fold c)

built_shape : (m : Bank) (n : NodeM) → shape_of (shapes m) (folded m (plain n)) ≡ made n.kind n.leaf (gather (shapes m) n.children)
built_shape m n = plain_shape m n (single n.kind n.leaf)

pub build_laws : BuildLaws
build_laws = record {
  kept = λ m n i h. added_kept m (folded m (plain n)) (first_failed (asks m (plain n) (folded m (plain n)))) i h;
  number = λ m n p e.
      let a = accepted_as m n p e in
      (sym (ap (λ (q : Bank × ℕ). q.1) a), sym (ap (λ (q : Bank × ℕ). length q.0) a) ∙ length_push m (folded m (plain n)));
  shape = λ m n p e.
      subst (λ (q : Bank × ℕ). shape_at q.0 q.1 ≡ made n.kind n.leaf (gather (shapes m) n.children)) (accepted_as m n p e)
      (bank_laws.added m (folded m (plain n)) ∙ built_shape m n);
  sound = built_sound;
  empty = sound_empty;
}
