-- Whole runs over lines.
use Rattle.std.proofs.Common.{◌≡◌, ◌+◌, ◌≤◌, ◌⊎◌, List, [], ◌∷◌, length, sym, ap, subst, inl, inr, arith}
use Rattle.std.proofs.lemmas.Bool.{cases_lt, lt-ltb, le-ltb}
use Rattle.terms.specs.Terms.{Text}
use Rattle.terms.proofs.LeafLaws.{text_laws}
use Rattle.catalogue.specs.Placed.{Among}
use Rattle.catalogue.specs.Puts.{put_names}
use Rattle.ledger.specs.Ledgers.{LedgerS, blank, noted, noted_all, Exactly}
use Rattle.catalogue.proofs.Places.{members_from, members_to}

-- ---- what is kept of the lines

put_from : (z t : Text) (ns : List Text) → Among z (put_names ns t) → Among z ns ⊎ ((z ≡ t) × (length z ≤ 512))
put_from z t ns m = elim (cases_lt 512 (length t)) [
  | inl long ↦ inl (rw (lt-ltb 512 (length t) long) at m)
  | inr fits ↦ elim (members_from text_laws z t ns (rw (le-ltb 512 (length t) fits) at m)) [ inl q ↦ inr (q, rw q fits) | inr n ↦ inl n ]
]

put_to : (z t : Text) (ns : List Text) → Among z ns ⊎ ((z ≡ t) × (length z ≤ 512)) → Among z (put_names ns t)
put_to z t ns m = elim (cases_lt 512 (length t)) [
  | inl long ↦ rw (lt-ltb 512 (length t) long) (elim m [ inl n ↦ n | inr p ↦ absurd (omega (arith, ap length p.0)) ])
  | inr fits ↦ rw (le-ltb 512 (length t) fits) (members_to text_laws z t ns (elim m [ inl n ↦ inr n | inr p ↦ inl p.0 ]))
]

all_from : (z : Text) (ls : List Text) (s : LedgerS) → Among z (noted_all s ls).names → Among z s.names ⊎ (Among z ls × (length z ≤ 512))
all_from z [] s m = inl m
all_from z (t ∷ ts) s m = elim (all_from z ts (noted s t) m) [
  | inl n ↦ elim (put_from z t s.names n) [ inl k ↦ inl k | inr p ↦ inr (inl p.0, p.1) ]
  | inr p ↦ inr (inr p.0, p.1)
]

all_to : (z : Text) (ls : List Text) (s : LedgerS) → Among z s.names ⊎ (Among z ls × (length z ≤ 512)) → Among z (noted_all s ls).names
all_to z [] s (inl m) = m
all_to z [] s (inr p) = absurd p.0
all_to z (t ∷ ts) s (inl m) = all_to z ts (noted s t) (inl (put_to z t s.names (inl m)))
all_to z (t ∷ ts) s (inr p) = elim p.0 [
  | inl e ↦ all_to z ts (noted s t) (inl (put_to z t s.names (inr (e, p.1))))
  | inr m ↦ all_to z ts (noted s t) (inr (m, p.1))
]

whole_from : (z : Text) (ls : List Text) → Among z (noted_all blank ls).names → Among z ls × (length z ≤ 512)
whole_from z ls m = elim (all_from z ls blank m) [ inl n ↦ absurd n | inr p ↦ p ]

-- the names of a whole run are the lines that fit
pub run_exactly : (ls : List Text) (s : LedgerS) → s ≡ noted_all blank ls → Exactly ls s.names
run_exactly ls s e z =
    (λ m. whole_from z ls (subst (λ (q : LedgerS). Among z q.names) e m), λ p. subst (λ (q : LedgerS). Among z q.names) (sym e) (all_to z ls blank (inr p)))

all_read : (ls : List Text) (s : LedgerS) → (noted_all s ls).read ≡ s.read + length ls
all_read [] s = omega arith
all_read (t ∷ ts) s = let h = all_read ts (noted s t) in omega arith

-- as many lines are read as there are
pub run_read : (ls : List Text) (s : LedgerS) → s ≡ noted_all blank ls → s.read ≡ length ls
run_read ls s e = omega (arith, ap (λ (q : LedgerS). q.read) e, all_read ls blank)
