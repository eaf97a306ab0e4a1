-- What comes of lines: the names kept, the lines refused, and how many were read and repeated.
use Rattle.std.specs.Prelude.{◌≡◌, ℕ, ◌+◌, ◌≤◌, cond, List, [], ◌∷◌, ◌++◌, map, length, Ok, Err, vec_items, Result, nat_lt}
use Rattle.terms.specs.Terms.{Text}
use Rattle.terms.specs.Orders.{text_order}
use Rattle.terms.specs.declared.refusal.Refusal.{Refusal}
use Rattle.terms.specs.declared.refusal.Refusal.TheVariants as refusal
use Rattle.catalogue.specs.Placed.{stands, Among}
use Rattle.catalogue.specs.Puts.{put_names}
use Rattle.ledger.specs.declared.ledger.Ledger.{Ledger}
use Rattle.ledger.specs.declared.ledger.LongLine.{LongLine}

-- the names in order, the number and the length of each line refused, the lines read and the names repeated
pub record LedgerS : Type 0 where
  pub names : List Text
  pub refused : List (ℕ × ℕ)
  pub read : ℕ
  pub repeated : ℕ

-- a line refused, by its number and its length
abbrev pub long_of : LongLine → ℕ × ℕ
long_of l = (l.number, l.bytes)

-- what a ledger of the code stands for
abbrev pub ledger_of : Ledger → LedgerS
ledger_of l = record { names = map vec_items l.catalogue; refused = map long_of (vec_items l.refused); read = l.read; repeated = l.repeated }

-- nothing read
abbrev pub blank : LedgerS
blank = record { names = []; refused = []; read = 0; repeated = 0 }

-- the refusal of line n, where there is one
abbrev pub too_long : ℕ → Text → List (ℕ × ℕ)
too_long n t = cond (nat_lt 512 (length t)) ((n, length t) ∷ []) []

-- one where the name stands already
abbrev pub again : List Text → Text → ℕ
again ns t = cond (nat_lt 512 (length t)) 0 (cond (stands text_order t ns) 1 0)

-- one line more
abbrev pub noted : LedgerS → Text → LedgerS
noted s t = record { names = put_names s.names t; refused = s.refused ++ too_long (s.read + 1) t; read = s.read + 1; repeated = s.repeated + again s.names t }

-- more lines, the first one first
abbrev pub noted_all : LedgerS → List Text → LedgerS
noted_all s [] = s
noted_all s (t ∷ ts) = noted_all (noted s t) ts

-- the line is noted, or memory is wanting and nothing changes
abbrev pub Notes : LedgerS → Text → Result (Unit {0}) Refusal → LedgerS → Type 0
Notes s t (Ok u) after = after ≡ noted s t
Notes s t (Err e) after = (e ≡ refusal.Memory) × (after ≡ s)

-- the names are exactly the lines of at most 512 bytes
abbrev pub Exactly : List Text → List Text → Type 0
Exactly ls ns = (z : Text) → (Among z ns → Among z ls × (length z ≤ 512)) × (Among z ls × (length z ≤ 512) → Among z ns)

-- every line was read, and each is kept, repeated or refused
abbrev pub Counted : List Text → LedgerS → Type 0
Counted ls s = (s.read ≡ length ls) × (s.read ≡ length s.names + s.repeated + length s.refused)
