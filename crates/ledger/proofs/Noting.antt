-- What one line more changes, by the answer of `put`.
use Rattle.std.proofs.Common.{◌≡◌, ◌+◌, List, [], ◌∷◌, ◌++◌, length, Ok, Err, arith}
use Rattle.std.proofs.lemmas.Bool.Decides.{nat_tests}
use Rattle.terms.specs.Terms.{Text}
use Rattle.terms.proofs.LeafLaws.{text_laws}
use Rattle.catalogue.specs.Puts.{Puts, put_names}
use Rattle.terms.specs.declared.refusal.Refusal.TheVariants as refusal
use Rattle.std.proofs.lemmas.List.{append-nil}
use Rattle.ledger.specs.Ledgers.{LedgerS, too_long, again, noted}
use Rattle.catalogue.specs.declared.entry.Entry.TheVariants as entry
use Rattle.catalogue.proofs.Places.{placed_longer}

-- a name that is kept makes one more
pub longer : (ns : List Text) (t : Text) (after : List Text) → Puts ns t (Ok entry.Kept) after → length after ≡ length ns + 1
longer ns t after p = grind (arith, nat_tests, p, placed_longer text_laws t ns)

-- what a ledger stands for after a line, by the answer
pub kept_is : (s : LedgerS) (t : Text) (after : List Text) → Puts s.names t (Ok entry.Kept) after → ◌≡◌ {A = LedgerS} (record { names = after; refused = s.refused; read = s.read + 1; repeated = s.repeated }) (noted s t)
kept_is s t after p =
    let names : after ≡ put_names s.names t = grind (arith, nat_tests, p) in
    let refused : s.refused ≡ s.refused ++ too_long (s.read + 1) t = grind (arith, nat_tests, p, append-nil) in
    let repeated : s.repeated ≡ s.repeated + again s.names t = grind (arith, nat_tests, p) in
    (λ i. record { names = names i; refused = refused i; read = s.read + 1; repeated = repeated i })

pub repeated_is : (s : LedgerS) (t : Text) (after : List Text) → Puts s.names t (Ok entry.Repeated) after → ◌≡◌ {A = LedgerS} (record { names = after; refused = s.refused; read = s.read + 1; repeated = s.repeated + 1 }) (noted s t)
repeated_is s t after p = grind (arith, nat_tests, p, append-nil)

pub refused_is : (s : LedgerS) (t : Text) (after : List Text) → Puts s.names t (Err refusal.Text) after → ◌≡◌ {A = LedgerS} (record { names = after; refused = s.refused ++ (s.read + 1, length t) ∷ []; read = s.read + 1; repeated = s.repeated }) (noted s t)
refused_is s t after p = grind (arith, nat_tests, p)
