-- What is printed of a ledger, as bytes.
use Rattle.std.specs.Prelude.{ℕ, List, ◌++◌, length, codes, decimal}
use Rattle.std.specs.List.{flat_map}
use Rattle.terms.specs.Hashers.{fnv}
use Rattle.terms.specs.Terms.{Text}
use Rattle.ledger.specs.Ledgers.{LedgerS}

-- a line refused: its number and how long it is
abbrev pub refusal_line : ℕ × ℕ → List ℕ
refusal_line l = codes "line " ++ (decimal l.0 ++ (codes ": refused 3 (text): " ++ (decimal l.1 ++ codes " bytes, at most 512\n")))

-- what follows a name: its digest
abbrev pub digest_part : ℕ → List ℕ
digest_part n = codes " " ++ (decimal n ++ codes "\n")

-- a name and its digest
abbrev pub entry_line : Text → List ℕ
entry_line t = t ++ digest_part (fnv t)

-- how many lines were read, and what became of them
abbrev pub counts_line : ℕ → ℕ → ℕ → ℕ → List ℕ
counts_line r k d f = codes "read " ++ (decimal r ++ (codes ", kept " ++ (decimal k ++ (codes ", repeated " ++ (decimal d ++ (codes ", refused " ++ (decimal f ++ codes "\n")))))))

-- the refusals in the order of the lines, the names in their order, and the counts
abbrev pub report_of : LedgerS → List ℕ
report_of s = flat_map refusal_line s.refused ++ (flat_map entry_line s.names ++ counts_line s.read (length s.names) s.repeated (length s.refused))
