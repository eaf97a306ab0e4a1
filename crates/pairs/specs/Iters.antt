-- Pairs one after another.
use Rattle.std.specs.Prelude.{ℕ, List}
use Rattle.std.specs.Borrow.{Bor}
use Rattle.terms.specs.Bank.{Child}
use Rattle.pairs.specs.declared.iter.Iter.{Iter}
use Rattle.pairs.specs.Links.{children_of}

-- a pair with the bytes that its key points to
abbrev pub pair_now : Bor (List ℕ) × ℕ → Child
pair_now p = (p.0.now, p.1)

-- the pairs that are left
abbrev pub pairs_left : Iter → List Child
pairs_left it = children_of it.bytes.now it.links.now
