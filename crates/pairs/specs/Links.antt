-- What links stand for, over the key bytes that go with them.
use Rattle.std.specs.Prelude.{ℕ, ◌+◌, Bool, List, map, nat_le}
use Rattle.terms.specs.Terms.{Text}
use Rattle.terms.specs.Bank.{Child}
use Rattle.leaves.specs.Values.{read}
use Rattle.pairs.specs.declared.link.Link.{Link}

-- the key with the node's number
abbrev pub child_of : Text → Link → Child
child_of bytes l = (read bytes l.key, l.child)

-- the links in turn
abbrev pub children_of : Text → List Link → List Child
children_of bytes ls = map (child_of bytes) ls

-- the key lies inside n bytes
abbrev pub inside : ℕ → Link → Bool
inside n l = nat_le (l.key.start + l.key.len) n
