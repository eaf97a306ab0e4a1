use Rattle.std.proofs.Common.{◌≡◌, drop}
use Rattle.terms.specs.Hashers.{fed}
use Rattle.hashers.proofs.hasher.Hasher.write_all.Given as goal

-- what is left of the bytes leads where all of them do
abbrev pub invariant-loop-b : goal.invariant-loop-b
invariant-loop-b g l = let m = g.Self.Hasher in fed m.next (m.state l.self) (drop l.b-index l.bytes) ≡ fed m.next (m.state l.initial.self) l.bytes
