use Rattle.std.proofs.Common.{◌≡◌, ◌+◌, false, drop}
use Rattle.script.specs.Tokens.{piece_len}
use Rattle.script.proofs.tokens.token_len.Given as goal

abbrev pub invariant-loop-i : goal.invariant-loop-i
invariant-loop-i l = l.i + piece_len l.quoted (drop l.i l.text) ≡ piece_len false l.text
