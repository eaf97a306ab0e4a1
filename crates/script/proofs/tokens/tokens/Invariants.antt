use Rattle.std.proofs.Common.{◌-◌, length, vec_items}
use Rattle.script.proofs.Pieces.{SoFar}
use Rattle.script.proofs.tokens.tokens.Given as goal

abbrev pub invariant-loop-token : goal.invariant-loop-token
invariant-loop-token l = SoFar l.line (vec_items l.all) l.from

abbrev pub decreases-loop-token : goal.decreases-loop-token
decreases-loop-token l = length l.line - l.from
