use Rattle.std.proofs.Common.{length}
use Rattle.leaves.proofs.text.+compare_text.Given as goal

abbrev pub decreases-compare_text : goal.decreases-compare_text
decreases-compare_text l = length l.a.now
