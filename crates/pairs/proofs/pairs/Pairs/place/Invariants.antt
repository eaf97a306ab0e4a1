use Rattle.std.proofs.Common.{◌-◌, ◌≤◌, length}
use Rattle.pairs.proofs.Places.{Below, Above}
use Rattle.pairs.proofs.pairs.Pairs.place.Given as goal

abbrev pub invariant-loop-low : goal.invariant-loop-low
invariant-loop-low l =
    (l.low ≤ l.high) × (l.high ≤ length l.self)
    × Below l.key l.self l.low
    × Above l.key l.self l.high

abbrev pub decreases-loop-low : goal.decreases-loop-low
decreases-loop-low l = l.high - l.low
