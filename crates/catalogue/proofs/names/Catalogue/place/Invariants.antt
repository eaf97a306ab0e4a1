use Rattle.std.proofs.Common.{◌-◌, ◌≤◌, [], map, length, vec_items}
use Rattle.terms.proofs.LeafLaws.{text_laws}
use Rattle.catalogue.proofs.Places.{Below, Above}
use Rattle.catalogue.proofs.names.Catalogue.place.Given as goal

abbrev pub invariant-loop-low : goal.invariant-loop-low
invariant-loop-low l =
    (l.low ≤ l.high) × (l.high ≤ length l.self)
    × Below text_laws l.name (map vec_items l.self) [] l.low
    × Above text_laws l.name (map vec_items l.self) [] l.high

abbrev pub decreases-loop-low : goal.decreases-loop-low
decreases-loop-low l = l.high - l.low
