use Rattle.std.proofs.Common.{◌≡◌, drop}
use Rattle.terms.specs.Feed.{each, feed_elem}
use Rattle.terms.specs.Hashers.{fed}
use Rattle.leaves.specs.Values.{pattern_of}
use Rattle.feeds.proofs.RefSlicePatternElemFeed.feed.Given as goal

-- what is left of the elements leads where all of them do
abbrev pub invariant-loop-elem : goal.invariant-loop-elem
invariant-loop-elem g l = let m = g.H.Hasher in fed m.next (m.state l.h) (each feed_elem (pattern_of (drop l.elem-index l.elems))) ≡ fed m.next (m.state l.initial.h) (each feed_elem (pattern_of l.elems))
