use Rattle.std.proofs.Common.{◌≡◌}
use Rattle.terms.specs.Feed.{each, feed_text}
use Rattle.terms.specs.Hashers.{fed}
use Rattle.leaves.specs.Lists.{texts_left}
use Rattle.feeds.proofs.TextListFeed.feed.Given as goal

-- what is left of the texts leads where all of them do
abbrev pub invariant-loop-text : goal.invariant-loop-text
invariant-loop-text g l = let m = g.H.Hasher in fed m.next (m.state l.h) (each feed_text (texts_left l.text-iterator)) ≡ fed m.next (m.state l.initial.h) (each feed_text (texts_left l.initial.text-iterator))
