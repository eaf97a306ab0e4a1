use Rattle.terms.proofs.Prefix.{injective}
use Rattle.terms.proofs.ShapeFeed.{shape_code}
use Rattle.terms.proofs.laws.feed_laws.Goals as goal

pub returns : goal.returns
returns c = record { apart = shape_code.reads; injective = injective shape_code }
