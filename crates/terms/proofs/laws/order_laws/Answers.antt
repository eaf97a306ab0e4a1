use Rattle.terms.proofs.ShapeLaws.{shape_total}
use Rattle.terms.proofs.laws.order_laws.Goals as goal

pub returns : goal.returns
returns c = shape_total
