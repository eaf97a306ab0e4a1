use Rattle.terms.proofs.Layouts.{formed_laws}
use Rattle.terms.proofs.laws.formed_laws.Goals as goal

pub returns : goal.returns
returns c = formed_laws
