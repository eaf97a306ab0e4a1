use Rattle.model.proofs.Builds.{build_laws}
use Rattle.model.proofs.build_laws.Goals as goal

pub returns : goal.returns
returns c = build_laws
