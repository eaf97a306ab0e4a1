use Rattle.std.proofs.Common.{ap}
use Rattle.leaves.specs.Values.{leaf_of}
use Rattle.model.specs.Costs.{leaf_bytes}
use Rattle.store.proofs.Grown.{takes_none}
use Rattle.store.proofs.texts.TextTable.keep.Goals as goal

pub returns-in-Nothing-clause-takes : goal.returns-in-Nothing-clause-takes
returns-in-Nothing-clause-takes c = takes_none _ _ (ap (λ x. leaf_bytes (leaf_of x)) c.in-Nothing.is)

pub returns-in-Code-clause-takes : goal.returns-in-Code-clause-takes
returns-in-Code-clause-takes c = takes_none _ _ (ap (λ x. leaf_bytes (leaf_of x)) c.in-Code.is)
