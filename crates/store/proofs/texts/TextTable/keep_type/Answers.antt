use Rattle.std.proofs.Common.{ap}
use Rattle.leaves.specs.Values.{type_of}
use Rattle.model.specs.Costs.{type_bytes}
use Rattle.store.proofs.Grown.{takes_none}
use Rattle.store.proofs.texts.TextTable.keep_type.Goals as goal

pub returns-in-Bool-clause-takes : goal.returns-in-Bool-clause-takes
returns-in-Bool-clause-takes c = takes_none _ _ (ap (λ x. type_bytes (type_of x)) c.in-Bool.is)

pub returns-in-Long-clause-takes : goal.returns-in-Long-clause-takes
returns-in-Long-clause-takes c = takes_none _ _ (ap (λ x. type_bytes (type_of x)) c.in-Long.is)

pub returns-in-String-clause-takes : goal.returns-in-String-clause-takes
returns-in-String-clause-takes c = takes_none _ _ (ap (λ x. type_bytes (type_of x)) c.in-String.is)

pub returns-in-Set-clause-takes : goal.returns-in-Set-clause-takes
returns-in-Set-clause-takes c = takes_none _ _ (ap (λ x. type_bytes (type_of x)) c.in-Set.is)

pub returns-in-Record-clause-takes : goal.returns-in-Record-clause-takes
returns-in-Record-clause-takes c = takes_none _ _ (ap (λ x. type_bytes (type_of x)) c.in-Record.is)
