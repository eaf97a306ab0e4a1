use Rattle.std.proofs.Common.{ap}
use Rattle.std.specs.Option.{option_map}
use Rattle.leaves.specs.Values.{type_of}
use Rattle.model.specs.Costs.{maybe_bytes, type_bytes}
use Rattle.store.proofs.Grown.{takes_none}
use Rattle.store.proofs.texts.TextTable.keep_annotation.Goals as goal

pub returns-in-None-clause-takes : goal.returns-in-None-clause-takes
returns-in-None-clause-takes c = takes_none _ _ (ap (λ x. maybe_bytes type_bytes (option_map type_of x)) c.in-None.is)
