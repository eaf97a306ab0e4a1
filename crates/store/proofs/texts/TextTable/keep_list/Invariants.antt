use Rattle.std.proofs.Common.{◌≡◌, ◌+◌, ◌++◌}
use Rattle.leaves.specs.Values.{texts_of}
use Rattle.leaves.specs.Lists.{texts_left}
use Rattle.model.specs.Costs.{texts_bytes}
use Rattle.store.specs.Pools.{pool, used, listed, Grows}
use Rattle.store.proofs.texts.TextTable.keep_list.Given as goal

-- what is left of the list leads where all of it does
abbrev pub invariant-loop-text : goal.invariant-loop-text
invariant-loop-text l =
    Grows (pool l.initial.self) (pool l.self)
    × (used (pool l.self) + texts_bytes (texts_left l.text-iterator) ≡ used (pool l.initial.self) + texts_bytes (texts_of l.list))
    × (listed (pool l.self) ++ texts_left l.text-iterator ≡ listed (pool l.initial.self) ++ texts_of l.list)
