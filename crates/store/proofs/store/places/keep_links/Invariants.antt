use Rattle.std.proofs.Common.{◌≡◌, ◌+◌, List, ◌++◌, length}
use Rattle.terms.specs.Bank.{Child}
use Rattle.model.specs.Costs.{keys_bytes}
use Rattle.store.specs.Pools.{pool, used, Grows}
use Rattle.store.specs.Branches.{branches_of, children_left}
use Rattle.store.specs.Stores.{Entered}
use Rattle.store.proofs.store.places.keep_links.Given as goal

-- the children so far are entered, and the others are still to be
abbrev pub invariant-loop-key : goal.invariant-loop-key
invariant-loop-key l =
    let left = children_left l.key-iterator in
    ((seen : List Child) × (Entered l.initial.links l.links (pool l.texts) seen × (seen ++ left ≡ branches_of l.children)))
    × Grows (pool l.initial.texts) (pool l.texts)
    × (used (pool l.texts) + keys_bytes left ≡ used (pool l.initial.texts) + keys_bytes (branches_of l.children))
    × (length l.links + length left ≡ length l.initial.links + length (branches_of l.children))
