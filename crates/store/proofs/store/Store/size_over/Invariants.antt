use Rattle.std.proofs.Common.{◌≡◌, ◌+◌, ◌*◌, ◌≤◌, true, length}
use Rattle.terms.specs.Shape.{sizes}
use Rattle.terms.specs.Bank.{gather, shapes}
use Rattle.model.specs.Checks.{every, there}
use Rattle.store.specs.Branches.{branches_of, children_left}
use Rattle.store.specs.Stores.{model}
use Rattle.store.proofs.store.Store.size_over.Given as goal

-- the children that are left are there, and their sizes are still to be added
abbrev pub invariant-loop-child : goal.invariant-loop-child
invariant-loop-child l =
    let left = children_left l.child-iterator in
    (every (there (length (model l.self))) left ≡ true)
    × (l.size + sizes (gather (shapes (model l.self)) left) ≡ 1 + sizes (gather (shapes (model l.self)) (branches_of l.children)))
    × (l.size + 4294967295 * length left ≤ 1 + 4294967295 * 64)
