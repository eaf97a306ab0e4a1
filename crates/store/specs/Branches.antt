-- The children of a node to build.
use Rattle.std.specs.Prelude.{ℕ, List}
use Rattle.std.specs.Bool.{⊤}
use Rattle.std.specs.Borrow.{Bor}
use Rattle.terms.specs.Bank.{Child}
use Rattle.model.specs.Nodes.{numbered}
use Rattle.pairs.specs.Entries.{Draft}
use Rattle.pairs.specs.Iters.{pairs_left}
use Rattle.store.specs.declared.branches.Branches.{Branches}
use Rattle.store.specs.declared.branches.Branches.TheVariants as branches
use Rattle.store.specs.declared.branches.ChildIter.{ChildIter}
use Rattle.store.specs.declared.branches.ChildIter.TheVariants as iter

-- without keys, or the entries of pairs
abbrev pub branches_of : Branches → List Child
branches_of (branches.Plain is) = numbered is.now
branches_of (branches.Keyed ps) = ps.now

-- what is known of children: those of pairs are what a draft can hold
abbrev pub Drafted : Branches → Type 0
Drafted (branches.Plain is) = ⊤
Drafted (branches.Keyed ps) = Draft ps.now

-- a child with the bytes that its key points to
abbrev pub child_now : Bor (List ℕ) × ℕ → Child
child_now p = (p.0.now, p.1)

-- the children that are still to come
abbrev pub children_left : ChildIter → List Child
children_left (iter.Plain is) = numbered is.now
children_left (iter.Keyed ps) = pairs_left ps
