use Rattle.std.proofs.Common.{List, length, ap, arith}
use Rattle.terms.specs.Shape.{sizes}
use Rattle.terms.specs.Bank.{Child, gather, shapes}
use Rattle.store.specs.Stores.{model}
use Rattle.store.proofs.Children.{next_there}
use Rattle.store.proofs.Stored.{nodes_counted, size_read}
use Rattle.store.proofs.store.Store.size_over.Goals as goal

pub get-requires : goal.get-requires
get-requires c =
    let b = c.args.self.now in
    let p = next_there (length (model b)) _ _ _ c.in-Some.ensures.steps c.loop-child.invariant.0 in
    (omega arith, omega (arith, nodes_counted b))

pub loop-child-preserved : goal.loop-child-preserved
loop-child-preserved c =
    let b = c.args.self.now in
    let e = c.in-Some.ensures.steps in
    let p = next_there (length (model b)) _ _ _ e c.loop-child.invariant.0 in
    let s = size_read b c.in-Some.child c.get.result p.0 c.get.ensures in
    let t = ap (λ (cs : List Child). sizes (gather (shapes (model b)) cs)) e in
    (p.1, omega (arith, s, t, c.loop-child.invariant.1), omega (arith, ap length e, c.loop-child.invariant.2))
