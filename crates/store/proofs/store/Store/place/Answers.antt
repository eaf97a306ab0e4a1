use Rattle.std.proofs.Common.{◌<◌, length, arith, ltb-true}
use Rattle.terms.specs.Bank.{Bank, NodeM}
use Rattle.model.specs.Build.{Fitting}
use Rattle.model.proofs.Small.{and_left}
use Rattle.leaves.specs.Values.{leaf_of}
use Rattle.store.specs.Pools.{pool}
use Rattle.store.specs.Branches.{branches_of}
use Rattle.store.specs.Stores.{model, asked}
use Rattle.store.proofs.Places.{Placed, placed}
use Rattle.store.proofs.Stored.{nodes_counted}
use Rattle.store.proofs.store.Store.place.Goals as goal

-- a bank that takes a node has a place for it
place_left : (m : Bank) (n : NodeM) → Fitting m n → length m < 512
place_left m n f = ltb-true (length m) 512 (and_left _ _ f.room)

pub push-requires : goal.push-requires
push-requires c = omega (arith, place_left _ _ c.requires.fits, nodes_counted c.args.self.now)

put : (c : goal.After-push) → Placed c.push.new.self c.keep_links-start.new.links (pool c.keep_links-start.new.texts) (model c.args.self.now) (asked c.args.call)
put c =
    let b = c.args.self.now in
    let k = c.keep-kept.ensures in
    let l = c.keep_links-start.ensures in
    let e = c.mark-mark.ensures in
    placed b.nodes _ b.links _ (pool b.texts) (pool c.keep-kept.new.self) (pool c.keep_links-start.new.texts) (leaf_of c.args.call.leaf) (branches_of c.args.call.children) _
    b.held b.marked b.sound b.texts.inside c.keep-kept.new.self.inside c.push.ensures.rows l.entered k.takes l.takes k.leaf k.inside (omega (arith, l.first)) c.len-len.ensures.count
    e.bytes e.spans e.elems c.requires.size c.requires.fits

pub invariant_of-self : goal.invariant_of-self
invariant_of-self c = let p = put c in record { held = p.held; marked = p.marked; sound = p.sound }

pub returns-clause-number : goal.returns-clause-number
returns-clause-number c = omega (arith, c.push.ensures.place, nodes_counted c.args.self.now)

pub returns-clause-after : goal.returns-clause-after
returns-clause-after c = (put c.before).after
