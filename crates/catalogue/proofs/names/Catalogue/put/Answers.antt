use Rattle.std.proofs.Common.{◌≡◌, true, map, vec_items, refl, ap}
use Rattle.terms.specs.Orders.{text_order}
use Rattle.terms.proofs.LeafLaws.{text_laws}
use Rattle.catalogue.specs.Placed.{placed, rises}
use Rattle.catalogue.specs.Puts.{texts}
use Rattle.catalogue.proofs.Places.{stands_among, rises_placed}
use Rattle.catalogue.proofs.Putting.{kept, puts_kept, settles_kept}
use Rattle.catalogue.proofs.names.Catalogue.put.Goals as goal

pub returns-in_default-clause-settles : goal.returns-in_default-clause-settles
returns-in_default-clause-settles c = (stands_among text_laws c.args.name.now (map vec_items c.args.self.now) c.in_default.ensures.0, refl)

added : (c : goal.In_ok-insert) → texts c.insert.new.self ≡ placed text_order c.args.name.now (map vec_items c.args.self.now)
added c = kept c.self.inside.names.items c.insert.new.self.items (map vec_items c.args.self.now) c.args.name.now c.in-Err.place c.in_ok-copy.copy (ap (map vec_items) c.self.view_is) c.in_ok-insert.ensures.items c.in_ok-copy.ensures.items c.in-Err.ensures

risen : (c : goal.In_ok-insert) → rises text_order (texts c.insert.new.self) ≡ true
risen c = rw (added c) (rises_placed text_laws c.args.name.now (map vec_items c.args.self.now) (rw (← c.self.view_is) c.self.invariant))

pub invariant_of-self-2 : goal.invariant_of-self-2
invariant_of-self-2 c = risen c

pub returns : goal.returns
returns c =
    let ns = (map vec_items c.args.self.now) in
    let t = c.args.name.now in
    record { value = puts_kept ns _ t c.if-name-gt-LONGEST.false c.in-Err.ensures.0 (added c); settles = settles_kept ns t _ c.in-Err.ensures.0 (added c); ascend = risen c }
