use Rattle.std.proofs.Common.{◌≡◌, ◌+◌, ◌-◌, ◌/◌, ◌<◌, true, [], map, length, get_or, vec_items, Less, Equal, Greater, sym, arith}
use Rattle.std.proofs.lemmas.List.{length-map}
use Rattle.terms.specs.Orders.{text_order}
use Rattle.terms.proofs.LeafLaws.{text_laws}
use Rattle.catalogue.specs.Placed.{rises}
use Rattle.catalogue.proofs.Places.{Above, lowered, raised, found, absent, placed_at, placed_found}
use Rattle.catalogue.proofs.Putting.{asked}
use Rattle.catalogue.proofs.names.Catalogue.place.Goals as goal

pub loop-low-preserved-in-Less : goal.loop-low-preserved-in-Less
loop-low-preserved-in-Less c =
    let ns = map vec_items c.args.self.now in
    let middle = c.loop-low.low + (c.loop-low.high - c.loop-low.low) / 2 in
    let within : middle < length c.args.self.now = omega arith in
    let ascends : rises text_order ns ≡ true = rw (← c.self.view_is) c.self.invariant in
    let less = asked c.self.inside.names.items c.args.self.now c.args.name.now c.as_slice.result.now middle c.index.result.now Less c.self.view_is within c.index.ensures c.as_slice.ensures.value c.in-Less.ensures in
    (omega arith, omega arith, c.loop-low.invariant.2, lowered text_laws c.args.name.now ns [] middle ascends less)

pub returns-in-Equal : goal.returns-in-Equal
returns-in-Equal c =
    let ns = map vec_items c.args.self.now in
    let n = length-map c.args.self.now vec_items in
    let middle = c.loop-low.low + (c.loop-low.high - c.loop-low.low) / 2 in
    let within : middle < length c.args.self.now = omega arith in
    let ascends : rises text_order ns ≡ true = rw (← c.self.view_is) c.self.invariant in
    let equal = asked c.self.inside.names.items c.args.self.now c.args.name.now c.as_slice.result.now middle c.index.result.now Equal c.self.view_is within c.index.ensures c.as_slice.ensures.value c.in-Equal.ensures in
    (found text_laws c.args.name.now ns [] middle (omega arith) equal, omega arith, sym (text_laws.same c.args.name.now (get_or ns middle []) equal), placed_found text_laws c.args.name.now ns [] middle ascends (omega arith) equal)

pub loop-low-preserved : goal.loop-low-preserved
loop-low-preserved c =
    let ns = map vec_items c.args.self.now in
    let n = length-map c.args.self.now vec_items in
    let middle = c.loop-low.low + (c.loop-low.high - c.loop-low.low) / 2 in
    let within : middle < length c.args.self.now = omega arith in
    let ascends : rises text_order ns ≡ true = rw (← c.self.view_is) c.self.invariant in
    let greater = asked c.self.inside.names.items c.args.self.now c.args.name.now c.as_slice.result.now middle c.index.result.now Greater c.self.view_is within c.index.ensures c.as_slice.ensures.value c.in-Greater.ensures in
    (omega arith, omega arith, raised text_laws c.args.name.now ns [] middle ascends (omega arith) greater, c.loop-low.invariant.3)

pub returns : goal.returns
returns c =
    let ns = map vec_items c.args.self.now in
    let n = length-map c.args.self.now vec_items in
    let below = c.loop-low.invariant.2 in
    let above : Above text_laws c.args.name.now ns [] c.loop-low.low = λ k l. c.loop-low.invariant.3 k (omega arith) in
    (absent text_laws c.args.name.now ns [] c.loop-low.low below above, omega arith, placed_at text_laws c.args.name.now ns [] c.loop-low.low (omega arith) below above)
