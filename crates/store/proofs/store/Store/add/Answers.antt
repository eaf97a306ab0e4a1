use Rattle.std.proofs.Common.{◌≡◌, true, arith}
use Rattle.store.specs.Branches.{branches_of}
use Rattle.store.specs.Stores.{model, asked, room_for}
use Rattle.store.proofs.Calls.{few_children, fits}
use Rattle.store.proofs.store.Store.add.Goals as goal

pub size_over-tally-requires-clause-few : goal.size_over-tally-requires-clause-few
size_over-tally-requires-clause-few c = few_children (model c.args.self.now) (asked c.args.call) c.requires.ok

pub place-requires-clause-fits : goal.place-requires-clause-fits
place-requires-clause-fits c =
    let room : room_for (model c.args.self.now) c.args.bytes (branches_of c.args.call.children) ≡ true = cc in
    fits (model c.args.self.now) (asked c.args.call) c.requires.ok c.args.bytes c.requires.known c.requires.bytes (omega (arith, c.size_over-tally.ensures)) room
