use Rattle.std.proofs.Common.{[], Some, sym, ap, ◌∙◌, arith}
use Rattle.std.proofs.lemmas.Option.{slice_get-get_or, slice_get_past}
use Rattle.terms.specs.Terms.{Text}
use Rattle.terms.specs.Bank.{node_at}
use Rattle.pairs.specs.Links.{child_of}
use Rattle.store.specs.Pools.{pool}
use Rattle.store.specs.Stores.{model}
use Rattle.store.proofs.Lookups.{known_below}
use Rattle.store.proofs.Stored.{nodes_counted, degree_read, links_within, child_read}
use Rattle.store.proofs.store.Store.link.Goals as goal

pub get-node-requires : goal.get-node-requires
get-node-requires c =
    let h = known_below c.args.number c.count.result _ c.in_ok-check_node.ensures in
    omega (arith, nodes_counted c.args.self.now)

pub returns-then-place-node : goal.returns-then-place-node
returns-then-place-node c =
    let b = c.args.self.now in
    let h = known_below c.args.number c.count.result _ c.in_ok-check_node.ensures in
    let d = degree_read b c.args.number c.get-node.result (omega arith) c.get-node.ensures in
    record { value = (omega arith, sym (slice_get_past (node_at (model b) c.args.number).children c.args.place (omega arith))) }

pub overflow_add-node : goal.overflow_add-node
overflow_add-node c =
    let h = known_below c.args.number c.count.result _ c.in_ok-check_node.ensures in
    let w = links_within c.args.self.now c.args.number c.get-node.result (omega arith) c.get-node.ensures in
    omega arith

pub get-link-requires : goal.get-link-requires
get-link-requires c =
    let h = known_below c.args.number c.count.result _ c.in_ok-check_node.ensures in
    let w = links_within c.args.self.now c.args.number c.get-node.result (omega arith) c.get-node.ensures in
    omega arith

pub returns : goal.returns
returns c =
    let b = c.args.self.now in
    let i = c.args.number in
    let j = c.args.place in
    let k = c.get-link.result in
    let h = known_below i c.count.result _ c.in_ok-check_node.ensures in
    let d = degree_read b i c.get-node.result (omega arith) c.get-node.ensures in
    let e = child_read b i c.get-node.result (omega arith) c.get-node.ensures j c.if-place-node.false k in
    let f = ap (λ (t : Text). (t, k.child)) c.text.ensures ∙ ap (child_of (pool b.texts).bytes) c.get-link.ensures ∙ e in
    record { value = (omega arith, ap Some f ∙ sym (slice_get-get_or (node_at (model b) i).children j ([], 0) (omega arith))) }
