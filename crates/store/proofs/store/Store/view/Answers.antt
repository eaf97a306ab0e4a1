use Rattle.std.proofs.Common.{sym, ap, ◌∙◌, arith}
use Rattle.terms.specs.Bank.{NodeM}
use Rattle.store.proofs.Lookups.{known_below}
use Rattle.store.proofs.Stored.{nodes_counted, node_read, size_read, degree_read}
use Rattle.store.proofs.store.Store.view.Goals as goal

pub get-node-requires : goal.get-node-requires
get-node-requires c =
    let h = known_below c.args.number c.count.result _ c.in_ok-check_node.ensures in
    omega (arith, nodes_counted c.args.self.now)

pub returns : goal.returns
returns c =
    let b = c.args.self.now in
    let i = c.args.number in
    let x = c.get-node.result in
    let h = known_below i c.count.result _ c.in_ok-check_node.ensures in
    let m = node_read b i x (omega arith) c.get-node.ensures in
    record {
      there = omega arith;
      kind = sym (ap (λ (n : NodeM). n.kind) m);
      leaf = c.leaf.ensures ∙ sym (ap (λ (n : NodeM). n.leaf) m);
      degree = degree_read b i x (omega arith) c.get-node.ensures;
      size = size_read b i x (omega arith) c.get-node.ensures;
      location = sym (ap (λ (n : NodeM). n.place) m);
    }
