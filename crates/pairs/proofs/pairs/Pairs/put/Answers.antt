use Rattle.std.proofs.Common.{◌≡◌, ◌+◌, ◌<◌, ◌≤◌, true, length, is_ok, vec_items, vec_len, vec_capacity, sym, ◌∙◌, arith}
use Rattle.std.specs.List.{insert}
use Rattle.std.proofs.lemmas.Bool.Decides.{nat_tests}
use Rattle.std.proofs.lemmas.List.{length-map}
use Rattle.model.specs.Costs.{keys_bytes}
use Rattle.pairs.specs.Entries.{Draft}
use Rattle.pairs.specs.Links.{child_of, children_of}
use Rattle.pairs.proofs.Drafts.{bytes_inserted, draft_put, put_done}
use Rattle.pairs.proofs.Grown.{children_put, inside_put}
use Rattle.pairs.proofs.pairs.Pairs.put.Goals as goal
use Rattle.pairs.proofs.pairs.Pairs.put.Goals.{After-insert}

node : (c : goal.After-insert) → c.args.node < 512
node c = grind (arith, nat_tests, c.in_ok-check_node.ensures)

one_more : (c : goal.After-insert) → length c.args.self.now < 64
one_more c =
    let p = c.self.inside in
    rw (← c.self.view_is) (omega (arith, length-map (vec_items p.links) (child_of (vec_items p.bytes)), p.links.ok.0))

room : (c : goal.After-insert) → keys_bytes c.args.self.now + length c.args.key.now ≤ 2048
room c = rw (← c.self.view_is) (omega (arith, c.self.invariant.full))

-- the memory that is reserved suffices for the bytes
appended : (c : goal.After-insert) → is_ok c.extend_from_slice.result ≡ true
appended c =
    let fits : vec_len c.self.inside.bytes + length c.args.key.now ≤ vec_capacity c.self.inside.bytes = omega (arith, c.self.invariant.bytes_room) in
    c.extend_from_slice.ensures.succeeds fits

-- and for the link
placed : (c : goal.After-insert) → is_ok c.insert.result ≡ true
placed c =
    let p = c.self.inside in
    let fits : vec_len p.links < vec_capacity p.links = omega (arith, rw (← c.self.view_is) at (one_more c), length-map (vec_items p.links) (child_of (vec_items p.bytes)), p.links.ok.0, c.self.invariant.links_room) in
    c.insert.ensures.succeeds fits

-- the pairs then
after : (c : goal.After-insert) → children_of (vec_items c.extend_from_slice.new.self) (vec_items c.insert.new.self) ≡ insert c.args.self.now c.in-Err.place (c.args.key.now, c.args.node)
after c =
    let p = c.self.inside in
    let start = c.len-start.ensures ∙ p.bytes.ok.0 in
    rw (rw (appended c) at c.extend_from_slice.ensures.items, rw (placed c) at c.insert.ensures.items, ← c.self.view_is)
    (children_put (vec_items p.bytes) c.args.key.now (vec_items p.links) c.in-Err.place c.args.node c.len-start.result start (rw (← c.len-start.ensures) at c.self.invariant.within))

draft_after : (c : goal.After-insert) → Draft (children_of (vec_items c.extend_from_slice.new.self) (vec_items c.insert.new.self))
draft_after c =
    let ps = c.args.self.now in
    rw (after c) (draft_put ps c.args.key.now c.args.node (node c) c.if-key-gt-LONGEST.false (one_more c) (room c) c.in-Err.place c.in-Err.ensures.place.1 (c.in-Err.ensures.rises c.args.node) (rw c.self.view_is at c.self.invariant.draft))

pub invariant_of-self : goal.invariant_of-self
invariant_of-self c =
    let old = c.self.invariant in
    let ps = c.args.self.now in
    let k = c.args.key.now in
    let n = c.args.node in
    let i = c.in-Err.place in
    let bytes = rw (appended c) at c.extend_from_slice.ensures.len in
    record {
      bytes_room = omega (arith, old.bytes_room, c.extend_from_slice.ensures.capacity);
      links_room = omega (arith, old.links_room, c.insert.ensures.capacity);
      full = rw (after c) (omega (arith, bytes_inserted ps i (k, n), rw c.self.view_is at old.full));
      within = rw (rw (placed c) at c.insert.ensures.items) (inside_put k (vec_items c.self.inside.links) i n c.len-start.result _ (omega arith) (rw (← c.len-start.ensures) at old.within));
      draft = draft_after c;
    }

pub returns : goal.returns
returns c =
    let at = c.in-Err.ensures.place in
    record {
      answer = put_done c.args.self.now c.args.key.now c.args.node (node c) c.if-key-gt-LONGEST.false (one_more c) (room c) at.0 _ (after c ∙ sym (at.2 c.args.node));
      draft = draft_after c;
    }
