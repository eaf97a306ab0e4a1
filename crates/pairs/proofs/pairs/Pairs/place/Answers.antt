use Rattle.std.proofs.Common.{◌≡◌, ℕ, ◌+◌, ◌-◌, ◌/◌, ◌<◌, true, length, vec_items, vec_len, Less, Equal, Greater, sym, ◌∙◌, arith}
use Rattle.std.proofs.lemmas.List.{length-map}
use Rattle.terms.proofs.LeafLaws.{text_laws}
use Rattle.model.specs.Checks.{keys_rise}
use Rattle.pairs.specs.Links.{child_of}
use Rattle.pairs.specs.Entries.{key_at}
use Rattle.pairs.proofs.Laws.{found, rises_with}
use Rattle.pairs.proofs.Places.{Above, lowered, raised, absent, placed_at, asked}
use Rattle.pairs.proofs.pairs.Pairs.place.Goals as goal

pub loop-low-init : goal.loop-low-init
loop-low-init c =
    let p = c.self.inside in
    let n : length c.args.self.now ≡ vec_len p.links = rw (← c.self.view_is) (length-map (vec_items p.links) (child_of (vec_items p.bytes)) ∙ sym p.links.ok.0) in
    (omega arith, omega arith, λ j l. absurd (omega arith), λ j l m. absurd (omega arith))

pub loop-low-preserved-in-Less : goal.loop-low-preserved-in-Less
loop-low-preserved-in-Less c =
    let p = c.self.inside in
    let ps = c.args.self.now in
    let k = c.args.key.now in
    let n : length ps ≡ length (vec_items p.links) = rw (← c.self.view_is) (length-map (vec_items p.links) (child_of (vec_items p.bytes))) in
    let middle = c.loop-low.low + (c.loop-low.high - c.loop-low.low) / 2 in
    let within : middle < length (vec_items p.links) = omega arith in
    let rises : keys_rise ps ≡ true = rw (← c.self.view_is) c.self.invariant.draft.rises in
    let less = asked (vec_items p.bytes) (vec_items p.links) ps k c.of-other.result.now c.as_slice.result.now middle c.index.result.now Less c.self.view_is within c.index.ensures c.as_slice.ensures.value c.of-other.ensures c.in-Less.ensures in
    (omega arith, omega arith, c.loop-low.invariant.2, lowered k ps middle rises less)

pub returns-in-Equal : goal.returns-in-Equal
returns-in-Equal c =
    let p = c.self.inside in
    let ps = c.args.self.now in
    let k = c.args.key.now in
    let n : length ps ≡ length (vec_items p.links) = rw (← c.self.view_is) (length-map (vec_items p.links) (child_of (vec_items p.bytes))) in
    let middle = c.loop-low.low + (c.loop-low.high - c.loop-low.low) / 2 in
    let within : middle < length (vec_items p.links) = omega arith in
    let equal = asked (vec_items p.bytes) (vec_items p.links) ps k c.of-other.result.now c.as_slice.result.now middle c.index.result.now Equal c.self.view_is within c.index.ensures c.as_slice.ensures.value c.of-other.ensures c.in-Equal.ensures in
    record { place = (found k ps middle (omega arith) equal, omega arith, sym (text_laws.same k (key_at ps middle) equal)); rises = tt }

pub loop-low-preserved : goal.loop-low-preserved
loop-low-preserved c =
    let p = c.self.inside in
    let ps = c.args.self.now in
    let k = c.args.key.now in
    let n : length ps ≡ length (vec_items p.links) = rw (← c.self.view_is) (length-map (vec_items p.links) (child_of (vec_items p.bytes))) in
    let middle = c.loop-low.low + (c.loop-low.high - c.loop-low.low) / 2 in
    let within : middle < length (vec_items p.links) = omega arith in
    let rises : keys_rise ps ≡ true = rw (← c.self.view_is) c.self.invariant.draft.rises in
    let greater = asked (vec_items p.bytes) (vec_items p.links) ps k c.of-other.result.now c.as_slice.result.now middle c.index.result.now Greater c.self.view_is within c.index.ensures c.as_slice.ensures.value c.of-other.ensures c.in-Greater.ensures in
    (omega arith, omega arith, raised k ps middle rises (omega arith) greater, c.loop-low.invariant.3)

pub returns : goal.returns
returns c =
    let ps = c.args.self.now in
    let k = c.args.key.now in
    let rises : keys_rise ps ≡ true = rw (← c.self.view_is) c.self.invariant.draft.rises in
    let below = c.loop-low.invariant.2 in
    let above : Above k ps c.loop-low.low = λ j l. c.loop-low.invariant.3 j (omega arith) in
    let new = absent k ps c.loop-low.low below above in
    let placed = λ (m : ℕ). placed_at k m ps c.loop-low.low (omega arith) below above in
    record { place = (new, omega arith, placed); rises = λ m. rw (← placed m) (rises_with (k, m) ps new rises) }
