use Rattle.std.proofs.Common.{sym, subst}
use Rattle.model.specs.Build.{Sound}
use Rattle.model.proofs.Builds.{sound_empty}
use Rattle.store.proofs.Grows.{model_none, held_none, marked_none}
use Rattle.store.proofs.store.Store.new.Goals as goal

pub invariant_of-result : goal.invariant_of-result
invariant_of-result c =
    let p = c.in_ok-nodes.ensures in
    let q = c.in_ok-links.ensures in
    let r = c.in_ok-texts.ensures.0 in
    record { held = held_none _ _ _ p q r; marked = ∣ marked_none _ _ _ p q r ∣₁; sound = ∣ subst Sound (sym (model_none _ _ _ p q r)) sound_empty ∣₁ }

pub returns : goal.returns
returns c = model_none _ _ _ c.in_ok-nodes.ensures c.in_ok-links.ensures c.in_ok-texts.ensures.0
