use Rattle.std.proofs.Common.{[], ◌∷◌, refl}
use Rattle.std.proofs.lemmas.Slice.{pushed}
use Rattle.script.proofs.Pieces.{one_more, chained, all_read}
use Rattle.script.proofs.tokens.tokens.Goals as goal

pub loop-token-preserved : goal.loop-token-preserved
loop-token-preserved c =
    let e = pushed (c.in-Some.token ∷ []) refl c.in_ok-push.was c.push.ensures.items in
    one_more c.args.line.now c.loop-token.from _ _ c.in-Some.token e c.loop-token.invariant c.in-Some.ensures.value c.in-Some.ensures.law

pub returns : goal.returns
returns c =
    record { value = chained c.args.line.now c.loop-token.from _ c.loop-token.invariant c.in_default.ensures.value; law = all_read c.args.line.now c.loop-token.from _ c.loop-token.invariant c.in_default.ensures.law }
