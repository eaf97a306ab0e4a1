use Rattle.std.proofs.Common.{◌≡◌, ap, ◌∙◌}
use Rattle.std.specs.Option.{option_map}
use Rattle.script.specs.Tokens.{token_at, first_token}
use Rattle.script.proofs.Pieces.{found, first_of}
use Rattle.script.proofs.tokens.next_token.Goals as goal

pub returns-in_err-start : goal.returns-in_err-start
returns-in_err-start c =
    let e : c.from_residual.result ≡ first_token c.args.line.now c.args.from =
    c.from_residual.ensures ∙ ap (option_map (token_at c.args.line.now)) c.in_err-start.ensures.value in
    record { value = e; law = first_of c.args.line.now c.args.from _ e }

pub returns : goal.returns
returns c =
    let e = found c.args.line.now c.args.from _ _ c.in_ok-start.ensures.value c.token_len-len.ensures in
    record { value = e; law = first_of c.args.line.now c.args.from _ e }
