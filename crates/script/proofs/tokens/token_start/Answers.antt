use Rattle.std.proofs.Common.{◌≡◌, true, false, drop, sym, ap, ◌∙◌, rules, tests}
use Rattle.std.proofs.lemmas.Iterator.{IsFirst-from_position, YieldsList-from_slice}
use Rattle.std.proofs.lemmas.List.{take_rest}
use Rattle.script.specs.Tokens.{blank, piece_start}
use Rattle.script.proofs.Pieces.{starts_at, starts_nowhere}
use Rattle.script.proofs.tokens.token_start.Goals as goal

pub returns-in_err-blanks-clause-value : goal.returns-in_err-blanks-clause-value
returns-in_err-blanks-clause-value c =
    let rest : c.in_ok-rest.rest.now ≡ drop c.args.from c.args.line.now = c.in_ok-rest.ensures.lookup.0.2 ∙ take_rest c.args.line.now c.args.from in
    let none = IsFirst-from_position _ _ _ (λ b. blank b ≡ false) (λ b. blank b ≡ true) c.in_err-blanks.ensures.ran (YieldsList-from_slice c.in_ok-rest.rest.now cc) (λ x q k. search (rules, tests)) (λ x q k. search (rules, tests)) in
    c.from_residual-in_err-blanks.ensures ∙ sym (ap (piece_start c.args.from) (sym rest) ∙ starts_nowhere c.in_ok-rest.rest.now c.args.from none)

pub returns-clause-value : goal.returns-clause-value
returns-clause-value c =
    let rest : c.in_ok-rest.rest.now ≡ drop c.args.from c.args.line.now = c.in_ok-rest.ensures.lookup.0.2 ∙ take_rest c.args.line.now c.args.from in
    let first = IsFirst-from_position _ _ _ (λ b. blank b ≡ false) (λ b. blank b ≡ true) c.in_ok-blanks.ensures.ran (YieldsList-from_slice c.in_ok-rest.rest.now cc) (λ x q k. search (rules, tests)) (λ x q k. search (rules, tests)) in
    sym (ap (piece_start c.args.from) (sym rest) ∙ starts_at c.in_ok-rest.rest.now c.args.from c.in_ok-blanks.blanks first)
