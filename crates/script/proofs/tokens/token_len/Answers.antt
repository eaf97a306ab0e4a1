use Rattle.std.proofs.Common.{arith}
use Rattle.std.proofs.lemmas.Bool.Decides.{nat_tests}
use Rattle.std.proofs.lemmas.List.{at_drop_more, at_drop_all}
use Rattle.script.specs.Tokens.{piece_len}
use Rattle.script.proofs.tokens.token_len.Goals as goal

pub returns-then-is_blank : goal.returns-then-is_blank
returns-then-is_blank c = grind (arith, nat_tests, at_drop_more (piece_len c.loop-i.quoted) c.args.text.now c.loop-i.i 0 c.loop-i-test.true)

pub loop-i-preserved : goal.loop-i-preserved
loop-i-preserved c = grind (arith, nat_tests, at_drop_more (piece_len c.loop-i.quoted) c.args.text.now c.loop-i.i 0 c.loop-i-test.true)

pub returns : goal.returns
returns c = omega (arith, c.loop-i.invariant, at_drop_all (piece_len c.loop-i.quoted) _ _ c.loop-i-test.false)
