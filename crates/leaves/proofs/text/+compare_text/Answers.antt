use Rattle.std.proofs.Common.{arith, ltb-false, ltb-true}
use Rattle.leaves.proofs.Slices.{both_empty, first_empty, second_empty, first_alike}
use Rattle.leaves.proofs.text.+compare_text.Goals as goal
use Rattle.std.specs.Ordering.{nat_cmp}

pub returns-in-empty-empty : goal.returns-in-empty-empty
returns-in-empty-empty t c = both_empty nat_cmp c.args.a.now c.args.b.now (omega (arith, ltb-true)) (omega (arith, ltb-true))

pub returns-in-empty-len1-up : goal.returns-in-empty-len1-up
returns-in-empty-len1-up t c = first_empty nat_cmp c.args.a.now c.args.b.now (omega (arith, ltb-true)) (omega (arith, ltb-false))

pub returns-in-len1-up-empty : goal.returns-in-len1-up-empty
returns-in-len1-up-empty t c = second_empty nat_cmp c.args.a.now c.args.b.now (omega (arith, ltb-false)) (omega (arith, ltb-true))

pub returns-in-Equal : goal.returns-in-Equal
returns-in-Equal t c = first_alike nat_cmp c.args.a.now c.args.b.now 0 0 c.compare_text.result (omega (arith, ltb-false)) (omega (arith, ltb-false)) c.in-Equal.ensures c.compare_text.ensures
