use Rattle.std.proofs.Common.{◌≡◌, ◌<◌, ◌≢◌, length, rules, tests, arith}
use Rattle.std.proofs.lemmas.Iterator.{IsFirst-from_position, YieldsList-from_slice}
use Rattle.std.proofs.lemmas.Bool.Decides.{nat_tests}
use Rattle.lines.proofs.Cuts.{split_at_feed, split_at_end, lines_of, cut_of}
use Rattle.lines.proofs.next_line.Goals as goal

pub returns-in-Some : goal.returns-in-Some
returns-in-Some c =
    let first = IsFirst-from_position _ _ _ (λ b. b ≡ 10) (λ b. b ≢ 10) c.in-Some.ensures.ran (YieldsList-from_slice c.args.input.now cc) (λ x q k. search (rules, tests)) (λ x q k. search (rules, tests)) in
    let e = split_at_feed c.args.input.now c.in-Some.i first in
    record { value = e; all = lines_of _ _ e; cut = cut_of _ _ e }

pub returns-in-None : goal.returns-in-None
returns-in-None c =
    let none = IsFirst-from_position _ _ _ (λ b. b ≡ 10) (λ b. b ≢ 10) c.in-None.ensures.ran (YieldsList-from_slice c.args.input.now cc) (λ x q k. search (rules, tests)) (λ x q k. search (rules, tests)) in
    let some : 0 < length c.args.input.now = grind (arith, nat_tests, c.is_empty.ensures, c.if-is_empty.false) in
    let e = split_at_end c.args.input.now some none in
    record { value = e; all = lines_of _ _ e; cut = cut_of _ _ e }
