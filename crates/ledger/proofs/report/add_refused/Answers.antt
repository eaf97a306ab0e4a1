use Rattle.std.proofs.Common.{get_or, vec_items, string_bytes, ◌≡◌}
use Rattle.std.proofs.lemmas.List.{get_or_default}
use Rattle.ledger.specs.Ledgers.{long_of}
use Rattle.ledger.specs.Reports.{refusal_line}
use Rattle.ledger.proofs.Writing.{wrote_more}
use Rattle.ledger.proofs.report.add_refused.Goals as goal

pub loop-number-preserved : goal.loop-number-preserved
loop-number-preserved c =
    let xs = c.args.refused.now in
    let i = c.loop-number.number-index in
    let x = get_or xs i (record { number = 0; bytes = 0 }) in
    let t : string_bytes c.in_ok-text.text ≡ refusal_line (long_of x) = c.in_ok-text.ensures.ok in
    wrote_more long_of refusal_line (vec_items c.args.out.now) xs i x (vec_items c.loop-number.out) (vec_items c.extend_from_slice.new.self) c.as_bytes.result.now (string_bytes c.in_ok-text.text)
    c.loop-number-test.true (get_or_default xs i (record { number = 0; bytes = 0 }) x c.loop-number-test.true) c.loop-number.invariant c.in_ok-extend_from_slice.ensures.items c.as_bytes.ensures.value t
