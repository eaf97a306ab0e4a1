use Rattle.std.proofs.Common.{◌≡◌, vec_items, sym, ap, ◌∙◌, arith}
use Rattle.std.proofs.lemmas.List.{length-map}
use Rattle.lines.specs.Lines.{lines}
use Rattle.ledger.specs.Ledgers.{long_of, ledger_of, blank, noted_all}
use Rattle.ledger.proofs.Runs.{run_exactly, run_read}
use Rattle.ledger.proofs.ledger.Ledger.of_input.Goals as goal

pub returns : goal.returns
returns c =
    let l = c.loop-line.ledger in
    let ls = lines c.args.input.now in
    let e : ledger_of l ≡ noted_all blank ls = sym (ap (noted_all (ledger_of l)) c.in-None.ensures.steps.0) ∙ c.loop-line.invariant in
    let n = length-map l.catalogue vec_items in
    let m = length-map (vec_items l.refused) long_of ∙ sym l.refused.ok.0 in
    record { value = e; members = run_exactly ls (ledger_of l) e; counts = (run_read ls (ledger_of l) e, omega (arith, l.adds)) }
