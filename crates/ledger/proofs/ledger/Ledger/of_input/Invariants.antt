use Rattle.std.proofs.Common.{◌≡◌}
use Rattle.lines.specs.Lines.{lines}
use Rattle.lines.specs.Left.{lines_left}
use Rattle.ledger.specs.Ledgers.{ledger_of, blank, noted_all}
use Rattle.ledger.proofs.ledger.Ledger.of_input.Given as goal

abbrev pub invariant-loop-line : goal.invariant-loop-line
invariant-loop-line l = noted_all (ledger_of l.ledger) (lines_left l.line-iterator) ≡ noted_all blank (lines l.input)
