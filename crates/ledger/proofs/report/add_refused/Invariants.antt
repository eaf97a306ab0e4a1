use Rattle.std.proofs.Common.{◌≡◌, ◌++◌, map, take, vec_items}
use Rattle.std.specs.List.{flat_map}
use Rattle.ledger.specs.Ledgers.{long_of}
use Rattle.ledger.specs.Reports.{refusal_line}
use Rattle.ledger.proofs.report.add_refused.Given as goal

abbrev pub invariant-loop-number : goal.invariant-loop-number
invariant-loop-number l = vec_items l.out ≡ vec_items l.initial.out ++ flat_map refusal_line (map long_of (take l.number-index l.refused))
