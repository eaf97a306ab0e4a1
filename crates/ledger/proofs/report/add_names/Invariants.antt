use Rattle.std.proofs.Common.{◌≡◌, ◌++◌, map, take, vec_items}
use Rattle.std.specs.List.{flat_map}
use Rattle.ledger.specs.Reports.{entry_line}
use Rattle.ledger.proofs.report.add_names.Given as goal

abbrev pub invariant-loop-name : goal.invariant-loop-name
invariant-loop-name l = vec_items l.out ≡ vec_items l.initial.out ++ flat_map entry_line (map vec_items (take l.name-index l.names))
