use Rattle.std.proofs.Common.{List, ap, ◌∙◌, arith, ltb-false, ltb-true}
use Rattle.leaves.specs.declared.text_list.Span.{Span}
use Rattle.leaves.specs.Values.{read}
use Rattle.store.specs.Pools.{pool}
use Rattle.store.proofs.Readings.{name_none, name_read}
use Rattle.store.proofs.texts.TextTable.name.Goals as goal

pub returns-in-empty : goal.returns-in-empty
returns-in-empty c =
    let p = c.args.span in
    name_none (pool c.args.self.now) p c.of.result.now (c.of.ensures ∙ ap (λ (ss : List Span). read ss p) c.as_slice.ensures) (omega (arith, ltb-true))

pub returns-in-len1-up : goal.returns-in-len1-up
returns-in-len1-up c =
    let p = c.args.span in
    name_read (pool c.args.self.now) p c.of.result.now (c.of.ensures ∙ ap (λ (ss : List Span). read ss p) c.as_slice.ensures) c.as_slice-in-len1-up.result.now
    (record { start = 0; len = 0 }) c.text.result.0.now c.as_slice-in-len1-up.ensures (omega (arith, ltb-false)) c.text.ensures
