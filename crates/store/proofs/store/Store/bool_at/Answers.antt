use Rattle.std.proofs.Common.{sym, ap, ◌∙◌, rules}
use Rattle.terms.specs.Fold.{leaf_bool, as_bool}
use Rattle.store.specs.Pools.{pool}
use Rattle.store.specs.Kept.{leaf_kept}
use Rattle.store.specs.Stores.{model}
use Rattle.store.proofs.Lookups.{shape_past}
use Rattle.store.proofs.Folds.{no_literal, no_bool}
use Rattle.store.proofs.Stored.{nodes_counted, literal_read}
use Rattle.store.proofs.store.Store.bool_at.Goals as goal

pub returns-then-number-count : goal.returns-then-number-count
returns-then-number-count c = sym (ap as_bool (shape_past (model c.args.self.now) c.args.number (search rules)))

pub get-requires : goal.get-requires
get-requires c = search (rules, nodes_counted c.args.self.now)

pub returns-in-Literal-Bool : goal.returns-in-Literal-Bool
returns-in-Literal-Bool c =
    let k = rw c.in-Literal-Bool.is at c.in-Literal-Bool.field-0-is in
    sym (literal_read c.args.self.now c.args.number c.get.result (search rules) c.get.ensures ∙ rw (c.in-Literal-Bool.is, k))

pub returns-in_default : goal.returns-in_default
returns-in_default c =
    let s = pool c.args.self.now.texts in
    sym (literal_read c.args.self.now c.args.number c.get.result (search rules) c.get.ensures
    ∙ ap (λ y. leaf_bool (leaf_kept s y)) c.in_default.is
    ∙ no_bool s c.in_default.field-0 (λ x e. search rules))

pub returns-in_default-2 : goal.returns-in_default-2
returns-in_default-2 c =
    sym (literal_read c.args.self.now c.args.number c.get.result (search rules) c.get.ensures
    ∙ no_literal (pool c.args.self.now.texts) c.get.result.leaf (λ x e. search rules))
