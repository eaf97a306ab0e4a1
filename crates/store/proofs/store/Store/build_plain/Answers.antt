use Rattle.std.proofs.Common.{[], Some, None, sym, ◌∙◌, subst}
use Rattle.std.proofs.lemmas.Result.{err_from_is_err_and}
use Rattle.codes.specs.declared.kind.Kind.TheVariants as kind
use Rattle.store.specs.Stores.{model, called, asked, added, Comes}
use Rattle.store.proofs.Calls.{call_refused, call_bytes, call_ok, call_added}
use Rattle.store.proofs.store.Store.build_plain.Goals as goal

pub returns-in_err-bytes : goal.returns-in_err-bytes
returns-in_err-bytes c =
    let p = err_from_is_err_and c.from_residual.result c.from_residual.ensures.1 in
    rw (p.1, p.2) (call_refused (model c.args.self.now) (asked c.args.call) c.in_err-bytes.field-0.0 (sym c.check.ensures.value ∙ c.in_err-bytes.was))

pub add-requires-in-None-clause-ok : goal.add-requires-in-None-clause-ok
add-requires-in-None-clause-ok c =
    call_ok (model c.args.self.now) (asked c.args.call) c.in_ok-bytes.bytes (sym c.check.ensures.value ∙ c.in_ok-bytes.was) c.in_ok-bytes.ensures.long (sym c.fold.ensures ∙ c.in-None.is)

pub add-requires-in-None-clause-bytes : goal.add-requires-in-None-clause-bytes
add-requires-in-None-clause-bytes c =
    call_bytes (model c.args.self.now) (asked c.args.call) c.in_ok-bytes.bytes (sym c.check.ensures.value ∙ c.in_ok-bytes.was)

pub returns-in-Some : goal.returns-in-Some
returns-in-Some c =
    call_added (model c.args.self.now) (asked c.args.call) c.in_ok-bytes.bytes (sym c.check.ensures.value ∙ c.in_ok-bytes.was) (Some c.in-Some.value) _ _ (sym c.fold.ensures ∙ c.in-Some.is)
    (subst (λ l. Comes (model c.args.self.now) (added (model c.args.self.now) (called kind.Lit l [] c.args.call.at)) c.add.result (model c.add.new.self)) c.boolean.ensures c.add.ensures)

pub returns-in-None : goal.returns-in-None
returns-in-None c =
    call_added (model c.args.self.now) (asked c.args.call) c.in_ok-bytes.bytes (sym c.check.ensures.value ∙ c.in_ok-bytes.was) None _ _ (sym c.fold.ensures ∙ c.in-None.is) c.add-in-None.ensures
