use Rattle.std.proofs.Common.{ap}
use Rattle.std.proofs.lemmas.Bool.{and_from}
use Rattle.leaves.specs.Values.{literal_of}
use Rattle.model.specs.Costs.{literal_bytes}
use Rattle.store.specs.Pools.{pool}
use Rattle.store.proofs.Grown.{takes_none, takes_on, name_same, name_in_same}
use Rattle.store.proofs.texts.TextTable.keep_literal.Goals as goal

pub returns-in-Bool-clause-takes : goal.returns-in-Bool-clause-takes
returns-in-Bool-clause-takes c = takes_none _ _ (ap (λ x. literal_bytes (literal_of x)) c.in-Bool.is)

pub returns-in-Long-clause-takes : goal.returns-in-Long-clause-takes
returns-in-Long-clause-takes c = takes_none _ _ (ap (λ x. literal_bytes (literal_of x)) c.in-Long.is)

pub returns-in-Entity : goal.returns-in-Entity
returns-in-Entity c =
    let mid = pool c.keep_name-name.new.self in
    let end = pool c.keep_text-in-Entity.new.self in
    let p = c.keep_name-name.result in
    let same = c.keep_text-in-Entity.ensures.texts in
    let i = ap literal_of c.in-Entity.is in
    let b = ap literal_bytes i in
    let a = name_same mid end p same in
    let n = c.keep_name-name.ensures.name in
    let t = c.keep_text-in-Entity.ensures.text in
    record {
      takes = takes_on _ mid _ _ _ _ c.keep_name-name.ensures.takes c.keep_text-in-Entity.ensures.takes b;
      literal = cc;
      inside = and_from _ _ (name_in_same mid end p same c.keep_name-name.ensures.inside) c.keep_text-in-Entity.ensures.inside;
    }
