use Rattle.std.proofs.Common.{◌∙◌, arith}
use Rattle.std.proofs.lemmas.Bool.{and_from}
use Rattle.store.specs.Pools.{pool}
use Rattle.store.proofs.Grown.{takes_on, types_same, types_in_same}
use Rattle.store.proofs.texts.TextTable.keep_unknown.Goals as goal

pub returns : goal.returns
returns c =
    let typed = c.keep_annotation-type_annotation in
    let texted = c.keep_text-name in
    let mid = pool typed.new.self in
    let end = pool texted.new.self in
    let o = typed.result in
    let same = texted.ensures.texts in
    let a = types_same mid end o same ∙ typed.ensures.kept in
    let t = texted.ensures.text in
    record {
      takes = takes_on _ mid _ _ _ _ typed.ensures.takes texted.ensures.takes (omega arith);
      unknown = cc;
      inside = and_from _ _ texted.ensures.inside (types_in_same mid end o same typed.ensures.inside);
    }
