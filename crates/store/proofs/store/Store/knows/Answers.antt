use Rattle.std.proofs.Common.{ap, ◌∙◌, rules, tests}
use Rattle.std.proofs.lemmas.Iterator.Consumers.{YieldsList-from_first}
use Rattle.std.proofs.lemmas.Iterator.Search.{all_from_yields_List}
use Rattle.model.specs.Checks.{every, there}
use Rattle.store.specs.Branches.{branches_of, child_now, children_left}
use Rattle.store.proofs.store.Store.knows.Goals as goal

pub returns : goal.returns
returns c =
    let cs = branches_of c.args.children in
    all_from_yields_List (there c.count-count.result) c.all.new.self _ _ c.all.ensures.ran
    (YieldsList-from_first child_now children_left cs c.into_iter.ensures.into_iter_gives)
    (λ x b q k. search (rules, tests))
    ∙ ap (λ n. every (there n) cs) c.count-count.ensures
