use Rattle.std.proofs.Common.{rules, ◌∙◌, tests, arith, sym}
use Rattle.std.proofs.lemmas.Bool.Decides.{nat_tests}
use Rattle.std.proofs.lemmas.Iterator.{YieldsList-from_slice}
use Rattle.std.proofs.lemmas.Iterator.Search.{all_from_yields_List}
use Rattle.std.proofs.lemmas.List.Folds.{list_all-map}
use lib.ListN.{length-map}
use Rattle.leaves.specs.Values.{elem_of, pattern_of}
use Rattle.model.specs.Checks.{elem_fits}
use Rattle.checks.proofs.Lists.{every_all}
use Rattle.checks.proofs.pattern.RefSlicePatternElemPart.fits.Goals as goal

pub returns-then-self-le-MAX_ELEMS : goal.returns-then-self-le-MAX_ELEMS
returns-then-self-le-MAX_ELEMS c =
    let p = c.args.self.now in
    let l = length-map p elem_of in
    let e =
    all_from_yields_List (λ x. elem_fits (elem_of x)) _ _ _ c.all.ensures.ran (YieldsList-from_slice p cc) (λ x b q k. search (rules, tests))
    ∙ sym (list_all-map elem_fits elem_of p)
    ∙ every_all elem_fits (pattern_of p) in
    grind (arith, nat_tests)
