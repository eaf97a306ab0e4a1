use Rattle.std.proofs.Common.{rules, ◌∙◌, tests, arith, leb-true, length}
use Rattle.std.proofs.lemmas.Iterator.{YieldsList-from_map}
use Rattle.std.proofs.lemmas.Iterator.Consumers.{YieldsList-from_first, YieldsList-at, sum_by_from_yields_List, fits_by_from_yields_list}
use Rattle.leaves.specs.Lists.{texts_left}
use Rattle.leaves.specs.Texts.{text_of}
use Rattle.leaves.specs.Values.{texts_of}
use Rattle.checks.specs.Checked.{member_bytes}
use Rattle.checks.proofs.Lists.{bytes_sum, bytes_bound}
use Rattle.checks.proofs.texts.TextListPart.bytes.Goals as goal

pub sum-requires-clause-fits : goal.sum-requires-clause-fits
sum-requires-clause-fits c =
    let ts = texts_of c.args.self in
    fits_by_from_yields_list member_bytes ts c.map.result _
    (YieldsList-from_map _ member_bytes (YieldsList-at c.map.ensures.source (YieldsList-from_first text_of texts_left ts c.iter.ensures)) c.map.ensures.closure (λ x r q k. search (rules, tests)))
    (omega (arith, bytes_sum ts, bytes_bound ts c.requires.short, leb-true (length ts) 16 c.requires.fits))

pub returns : goal.returns
returns c =
    let ts = texts_of c.args.self in
    let e = sum_by_from_yields_List member_bytes ts c.map.result c.sum.result c.sum.ensures.ran
    (YieldsList-from_map _ member_bytes (YieldsList-at c.map.ensures.source (YieldsList-from_first text_of texts_left ts c.iter.ensures)) c.map.ensures.closure (λ x r q k. search (rules, tests)))
    ∙ bytes_sum ts in
    record { value = e; bound = omega (arith, e, bytes_bound ts c.requires.short, leb-true (length ts) 16 c.requires.fits) }
