use Rattle.std.proofs.Common.{sym, ap, ◌∙◌, rules}
use Rattle.std.specs.List.{slice_get}
use Rattle.std.specs.Option.{option_map}
use Rattle.leaves.specs.Values.{read, texts_of}
use Rattle.std.proofs.iter.runs.Lists.{slice_get-map}
use Rattle.leaves.proofs.Clips.{got, mapped}
use Rattle.leaves.proofs.text_list.TextList.get.Goals as goal

pub returns-in-Given : goal.returns-in-Given
returns-in-Given c =
    let ts = c.in-Given.texts.now in
    ap (option_map (λ x. x.now)) (c.copied.ensures ∙ got ts c.args.at c.get.result c.get.ensures.lookup.0 c.get.ensures.lookup.1)
    ∙ sym (slice_get-map (λ x. x.now) ts c.args.at)
    ∙ ap (λ l. slice_get (texts_of l) c.args.at) (sym c.in-Given.is)

pub returns-in-Kept : goal.returns-in-Kept
returns-in-Kept c =
    let of = read c.in-Kept.bytes.now in
    let ss = c.in-Kept.spans.now in
    mapped of _ c.get-in-Kept.result c.map.result c.map.ensures.cases (λ x y p. search rules)
    ∙ ap (option_map of) (got ss c.args.at c.get-in-Kept.result c.get-in-Kept.ensures.lookup.0 c.get-in-Kept.ensures.lookup.1)
    ∙ sym (slice_get-map of ss c.args.at)
    ∙ ap (λ l. slice_get (texts_of l) c.args.at) (sym c.in-Kept.is)
