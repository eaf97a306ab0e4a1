use Rattle.std.proofs.Common.{◌≡◌, ◌++◌, map, length, vec_items, string_bytes, sym, ap, ◌∙◌}
use Rattle.std.specs.List.{flat_map}
use Rattle.std.proofs.lemmas.List.{length-map}
use Rattle.ledger.specs.Ledgers.{long_of}
use Rattle.ledger.specs.Reports.{refusal_line, entry_line, counts_line}
use Rattle.ledger.proofs.Writing.{wrote_three}
use Rattle.ledger.proofs.report.report.Goals as goal

pub returns : goal.returns
returns c =
    let l = c.args.ledger.now in
    let refused = c.as_slice.result.now in
    let names = c.names-names.result.now in
    let kept = sym (length-map names vec_items) ∙ ap (λ ns. length (map vec_items ns)) c.names-names.ensures.value in
    let long = c.len-refused.ensures ∙ l.refused.ok.0 ∙ sym (length-map (vec_items l.refused) long_of) in
    let counts : string_bytes c.in_ok-counts.counts ≡ counts_line l.read (length names) l.repeated c.len-refused.result = c.in_ok-counts.ensures.ok in
    wrote_three (vec_items c.new-out.result) (vec_items c.add_refused.new.out) (vec_items c.add_names.new.out) (vec_items c.extend_from_slice.new.self) (flat_map refusal_line (map long_of refused)) (flat_map entry_line (map vec_items names)) c.as_bytes.result.now (string_bytes c.in_ok-counts.counts)
    c.new-out.ensures.items c.in_ok-add_refused.ensures c.in_ok-add_names.ensures c.in_ok-extend_from_slice.ensures.items c.as_bytes.ensures.value
    ∙ (λ j. flat_map refusal_line (map long_of (c.as_slice.ensures.value j)) ++ (flat_map entry_line (map vec_items (c.names-names.ensures.value j)) ++ (counts ∙ (λ i. counts_line l.read (kept i) l.repeated (long i))) j))
