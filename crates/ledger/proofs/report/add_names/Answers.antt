use Rattle.std.proofs.Common.{vec_items, string_bytes, ◌≡◌, ◌++◌, rules, refl}
use Rattle.ledger.specs.Reports.{digest_part, entry_line}
use Rattle.terms.specs.Hashers.{fnv}
use Rattle.ledger.proofs.Writing.{wrote_more, wrote_both}
use Rattle.ledger.proofs.report.add_names.Goals as goal

pub loop-name-preserved : goal.loop-name-preserved
loop-name-preserved c =
    let x = c.name-item.result in
    let out = vec_items c.loop-name.out in
    let t : string_bytes c.in_ok-rest.rest ≡ digest_part (fnv (vec_items x)) = search rules in
    let added : vec_items c.extend_from_slice-in-loop-name.new.self ≡ out ++ entry_line (vec_items x) =
    wrote_both out (vec_items c.extend_from_slice.new.self) (vec_items c.extend_from_slice-in-loop-name.new.self) c.as_slice.result.now c.as_bytes.result.now (vec_items x) (digest_part (fnv (vec_items x))) c.in_ok-extend_from_slice.ensures.items c.in_ok-extend_from_slice-2.ensures.items c.as_slice.ensures.value (search rules) in
    wrote_more vec_items entry_line (vec_items c.args.out.now) c.args.names.now c.loop-name.name-index x out (vec_items c.extend_from_slice-in-loop-name.new.self) (entry_line (vec_items x)) (entry_line (vec_items x))
    c.loop-name-test.true c.name-item.is c.loop-name.invariant added refl refl
