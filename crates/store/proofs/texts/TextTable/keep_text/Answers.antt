use Rattle.std.proofs.Common.{◌≡◌, ℕ, List, [], ◌++◌, length, take, drop, sym, refl, ap, ◌∙◌, length-append, rules}
use Rattle.std.proofs.lemmas.List.{append-nil}
use Rattle.store.specs.Pools.{pool}
use Rattle.store.proofs.Pieces.{read_new, every_stays}
use Rattle.store.proofs.Grown.{grows_by, span_in_stays, listed_same}
use Rattle.store.proofs.texts.TextTable.keep_text.Goals as goal

pub invariant_of-self : goal.invariant_of-self
invariant_of-self c =
    let b = c.args.self.now in
    let t = c.args.text.now in
    let e : c.extend_from_slice.new.self ≡ b.bytes ++ t = search rules in
    record { within = search (rules, length-append); inside = rw e (every_stays _ _ (span_in_stays b.bytes t) b.spans b.inside) }

pub returns : goal.returns
returns c =
    let b = c.args.self.now in
    let t = c.args.text.now in
    let e : c.extend_from_slice.new.self ≡ b.bytes ++ t = search rules in
    let s : c.len-start.result ≡ length b.bytes = search rules in
    record {
      takes = record { grows = grows_by (pool b) _ t _ [] _ [] e (sym (append-nil b.spans)) (sym (append-nil b.elems)); bytes = search (rules, length-append) };
      texts = listed_same (pool b) _ t e b.inside;
      text = ap (λ (bs : List ℕ). take (length t) (drop c.len-start.result bs)) e ∙ read_new b.bytes t _ _ s refl;
      inside = search (rules, length-append);
    }
