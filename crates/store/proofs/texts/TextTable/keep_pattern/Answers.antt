use Rattle.std.proofs.Common.{◌≡◌, List, [], ◌++◌, length, take, drop, sym, refl, ap, ◌∙◌, length-append, rules}
use lib.ListN.{length-map}
use Rattle.std.proofs.lemmas.List.{append-nil}
use Rattle.leaves.specs.declared.pattern.PatternElem.{PatternElem}
use Rattle.leaves.specs.Values.{elem_of, pattern_of}
use Rattle.store.specs.Pools.{pool}
use Rattle.store.proofs.Pieces.{read_new}
use Rattle.store.proofs.Grown.{grows_by}
use Rattle.store.proofs.texts.TextTable.keep_pattern.Goals as goal

pub invariant_of-self : goal.invariant_of-self
invariant_of-self c =
    let b = c.args.self.now in
    let l = length-map c.args.pattern.now elem_of in
    record { within = search (rules, length-append); inside = b.inside }

pub overflow_cast-result : goal.overflow_cast-result
overflow_cast-result c = let l = length-map c.args.pattern.now elem_of in search rules

pub returns : goal.returns
returns c =
    let b = c.args.self.now in
    let t = c.args.pattern.now in
    let l = length-map t elem_of in
    let e : c.extend_from_slice.new.self ≡ b.elems ++ t = search rules in
    let s : c.len-start.result ≡ length b.elems = search rules in
    record {
      takes = record { grows = grows_by (pool b) _ [] _ [] _ t (sym (append-nil b.bytes)) (sym (append-nil b.spans)) e; bytes = search (rules, length-append) };
      pattern = ap (λ (es : List PatternElem). pattern_of (take (length t) (drop c.len-start.result es))) e ∙ ap pattern_of (read_new b.elems t _ _ s refl);
      inside = search (rules, length-append);
    }
