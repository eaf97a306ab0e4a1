use Rattle.std.proofs.Common.{◌≡◌, true, [], ◌∷◌, length, sym, refl, ◌∙◌, length-append, rules}
use Rattle.std.proofs.lemmas.List.{append-nil}
use Rattle.std.proofs.lemmas.Bool.{and_from}
use Rattle.model.specs.Checks.{every}
use Rattle.store.specs.Spans.{span_in}
use Rattle.store.specs.Pools.{pool}
use Rattle.store.proofs.Pieces.{every_push}
use Rattle.store.proofs.Grown.{grows_by, takes_on, listed_next}
use Rattle.store.proofs.texts.TextTable.keep_next.Goals as goal

pub invariant_of-self : goal.invariant_of-self
invariant_of-self c =
    let b = c.keep_text-span.new.self in
    let s = c.keep_text-span.result in
    let e : every (span_in (length b.bytes)) c.push.new.self ≡ true =
    rw c.push.ensures.rows (every_push _ b.spans (s ∷ []) b.inside (and_from _ true c.keep_text-span.ensures.inside refl))
    in
    record { within = search (rules, length-append); inside = e }

pub returns : goal.returns
returns c =
    let b = c.keep_text-span.new.self in
    let p = c.push.ensures.rows in
    record {
      takes =
          takes_on _ (pool b) _ _ 2 _ c.keep_text-span.ensures.takes
          (record { grows = grows_by (pool b) _ [] _ (c.keep_text-span.result ∷ []) _ [] (sym (append-nil b.bytes)) p (sym (append-nil b.elems)); bytes = search (rules, length-append) })
          refl;
      texts =
          listed_next (pool b) _ c.keep_text-span.result p
          ∙ (let a = c.keep_text-span.ensures.texts in let t = c.keep_text-span.ensures.text in cc);
    }
