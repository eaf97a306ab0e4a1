use Rattle.std.proofs.Common.{◌≡◌, ◌+◌, ◌≤◌, List, [], ◌∷◌, ◌++◌, length, take, drop, ap, ◌∙◌, arith, length-append, rules}
use Rattle.std.proofs.lemmas.List.{append_assoc, append-nil}
use Rattle.std.proofs.lemmas.Bool.{le-leb}
use Rattle.terms.specs.Terms.{Text}
use Rattle.leaves.specs.Texts.{text_of}
use Rattle.leaves.specs.Lists.{texts_left}
use Rattle.leaves.specs.Values.{texts_of}
use Rattle.model.specs.Costs.{texts_bytes}
use Rattle.store.specs.Pools.{pool, used, listed}
use Rattle.store.proofs.Pieces.{read_new}
use Rattle.store.proofs.Turns.{list_long}
use Rattle.store.proofs.Grown.{grows_none, grows_on, length_listed}
use Rattle.store.proofs.texts.TextTable.keep_list.Goals as goal

pub loop-text-init : goal.loop-text-init
loop-text-init c =
    let e = c.into_iter-text-iterator.ensures.into_iter_gives in
    let was = pool c.args.self.now in
    (grows_none _, ap (λ k. used was + texts_bytes k) e, ap (λ k. listed was ++ k) e)

pub keep_next-requires : goal.keep_next-requires
keep_next-requires c =
    let n = ap texts_bytes c.in-Some.ensures.steps in
    omega (arith, n, c.loop-text.invariant.1, c.requires)

pub loop-text-preserved : goal.loop-text-preserved
loop-text-preserved c =
    let rest = texts_left c.next.new.self in
    let g = c.in-Some.ensures.steps in
    let n = ap texts_bytes g in
    let t = c.keep_next.ensures.texts in
    let a = append_assoc (listed (pool c.loop-text.self)) (text_of c.in-Some.text ∷ []) rest in
    let i = c.loop-text.invariant.2 in (
      grows_on _ (pool c.loop-text.self) _ c.loop-text.invariant.0 c.keep_next.ensures.takes.grows,
      omega (arith, n, c.keep_next.ensures.takes.bytes, c.loop-text.invariant.1),
      cc,
    )

pub overflow_cast-result : goal.overflow_cast-result
overflow_cast-result c = let l = list_long (texts_of c.args.list) in search rules

pub returns : goal.returns
returns c =
    let was = pool c.args.self.now in
    let end = pool c.loop-text.self in
    let ts = texts_of c.args.list in
    let g : texts_left c.loop-text.text-iterator ≡ [] = c.in-None.ensures.steps.0 in
    let n = ap texts_bytes g in
    let z = append-nil (listed end) in
    let i = c.loop-text.invariant.2 in
    let e : listed end ≡ listed was ++ ts = cc in
    let f : c.len-start.result ≡ length (listed was) = search (rules, length_listed) in
    let k : c.len.result ≡ length ts = search rules in
    let h : c.len-start.result + c.len.result ≤ length end.spans = omega (arith, ap length e, length-append (listed was) ts, length_listed end) in
    record {
      takes = record { grows = c.loop-text.invariant.0; bytes = omega (arith, n, c.loop-text.invariant.1) };
      texts = e;
      len = k;
      list = ap (λ (us : List Text). take c.len.result (drop c.len-start.result us)) e ∙ read_new (listed was) ts _ _ f k;
      inside = le-leb _ _ h;
    }
