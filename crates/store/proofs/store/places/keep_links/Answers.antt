use Rattle.std.proofs.Common.{◌≡◌, [], ◌∷◌, ◌++◌, length, ap, subst, arith}
use Rattle.std.proofs.lemmas.List.{append_assoc, append-nil, length_push}
use Rattle.terms.specs.Bank.{Child}
use Rattle.model.specs.Costs.{keys_bytes}
use Rattle.pairs.specs.declared.link.Link.{Link}
use Rattle.store.specs.Pools.{pool}
use Rattle.store.specs.Branches.{branches_of, children_left}
use Rattle.store.specs.Stores.{Entered}
use Rattle.store.proofs.Grown.{grows_none, grows_on}
use Rattle.store.proofs.Entries.{entered_none, entered_more}
use Rattle.store.proofs.store.places.keep_links.Goals as goal

pub loop-key-init : goal.loop-key-init
loop-key-init c =
    let e = c.into_iter-key-iterator.ensures.into_iter_gives in
    (([], (entered_none _ (pool c.args.texts.now), e)), grows_none _, omega (arith, ap keys_bytes e), omega (arith, ap length e))

pub keep_text-span-requires : goal.keep_text-span-requires
keep_text-span-requires c = omega (arith, ap keys_bytes c.in-Some.ensures.steps, c.loop-key.invariant.2, c.requires.bytes)

pub push-requires : goal.push-requires
push-requires c = (omega arith, omega (arith, ap length c.in-Some.ensures.steps, c.loop-key.invariant.3, c.requires.links))

pub loop-key-preserved : goal.loop-key-preserved
loop-key-preserved c =
    let e = c.in-Some.ensures.steps in
    let i = c.loop-key.invariant in
    let t = c.keep_text-span.ensures in
    let x : Link = record { key = c.keep_text-span.result; child = c.in-Some.child } in
    let next : Child = (c.in-Some.key.now, c.in-Some.child) in
    let a = append_assoc i.0.0 (next ∷ []) (children_left c.next.new.self) in
    let s = i.0.1.1 in (
      (i.0.0 ++ next ∷ [], (entered_more _ _ _ (pool c.loop-key.texts) _ i.0.0 x c.in-Some.key.now i.0.1.0 t.takes.grows c.push.ensures.rows t.text t.inside, cc)),
      grows_on _ (pool c.loop-key.texts) _ i.1 t.takes.grows,
      omega (arith, ap keys_bytes e, t.takes.bytes, i.2),
      omega (arith, ap length e, ap length c.push.ensures.rows, length_push c.loop-key.links x, i.3),
    )

pub returns : goal.returns
returns c =
    let e = c.in-None.ensures.steps.0 in
    let i = c.loop-key.invariant in
    let s = i.0.1.1 in
    let z = append-nil i.0.0 in
    let all : i.0.0 ≡ branches_of c.args.children = cc in
    record {
      entered = subst (Entered _ _ (pool c.loop-key.texts)) all i.0.1.0;
      takes = record { grows = i.1; bytes = omega (arith, ap keys_bytes e, i.2) };
      first = c.len-first.ensures;
    }
