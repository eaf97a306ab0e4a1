use Rattle.std.proofs.Common.{◌≡◌, ◌+◌, ◌≤◌, List, [], ◌∷◌, ◌++◌, length, take, drop, ap, ◌∙◌, arith, length-append, rules}
use Rattle.std.proofs.lemmas.List.{append_assoc}
use Rattle.std.proofs.lemmas.Bool.{and_from, lt-ltb, le-leb}
use Rattle.terms.specs.Terms.{Text}
use Rattle.leaves.specs.Values.{texts_of}
use Rattle.store.specs.Kept.{named}
use Rattle.store.specs.Pools.{pool, listed}
use Rattle.store.proofs.Pieces.{read_new}
use Rattle.store.proofs.Grown.{takes_on, length_listed}
use Rattle.store.proofs.texts.TextTable.keep_name.Goals as goal

pub returns : goal.returns
returns c =
    let b = c.args.self.now in
    let end = pool c.keep_list-namespaces.new.self in
    let rest = texts_of c.args.name.namespaces in
    let ts = c.args.name.base.0.now ∷ rest in
    let n = c.keep_next.ensures.texts in
    let l = c.keep_list-namespaces.ensures.texts in
    let a = append_assoc (listed (pool b)) (c.args.name.base.0.now ∷ []) rest in
    let e : listed end ≡ listed (pool b) ++ ts = cc in
    let f : c.len-start.result ≡ length (listed (pool b)) = search (rules, length_listed) in
    let k : c.keep_list-namespaces.result.len + 1 ≡ length ts = search rules in
    let h : c.len-start.result + (c.keep_list-namespaces.result.len + 1) ≤ length end.spans =
    omega (arith, f, k, ap length e, length-append (listed (pool b)) ts, length_listed end)
    in
    record {
      takes = takes_on _ _ _ _ _ _ c.keep_next.ensures.takes c.keep_list-namespaces.ensures.takes (omega arith);
      name =
          ap (λ (us : List Text). named (take (c.keep_list-namespaces.result.len + 1) (drop c.len-start.result us))) e
          ∙ ap named (read_new (listed (pool b)) ts _ _ f k);
      inside = and_from _ _ (lt-ltb _ _ (omega arith)) (le-leb _ _ h);
    }
