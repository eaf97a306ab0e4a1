use Rattle.std.proofs.Common.{refl, ◌∙◌}
use Rattle.orders.proofs.Patterns.{by_elems}
use Rattle.orders.proofs.pattern.compare_pattern.Goals as goal

pub returns : goal.returns
returns c = c.cmp.ensures ∙ by_elems _ (λ m n. refl) (λ m. refl) (λ n. refl) refl c.args.a.now c.args.b.now
