use Rattle.leaves.proofs.Clips.{clipped}
use Rattle.leaves.proofs.text_list.Span.of.Goals as goal

pub returns : goal.returns
returns g c = clipped c.args.members.now c.min-start.result c.min.result c.args.self.start c.args.self.len c.min-start.ensures c.min.ensures
