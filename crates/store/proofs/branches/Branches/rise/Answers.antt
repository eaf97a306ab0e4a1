use Rattle.store.proofs.Children.{rise_plain}
use Rattle.store.proofs.branches.Branches.rise.Goals as goal

pub returns-in-Plain : goal.returns-in-Plain
returns-in-Plain c = rise_plain c.args.self _ c.len-many.result c.len-many.ensures.count c.in-Plain.is
