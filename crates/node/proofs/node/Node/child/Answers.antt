use Rattle.std.proofs.Common.{rules}
use Rattle.node.proofs.Finds.{child_at}
use Rattle.node.proofs.node.Node.child.Goals as goal

pub returns : goal.returns
returns g c = search (rules, child_at)
