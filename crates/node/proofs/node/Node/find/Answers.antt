use Rattle.std.proofs.Common.{rules}
use Rattle.node.proofs.Finds.{found_value}
use Rattle.node.proofs.node.Node.find.Goals as goal

pub returns : goal.returns
returns g c = search (rules, found_value)
