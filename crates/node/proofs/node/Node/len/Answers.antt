use Rattle.std.proofs.Common.{arith}
use Rattle.node.proofs.Entries.{entries_long}
use Rattle.node.proofs.node.Node.len.Goals as goal

pub returns : goal.returns
returns c = let e = entries_long c.args.self.now.words.now (omega arith) in record { count = omega arith; few = omega arith }
