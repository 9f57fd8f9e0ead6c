use Rattle.std.proofs.Common.{refl, arith}
use Rattle.node.proofs.Entries.{pairs_are}
use Rattle.node.proofs.node.Node.pairs.Goals as goal

pub returns : goal.returns
returns c = pairs_are c.args.self.now.words.now (omega arith) _ c.as_chunks.result.0.now c.len.result refl c.as_chunks.ensures.front c.len.ensures.count
