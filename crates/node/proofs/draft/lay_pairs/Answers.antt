use Rattle.std.proofs.Common.{rules}
use Rattle.node.proofs.Laying.{laid_more}
use Rattle.node.proofs.draft.lay_pairs.Goals as goal

pub loop-i-preserved : goal.loop-i-preserved
loop-i-preserved c = search (rules, laid_more)
