use Rattle.index.proofs.Staying.{starts}
use Rattle.index.proofs.index.Index.format.Goals as goal

pub returns-clause-reached : goal.returns-clause-reached
returns-clause-reached g c =
    let index = c.args.self.now in
    starts c.args.fan c.start.result _ _ c.start.ensures.rule (g.M.Memory.bounded index.memory) (g.O.Order.ordered index.order)
