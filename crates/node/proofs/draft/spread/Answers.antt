use Rattle.node.proofs.Laying.{spread_is}
use Rattle.node.proofs.draft.spread.Goals as goal

pub returns-clause-after : goal.returns-clause-after
returns-clause-after c =
    spread_is c.args.pairs.now c.args.entries.now c.lay_pairs.new.entries c.lay_pairs-2.new.entries c.args.at c.args.new c.requires.at c.requires.room c.lay_pairs.ensures c.lay_pairs-2.ensures
