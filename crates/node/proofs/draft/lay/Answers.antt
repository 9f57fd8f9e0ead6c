use Rattle.std.proofs.Common.{refl, ◌∙◌}
use Rattle.rules.specs.Nodes.{entry}
use Rattle.node.proofs.Laying.{laid_replaced, laid_divided}
use Rattle.node.proofs.draft.lay.Goals as goal

pub returns-in-Replace-clause-after : goal.returns-in-Replace-clause-after
returns-in-Replace-clause-after c =
    let inside = rw (c.in-Some.is, c.in-Replace.is) at c.requires in
    rw (c.in-Some.is, c.in-Replace.is) (laid_replaced _ _ _ _ c.in-Replace.at c.pairs-pairs.ensures inside c.in-Replace.new c.lay_pairs-in-Replace.ensures)

pub returns-in-Divide-clause-after : goal.returns-in-Divide-clause-after
returns-in-Divide-clause-after c =
    let inside = rw (c.in-Some.is, c.in-Divide.is) at c.requires in
    let entry_is = c.entry-key.ensures in
    let laid = laid_divided _ _ _ _ c.in-Divide.at c.pairs-pairs.ensures inside _ (entry c.entry-key.result.key c.in-Divide.child) c.spread-len.ensures.after in
    rw (c.in-Some.is, c.in-Divide.is) (laid ∙ rw entry_is refl)
