use Rattle.std.proofs.Common.{◌≡◌, map}
use Rattle.node.specs.Values.{pair}
use Rattle.node.proofs.Laying.{laid_so_far}
use Rattle.node.proofs.draft.lay_pairs.Given as goal

abbrev pub invariant-loop-i : goal.invariant-loop-i
invariant-loop-i l = l.entries ≡ laid_so_far l.i (map pair l.pairs) l.initial.entries
