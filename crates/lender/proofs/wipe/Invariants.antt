use Rattle.std.proofs.Common.{◌≡◌, ◌++◌, drop, replicate}
use Rattle.lender.proofs.wipe.Given as goal

abbrev pub invariant-loop-cell : goal.invariant-loop-cell
invariant-loop-cell g l =
    (g.M.Memory.cells l.memory ≡ replicate l.cell 0 ++ drop l.cell (g.M.Memory.cells l.initial.memory))
    × (g.M.Memory.top l.memory ≡ g.M.Memory.top l.initial.memory)
    × (g.M.Memory.outside l.memory ≡ g.M.Memory.outside l.initial.memory)
