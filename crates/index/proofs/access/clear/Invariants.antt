use Rattle.std.proofs.Common.{◌≡◌}
use Rattle.rules.specs.State.{zeroed}
use Rattle.index.proofs.access.clear.Given as goal

abbrev pub invariant-loop-cell : goal.invariant-loop-cell
invariant-loop-cell g l =
    let m = g.M.Memory in
    (m.cells l.memory ≡ zeroed l.cell (m.cells l.initial.memory)) × (m.top l.memory ≡ m.top l.initial.memory) × (m.outside l.memory ≡ m.outside l.initial.memory)
