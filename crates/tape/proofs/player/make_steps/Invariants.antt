use Rattle.std.proofs.Common.{◌≡◌, ◌-◌, []}
use Rattle.index.specs.Views.{view}
use Rattle.tape.specs.Lines.{line_of}
use Rattle.tape.proofs.Stepping.{run_on}
use Rattle.tape.proofs.player.make_steps.Given as goal

abbrev pub invariant-loop-made : goal.invariant-loop-made
invariant-loop-made g l =
    (l.line.steps ≡ l.made)
    × (run_on l.kind (l.count - l.made) l.seat l.line (view g.M.Memory g.O.Order l.index) ≡ run_on l.kind l.count l.seat (line_of l.kind []) (view g.M.Memory g.O.Order l.initial.index))
    × (g.M.Memory.outside l.index.memory ≡ g.M.Memory.outside l.initial.index.memory)
