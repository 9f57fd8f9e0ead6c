use Rattle.std.proofs.Common.{◌≡◌, ◌+◌, ◌/◌, ◌<◌, ◌≤◌, ◌++◌, length, vec_items, vec_len, vec_capacity}
use Rattle.index.specs.Views.{view}
use Rattle.tape.proofs.Playing.{left_to_play}
use Rattle.tape.proofs.player.play_records.Given as goal

abbrev pub invariant-loop-rest : goal.invariant-loop-rest
invariant-loop-rest g l =
    (vec_items l.lines ++ (left_to_play l.tape l.rest (view g.M.Memory g.O.Order l.index)).lines ≡ vec_items l.initial.lines ++ (left_to_play l.tape l.tape (view g.M.Memory g.O.Order l.initial.index)).lines)
    × ((left_to_play l.tape l.rest (view g.M.Memory g.O.Order l.index)).state ≡ (left_to_play l.tape l.tape (view g.M.Memory g.O.Order l.initial.index)).state)
    × (g.M.Memory.outside l.index.memory ≡ g.M.Memory.outside l.initial.index.memory)
    × (length l.rest ≤ length l.tape)
    × (vec_len l.lines + length l.rest / 5 < vec_capacity l.lines)

abbrev pub decreases-loop-rest : goal.decreases-loop-rest
decreases-loop-rest g l = length l.rest
