-- What a memory with the cells `cs` and the top word `top` answers to a step's access, and the cells that it leaves.
use Rattle.std.specs.Prelude.{ℕ, List, Some, None, Option, Ok, Result, slice_index}
use Rattle.memory.specs.declared.fault.Fault.{Fault}
use Rattle.memory.specs.Row.{read_at, guarded, written, swapped}
use Rattle.rules.specs.declared.access.Access.{Access}
use Rattle.rules.specs.declared.access.Access.TheVariants.{Read, Write, Swap}

-- a read and a swap answer the word that the cell held; no access, and a write, answer 0
abbrev pub answers : List ℕ → ℕ → Option Access → Result ℕ Fault
answers cs top None = Ok 0
answers cs top (Some (Read c)) = read_at cs c
answers cs top (Some (Write c w)) = guarded cs top c w 0
answers cs top (Some (Swap c old w)) = guarded cs top c w (slice_index cs c)

abbrev pub leaves : List ℕ → ℕ → Option Access → List ℕ
leaves cs top None = cs
leaves cs top (Some (Read c)) = cs
leaves cs top (Some (Write c w)) = written cs top c w
leaves cs top (Some (Swap c old w)) = swapped cs top c old w
