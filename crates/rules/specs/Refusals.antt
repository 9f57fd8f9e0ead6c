-- Why a call is refused: the number of each refusal, and a memory's fault as a refusal.
use Rattle.std.specs.Prelude.{ℕ}
use Rattle.memory.specs.declared.fault.Fault.{Fault}
use Rattle.memory.specs.declared.fault.Fault.TheVariants as fault
use Rattle.rules.specs.declared.refusal.Refusal.{Refusal}
use Rattle.rules.specs.declared.refusal.Refusal.TheVariants as refusal

abbrev pub refusal_number : Refusal → ℕ
refusal_number refusal.Unformatted = 21
refusal_number refusal.NoSeat = 22
refusal_number refusal.Busy = 23
refusal_number refusal.NoCell = 24
refusal_number refusal.TooWide = 25
refusal_number refusal.NoKey = 26
refusal_number refusal.Idle = 27
refusal_number refusal.Holding = 28
refusal_number refusal.Formatted = 29
refusal_number refusal.BadFan = 30
refusal_number refusal.TooSmall = 31

abbrev pub of_fault : Fault → Refusal
of_fault fault.NoCell = refusal.NoCell
of_fault fault.TooWide = refusal.TooWide
