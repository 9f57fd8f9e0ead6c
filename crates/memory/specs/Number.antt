-- The number that stands for each fault in a report.
use Rattle.std.specs.Prelude.{ℕ}
use Rattle.memory.specs.declared.fault.Fault.{Fault}
use Rattle.memory.specs.declared.fault.Fault.TheVariants.{NoCell, TooWide}

abbrev pub fault_number : Fault → ℕ
fault_number NoCell = 24
fault_number TooWide = 25
