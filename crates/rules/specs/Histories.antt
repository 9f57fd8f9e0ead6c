-- Histories: the calls on an index with their answers, the newest first.
use Rattle.std.specs.Prelude.{ℕ, List, Result}
use Rattle.rules.specs.Calls.{format, begin, step, abandon}
use Rattle.rules.specs.State.{State}
use Rattle.rules.specs.declared.refusal.Refusal.{Refusal}
use Rattle.rules.specs.declared.report.Report.{Report}
use Rattle.rules.specs.declared.seat.Operation.TheVariants as operation

-- a call, with the seat first where it is for one, then the key and the value
pub data Call : Type 0 where
  Format : ℕ → Call
  BeginFind : ℕ → ℕ → Call
  BeginPut : ℕ → ℕ → ℕ → Call
  Step : ℕ → Call
  Abandon : ℕ → Call

-- a call with its answer
pub record Event : Type 0 where
  pub call : Call
  pub answer : Result Report Refusal

abbrev pub History : Type 0
History = List Event

-- what a call answers and leaves
abbrev pub act : Call → State → Result Report Refusal × State
act (Format fan) st = format st fan
act (BeginFind i k) st = begin st i k operation.Find
act (BeginPut i k v) st = begin st i k (operation.Put v)
act (Step i) st = step st i
act (Abandon i) st = abandon st i
