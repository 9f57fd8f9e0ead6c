-- What a call adds to the runs that lead to an index.
use Rattle.std.specs.Prelude.{ℕ, [], ◌∷◌, Option, Result, OnOk}
use Rattle.rules.specs.Histories.{Call, History}
use Rattle.rules.specs.Laws.{Lawful}
use Rattle.rules.specs.PlainMap.{empty_map}
use Rattle.rules.specs.Runs.{Reached}
use Rattle.rules.specs.State.{State}
use Rattle.rules.specs.declared.refusal.Refusal.{Refusal}
use Rattle.rules.specs.declared.report.Report.{Report}

-- an accepted format starts a run over the empty map
unfoldable pub Starts : Result Report Refusal → State → Type 0
Starts r after = OnOk r (Reached empty_map [] after)

-- every run to the state before leads on, with this call and its answer, to the state after
unfoldable pub LeadsOn : Call → Result Report Refusal → State → State → Type 0
LeadsOn c r st after = (m₀ : ℕ → Option ℕ) (h : History) → Reached m₀ h st → Reached m₀ (record { call = c; answer = r } ∷ h) after

-- every run to the state before is lawful with this call and its answer
unfoldable pub StaysLawful : Call → Result Report Refusal → State → Type 0
StaysLawful c r st = (m₀ : ℕ → Option ℕ) (h : History) → Reached m₀ h st → Lawful m₀ (record { call = c; answer = r } ∷ h)
