-- Runs: the states that calls lead to, and the theorem that every run is lawful.
use Rattle.std.specs.Prelude.{◌≡◌, ℕ, [], ◌∷◌, Ok, Option}
use Rattle.memory.specs.Meaning.{Bounded}
use Rattle.order.specs.Laws.{Ordered}
use Rattle.rules.specs.Calls.{format}
use Rattle.rules.specs.Histories.{Call, act, History}
use Rattle.rules.specs.Laws.{Lawful}
use Rattle.rules.specs.PlainMap.{empty_map}
use Rattle.rules.specs.State.{State}
use Rattle.rules.specs.declared.report.Report.TheVariants.{GoneOn}

-- from the map `m₀` the calls of a history, made one after the other, with those answers, lead to a state.
-- A run starts with an accepted format, over any memory that keeps its bounds and any order that shows its laws
pub data Reached : (ℕ → Option ℕ) → History → State → Type 0 where
  formatted : (st : State) (fan : ℕ) → Bounded st.cells st.top → Ordered st.iskey st.before → (format st fan).0 ≡ Ok (GoneOn 0)
      → Reached empty_map [] (format st fan).1
  more : {m₀ : ℕ → Option ℕ} {h : History} {t : State} → Reached m₀ h t → (c : Call)
      → Reached m₀ (record { call = c; answer = (act c t).0 } ∷ h) (act c t).1

-- every run is lawful, whatever calls are made, in whatever order and for whatever seats
abbrev pub RunsLawful : Type 0
RunsLawful = (m₀ : ℕ → Option ℕ) (h : History) (t : State) → Reached m₀ h t → Lawful m₀ h
