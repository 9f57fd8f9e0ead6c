-- A refused call leaves the state as it was.
use Rattle.std.proofs.Common.{◌≡◌, ℕ, Bool, true, false, cond, ◌||◌, eqb, ltb, length, IfErr, Option, Ok, Err, Result, refl}
use Rattle.memory.specs.declared.fault.Fault.{Fault}
use Rattle.rules.specs.Calls.{is_idle, value_of, begin, due, answered_by, step_by, abandoned}
use Rattle.rules.specs.Cells.{answers}
use Rattle.rules.specs.Histories.{Call, Format, BeginFind, BeginPut, Step, Abandon, act}
use Rattle.rules.specs.State.{State, seat_at}
use Rattle.rules.specs.declared.access.Access.{Access}
use Rattle.rules.specs.declared.refusal.Refusal.{Refusal}
use Rattle.rules.specs.declared.report.Report.{Report}
use Rattle.rules.specs.declared.seat.Operation.{Operation}
use Rattle.rules.specs.declared.seat.Operation.TheVariants as operation

-- an answer of a call on `st`: a refusal with the same state, or a report
data Kept (st : State) : Result Report Refusal × State → Type 0 where
  refuses : (f : Refusal) → Kept st (Err f, st)
  reports : (r : Report) (after : State) → Kept st (Ok r, after)

kept_state : {st : State} {p : Result Report Refusal × State} → Kept st p → IfErr p.0 (λ _. p.1 ≡ st)
kept_state (refuses f) = refl
kept_state (reports r after) = tt

either : {st : State} (b : Bool) {x y : Result Report Refusal × State} → Kept st x → Kept st y → Kept st (cond b x y)
either true p q = p
either false p q = q

module _ (st : State) where
  answered_kept : (i : ℕ) (a : Option Access) (r : Result ℕ Fault) → Kept st (answered_by st i a r)
  answered_kept i a (Err f) = refuses _
  answered_kept i a (Ok w) = reports _ _

  step_kept : (i : ℕ) (r : Result (Option Access) Refusal) → Kept st (step_by st i r)
  step_kept i (Err f) = refuses f
  step_kept i (Ok a) = answered_kept i a (answers st.cells st.top a)

  begin_kept : (i k : ℕ) (t : Operation) → Kept st (begin st i k t)
  begin_kept i k t =
      either (eqb st.fan 0) (refuses _)
      (either (ltb i 8)
      (either (is_idle (seat_at st.seats i).phase)
      (either (ltb st.top k || ltb st.top (value_of t)) (refuses _) (either (st.iskey k) (reports _ _) (refuses _)))
      (refuses _))
      (refuses _))

  abandon_kept : (i : ℕ) (r : Result Report Refusal) → Kept st (abandoned st i r)
  abandon_kept i (Err f) = refuses f
  abandon_kept i (Ok r) = reports r _

  call_kept : (c : Call) → Kept st (act c st)
  call_kept (Format fan) =
      either (eqb st.fan 0)
      (either (ltb fan 3 || ltb 13 fan) (refuses _) (either (ltb (length st.cells) 32) (refuses _) (reports _ _)))
      (refuses _)
  call_kept (BeginFind i k) = begin_kept i k operation.Find
  call_kept (BeginPut i k v) = begin_kept i k (operation.Put v)
  call_kept (Step i) = step_kept i (due st i)
  call_kept (Abandon i) = either (eqb st.fan 0) (refuses _) (either (ltb i 8) (abandon_kept i _) (refuses _))

  pub act_kept : (c : Call) → IfErr (act c st).0 (λ _. (act c st).1 ≡ st)
  act_kept c = kept_state (call_kept c)
