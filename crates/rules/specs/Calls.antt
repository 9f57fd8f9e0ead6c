-- What each call answers and leaves, refusals too. Where several refusals hold, the one that is asked first decides.
use Rattle.std.specs.Prelude.{ℕ, Bool, true, false, cond, ◌||◌, length, replicate, Option, Ok, Err, Result, ◌==◌, nat_lt, slice_set}
use Rattle.memory.specs.declared.fault.Fault.{Fault}
use Rattle.rules.specs.Cells.{answers, leaves}
use Rattle.rules.specs.Refusals.{of_fault}
use Rattle.rules.specs.Seats.{in_phase, idle, starting_out}
use Rattle.rules.specs.State.{State, seat_at, extent_of, with_seat, zeroed}
use Rattle.rules.specs.Steps.{access_of, advance}
use Rattle.rules.specs.declared.access.Access.{Access}
use Rattle.rules.specs.declared.refusal.Refusal.{Refusal}
use Rattle.rules.specs.declared.refusal.Refusal.TheVariants as refusal
use Rattle.rules.specs.declared.report.Outcome.{Outcome}
use Rattle.rules.specs.declared.report.Outcome.TheVariants as outcome
use Rattle.rules.specs.declared.report.Report.{Report}
use Rattle.rules.specs.declared.report.Report.TheVariants.{GoneOn, Abandoned}
use Rattle.rules.specs.declared.seat.Operation.{Operation}
use Rattle.rules.specs.declared.seat.Operation.TheVariants as operation
use Rattle.rules.specs.declared.seat.Phase.{Phase}
use Rattle.rules.specs.declared.seat.Phase.TheVariants as phase
use Rattle.rules.specs.declared.seat.Seat.{Seat}

-- Format: the fan is set, the root is an empty leaf, one node is in use, and all seats are idle.

abbrev pub format : State → ℕ → Result Report Refusal × State
format st fan =
    cond (st.fan == 0)
    (cond (nat_lt fan 3 || nat_lt 13 fan) (Err refusal.BadFan, st)
    (cond (nat_lt (length st.cells) 32) (Err refusal.TooSmall, st) (
      Ok (GoneOn 0),
      record
          { cells = zeroed 32 st.cells; top = st.top; iskey = st.iskey; before = st.before; fan = fan; count = 1; seats = replicate 8 idle },
    )))
    (Err refusal.Formatted, st)

-- Begin: seat `i` starts out from the root with key `k`.

abbrev pub is_idle : Phase → Bool
is_idle phase.Idle = true
is_idle phase.Look = false
is_idle (phase.Copy i) = false
is_idle phase.Check = false
is_idle phase.Latch = false
is_idle phase.Take = false
is_idle (phase.Fill p i) = false
is_idle phase.Release = false
is_idle phase.Undo = false
is_idle (phase.End o) = false

-- the word that an operation carries beside its key
abbrev pub value_of : Operation → ℕ
value_of operation.Find = 0
value_of (operation.Put v) = v
value_of (operation.Post m d) = d

abbrev pub begin : State → ℕ → ℕ → Operation → Result Report Refusal × State
begin st i k t =
    cond (st.fan == 0) (Err refusal.Unformatted, st)
    (cond (nat_lt i 8)
    (cond (is_idle (seat_at st.seats i).phase)
    (cond (nat_lt st.top k || nat_lt st.top (value_of t)) (Err refusal.TooWide, st)
    (cond (st.iskey k) (Ok (GoneOn 0), with_seat st i (starting_out (seat_at st.seats i) k t)) (Err refusal.NoKey, st)))
    (Err refusal.Busy, st))
    (Err refusal.NoSeat, st))

-- Step: seat `i` makes the access of its phase, and advances by the word that it gave.

abbrev pub due_in : Phase → Option Access → Result (Option Access) Refusal
due_in phase.Idle a = Err refusal.Idle
due_in phase.Look a = Ok a
due_in (phase.Copy i) a = Ok a
due_in phase.Check a = Ok a
due_in phase.Latch a = Ok a
due_in phase.Take a = Ok a
due_in (phase.Fill p i) a = Ok a
due_in phase.Release a = Ok a
due_in phase.Undo a = Ok a
due_in (phase.End o) a = Ok a

-- the access that is due, or why there is none
abbrev pub due : State → ℕ → Result (Option Access) Refusal
due st i =
    cond (st.fan == 0) (Err refusal.Unformatted)
    (cond (nat_lt i 8) (due_in (seat_at st.seats i).phase (access_of (extent_of st) (seat_at st.seats i))) (Err refusal.NoSeat))

-- the state after the access, with the seat and the node count as they advanced
abbrev pub moved : State → ℕ → Option Access → Seat × ℕ × Report → Result Report Refusal × State
moved st i a m = (
  Ok m.2,
  record
      { cells = leaves st.cells st.top a; top = st.top; iskey = st.iskey; before = st.before; fan = st.fan; count = m.1; seats = slice_set st.seats i m.0 },
)

abbrev pub answered_by : State → ℕ → Option Access → Result ℕ Fault → Result Report Refusal × State
answered_by st i a (Err f) = (Err (of_fault f), st)
answered_by st i a (Ok w) = moved st i a (advance st.before (extent_of st) (seat_at st.seats i) st.count w)

abbrev pub step_by : State → ℕ → Result (Option Access) Refusal → Result Report Refusal × State
step_by st i (Err r) = (Err r, st)
step_by st i (Ok a) = answered_by st i a (answers st.cells st.top a)

abbrev pub step : State → ℕ → Result Report Refusal × State
step st i = step_by st i (due st i)

-- Abandon: seat `i` is idle again, unless it holds a latch. Its put was published if it posts already, or ends as written.

abbrev pub is_post : Operation → Bool
is_post operation.Find = false
is_post (operation.Put v) = false
is_post (operation.Post m d) = true

abbrev pub is_written : Outcome → Bool
is_written outcome.Stored = true
is_written (outcome.Replaced v) = true
is_written outcome.Untold = true
is_written outcome.Full = false
is_written outcome.Worn = false

abbrev pub abandon_answer : Phase → Operation → Result Report Refusal
abandon_answer phase.Idle t = Err refusal.Idle
abandon_answer phase.Look t = Ok (Abandoned (is_post t))
abandon_answer (phase.Copy i) t = Ok (Abandoned (is_post t))
abandon_answer phase.Check t = Ok (Abandoned (is_post t))
abandon_answer phase.Latch t = Ok (Abandoned (is_post t))
abandon_answer phase.Take t = Err refusal.Holding
abandon_answer (phase.Fill p i) t = Err refusal.Holding
abandon_answer phase.Release t = Err refusal.Holding
abandon_answer phase.Undo t = Err refusal.Holding
abandon_answer (phase.End o) t = Ok (Abandoned (is_written o))

abbrev pub abandoned : State → ℕ → Result Report Refusal → Result Report Refusal × State
abandoned st i (Err r) = (Err r, st)
abandoned st i (Ok r) = (Ok r, with_seat st i (in_phase (seat_at st.seats i) phase.Idle))

abbrev pub abandon : State → ℕ → Result Report Refusal × State
abandon st i =
    cond (st.fan == 0) (Err refusal.Unformatted, st)
    (cond (nat_lt i 8) (abandoned st i (abandon_answer (seat_at st.seats i).phase (seat_at st.seats i).operation)) (Err refusal.NoSeat, st))
