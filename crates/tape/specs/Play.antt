-- What a tape does to an index: the calls that its records make, its lines, and the state that it leaves.
use Rattle.std.specs.Prelude.{ℕ, zero, suc, Bool, true, cond, List, [], ◌∷◌, ◌++◌, length, Ok, Err, Result}
use Rattle.rules.specs.Events.{ends}
use Rattle.rules.specs.Histories.{Call, BeginFind, BeginPut, Step, Abandon as Abandons, History, act}
use Rattle.rules.specs.Reports.{told}
use Rattle.rules.specs.State.{State}
use Rattle.rules.specs.declared.refusal.Refusal.{Refusal}
use Rattle.rules.specs.declared.report.Report.{Report}
use Rattle.tape.specs.Lines.{line_of, fault_line}
use Rattle.tape.specs.Records.{kind_of, Tape, over, faulty, then, read_from, tape_of}
use Rattle.tape.specs.declared.line.Line.{Line}
use Rattle.tape.specs.declared.reader.Record.{Record}
use Rattle.tape.specs.declared.reader.Record.TheVariants.{Find, Put, Steps, Abandon}

-- what was done: the calls with their answers, the newest first, and the state after them
pub record Done : Type 0 where
  pub events : History
  pub state : State

-- one call
abbrev pub called : Call → State → Done
called c st = record { events = record { call = c; answer = (act c st).0 } ∷ []; state = (act c st).1 }

-- what was done later, after what was done earlier
abbrev pub after : Done → Done → Done
after earlier later = record { events = later.events ++ earlier.events; state = later.state }

-- an operation ended, or the step was refused
abbrev pub stops : Result Report Refusal → Bool
stops (Ok r) = ends (told r).0
stops (Err f) = true

-- steps of a seat until the count is reached, an operation ends or a step is refused
abbrev pub stepped : ℕ → ℕ → State → Done
stepped zero seat st = record { events = []; state = st }
stepped (suc n) seat st =
    let one = called (Step seat) st in
    cond (stops (act (Step seat) st).0) one (after one (stepped n seat one.state))

abbrev pub carry_out : Record → State → Done
carry_out (Find seat key) st = called (BeginFind seat key) st
carry_out (Put seat key value) st = called (BeginPut seat key value) st
carry_out (Steps seat count) st = stepped count seat st
carry_out (Abandon seat) st = called (Abandons seat) st

-- a tape played: its lines, the calls that it made with their answers, the newest first, and the state after them
pub record Played : Type 0 where
  pub lines : List Line
  pub events : History
  pub state : State

-- a line for what was done first, and what was played then
abbrev pub onward : Line → Done → Played → Played
onward line first rest = record { lines = line ∷ rest.lines; events = rest.events ++ first.events; state = rest.state }

-- the records are carried out one after the other; a fault prints its line and does nothing
abbrev pub play_tape : Tape → State → Played
play_tape over st = record { lines = []; events = []; state = st }
play_tape (faulty f at) st = record { lines = fault_line f at ∷ []; events = []; state = st }
play_tape (then r rest) st =
    let first = carry_out r st in
    onward (line_of (kind_of r) first.events) first (play_tape rest first.state)

abbrev pub play : State → List ℕ → Played
play st bytes = play_tape (tape_of bytes) st

-- bytes played as a tape's from offset `at` on
abbrev pub play_from : ℕ → State → List ℕ → Played
play_from at st bytes = play_tape (read_from (length bytes) at bytes) st
