-- The lines that a tape prints.
use Rattle.std.specs.Prelude.{ℕ, ◌+◌, Bool, true, false, cond, ◌&&◌, List, [], ◌∷◌, ◌++◌, Ok, Err, codes, decimal, Result}
use Rattle.rules.specs.Events.{told_by, accepted}
use Rattle.rules.specs.Histories.{Call, Format, BeginFind, BeginPut, Step, Abandon, History}
use Rattle.rules.specs.declared.refusal.Refusal.{Refusal}
use Rattle.rules.specs.declared.report.Report.{Report}
use Rattle.tape.specs.Records.{tape_fault_number}
use Rattle.tape.specs.declared.fault.TapeFault.{TapeFault}
use Rattle.tape.specs.declared.line.Line.{Line}

-- a line: a record's kind, the number, node and word of an answer, and how many steps were accepted
abbrev pub line : ℕ → ℕ × ℕ × ℕ → ℕ → Line
line kind told steps = record { kind = kind; told = record { number = told.0; node = told.1; word = told.2 }; steps = steps }

-- what the last answer told; zeros where no call was made
abbrev pub last_told : History → ℕ × ℕ × ℕ
last_told [] = (0, 0, 0)
last_told (e ∷ earlier) = told_by e.answer

abbrev pub is_step : Call → Bool
is_step (Format fan) = false
is_step (BeginFind i k) = false
is_step (BeginPut i k v) = false
is_step (Step i) = true
is_step (Abandon i) = false

-- how many steps were accepted
abbrev pub steps_in : History → ℕ
steps_in [] = 0
steps_in (e ∷ earlier) = cond (is_step e.call && accepted e) (steps_in earlier + 1) (steps_in earlier)

-- the line of a record of this kind that made these calls
abbrev pub line_of : ℕ → History → Line
line_of kind events = line kind (last_told events) (steps_in events)

-- the line of a fault: its number, and the offset of its record
abbrev pub fault_line : TapeFault → ℕ → Line
fault_line f at = line 0 (tape_fault_number f, 0, 0) at

-- so many accepted steps, and one more if this answer accepts it
abbrev pub counted : ℕ → Result Report Refusal → ℕ
counted n (Ok r) = n + 1
counted n (Err f) = n

-- the five numbers of a line in decimal, with a space between them
abbrev pub line_text : Line → List ℕ
line_text l =
    decimal l.kind ++ (codes " " ++ (decimal l.told.number ++ (codes " " ++ (decimal l.told.node ++ (codes " " ++ (decimal l.told.word ++ (codes " " ++ decimal l.steps)))))))

-- each line ends with a newline
abbrev pub lines_text : List Line → List ℕ
lines_text [] = []
lines_text (l ∷ ls) = line_text l ++ (10 ∷ lines_text ls)
