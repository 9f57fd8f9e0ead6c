-- What the play of a tape amounts to. Each law speaks of the tape's bytes, the state before and after, and the lines.
use Rattle.std.specs.Prelude.{◌≡◌, ℕ, ◌<◌, ◌≤◌, List, [], ◌∷◌, ◌++◌, length, Err, Option}
use Rattle.rules.specs.Histories.{History}
use Rattle.rules.specs.Laws.{Lawful}
use Rattle.rules.specs.Runs.{Reached}
use Rattle.rules.specs.State.{State}
use Rattle.tape.specs.Lines.{fault_line}
use Rattle.tape.specs.Play.{Played, play_tape, play, play_from}
use Rattle.tape.specs.Records.{Tape, over, then, next_record}
use Rattle.tape.specs.Writing.{bytes_of_all, AllWritable}
use Rattle.tape.specs.declared.fault.TapeFault.{TapeFault}
use Rattle.tape.specs.declared.fault.TapeFault.TheVariants.{LongTape}
use Rattle.tape.specs.declared.line.Line.{Line}
use Rattle.tape.specs.declared.reader.Record.{Record}

-- every run to the state before leads on, with the calls that the tape makes, to the state after
unfoldable pub LeadsOn : List ℕ → State → State → Type 0
LeadsOn bytes before after = (m₀ : ℕ → Option ℕ) (h : History) → Reached m₀ h before → Reached m₀ ((play before bytes).events ++ h) after

-- every run to the state before is lawful with the calls that the tape makes
unfoldable pub StaysLawful : List ℕ → State → Type 0
StaysLawful bytes before = (m₀ : ℕ → Option ℕ) (h : History) → Reached m₀ h before → Lawful m₀ ((play before bytes).events ++ h)

-- a tape that says just these records
abbrev pub saying : List Record → Tape
saying [] = over
saying (r ∷ rs) = then r (saying rs)

abbrev pub carried_out : List Record → State → Played
carried_out rs st = play_tape (saying rs) st

-- where whole records come first, they are carried out one after the other, and the rest is played from where they left off
unfoldable pub InParts : List ℕ → State → List Line → State → Type 0
InParts bytes before lines after =
    (rs : List Record) (rest : List ℕ) → AllWritable rs → bytes ≡ bytes_of_all rs ++ rest → length bytes ≤ 4096
    → (lines ≡ (carried_out rs before).lines ++ (play_from (length (bytes_of_all rs)) (carried_out rs before).state rest).lines)
    × (after ≡ (play_from (length (bytes_of_all rs)) (carried_out rs before).state rest).state)

-- where a fault comes after whole records, what they did stays done, and the fault's line is the last
unfoldable pub FaultKeeps : List ℕ → State → List Line → State → Type 0
FaultKeeps bytes before lines after =
    (rs : List Record) (rest : List ℕ) (f : TapeFault) → AllWritable rs → bytes ≡ bytes_of_all rs ++ rest → length bytes ≤ 4096
    → 0 < length rest → next_record rest ≡ Err f
    → (lines ≡ (carried_out rs before).lines ++ fault_line f (length (bytes_of_all rs)) ∷ []) × (after ≡ (carried_out rs before).state)

-- a tape that is too long does nothing
unfoldable pub LongKeeps : List ℕ → State → List Line → State → Type 0
LongKeeps bytes before lines after = 4096 < length bytes → (lines ≡ fault_line LongTape 0 ∷ []) × (after ≡ before)
