-- Records, carried out one after the other.
use Rattle.std.proofs.Common.{◌≡◌, ℕ, ◌+◌, ◌-◌, ◌<◌, ◌≤◌, List, [], ◌∷◌, ◌++◌, length, drop, Ok, Err, sym, ap, ◌∙◌, append_assoc, arith, length-drop}
use Rattle.rules.specs.State.{State}
use Rattle.tape.specs.Lines.{line_of}
use Rattle.tape.specs.Play.{Played, carry_out, play_tape, play_from}
use Rattle.tape.specs.Records.{kind_of, span, next_record, Tape, over, faulty, then, read_from}
use Rattle.tape.specs.declared.fault.TapeFault.{TapeFault}
use Rattle.tape.specs.declared.line.Line.{Line}
use Rattle.tape.specs.declared.reader.Record.{Record}
use Rattle.tape.proofs.Reading.{spans, read_none, read_record, read_fault}

-- what is left to play of a tape
unfoldable pub left_to_play : List ℕ → List ℕ → State → Played
left_to_play tape rest st = play_tape (read_from (length rest) (length tape - length rest) rest) st

-- at the start, all of it
pub all_left : (tape : List ℕ) (st : State) → left_to_play tape tape st ≡ play_from 0 st tape
unfolding left_to_play
all_left tape st = let start : length tape - length tape ≡ 0 = omega arith in ap (λ at. play_tape (read_from (length tape) at tape) st) start

-- at the end, nothing
pub none_left : (tape rest : List ℕ) (st : State) → length rest ≡ 0 → left_to_play tape rest st ≡ play_tape over st
unfolding left_to_play
none_left tape rest st none = ap (λ t. play_tape t st) (read_none (length rest) (length tape - length rest) rest none)

-- at a fault, its line
pub fault_left : (tape rest : List ℕ) (f : TapeFault) (st : State) → 0 < length rest → next_record rest ≡ Err f → left_to_play tape rest st ≡ play_tape (faulty f (length tape - length rest)) st
unfolding left_to_play
fault_left tape rest f st some e = ap (λ t. play_tape t st) (read_fault (length rest) (length tape - length rest) rest f some (omega arith) e)

-- at a record, what it does and what is left after it
pub record_left : (tape rest later : List ℕ) (r : Record) (l : Line) (st next : State) → length rest ≤ length tape → next_record rest ≡ Ok r → later ≡ drop (span rest) rest
    → l ≡ line_of (kind_of r) (carry_out r st).events → next ≡ (carry_out r st).state
    → ((left_to_play tape rest st).lines ≡ l ∷ (left_to_play tape later next).lines) × ((left_to_play tape later next).state ≡ (left_to_play tape rest st).state)
unfolding left_to_play
record_left tape rest later r l st next within e f same_line same-state =
    let size = spans rest r e in
    let less : length later ≡ length rest - span rest = ap length f ∙ length-drop (span rest) rest in
    let at : length tape - length rest + span rest ≡ length tape - length later = omega arith in
    let others : Tape = read_from (length later) (length tape - length later) later in
    let read = read_record (length rest) (length tape - length rest) rest later r (omega arith) e f ∙ ap (λ n. then r (read_from (length later) n later)) at in (
      ap (λ t. (play_tape t st).lines) read ∙ sym (λ i. same_line i ∷ (play_tape others (same-state i)).lines),
      ap (λ s. (play_tape others s).state) same-state ∙ sym (ap (λ t. (play_tape t st).state) read),
    )

-- what is left is shorter by five bytes or more
pub shorter : (rest later : List ℕ) (r : Record) → next_record rest ≡ Ok r → later ≡ drop (span rest) rest → length later + 5 ≤ length rest
shorter rest later r e f =
    let size = spans rest r e in
    let less : length later ≡ length rest - span rest = ap length f ∙ length-drop (span rest) rest in
    omega arith

-- a list grows by its next element
pub moved : {X : Type 0} (old new whole left : List X) (x : X) (more : List X) → new ≡ old ++ x ∷ [] → left ≡ x ∷ more → old ++ left ≡ whole → new ++ more ≡ whole
moved old new whole left x more n l w = ap (λ xs. xs ++ more) n ∙ append_assoc old (x ∷ []) more ∙ ap (λ xs. old ++ xs) (sym l) ∙ w

-- where the records end or a fault stands, so that what is left is a tape `t` which leaves the state as it is, all is played with its lines
pub all_played : (tape rest : List ℕ) (st start : State) (t : Tape) (new items first : List Line) → left_to_play tape rest st ≡ play_tape t st → (play_tape t st).state ≡ st → new ≡ items ++ (play_tape t st).lines
    → items ++ (left_to_play tape rest st).lines ≡ first ++ (left_to_play tape tape start).lines → (left_to_play tape rest st).state ≡ (left_to_play tape tape start).state
    → (new ≡ first ++ (play_from 0 start tape).lines) × (st ≡ (play_from 0 start tape).state)
all_played tape rest st start t new items first left same n lines state =
    let all = all_left tape start in (
      n ∙ ap (λ p. items ++ p.lines) (sym left) ∙ lines ∙ ap (λ p. first ++ p.lines) all,
      sym same ∙ ap (λ p. p.state) (sym left) ∙ state ∙ ap (λ p. p.state) all,
    )
