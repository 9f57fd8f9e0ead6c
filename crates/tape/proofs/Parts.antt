-- Records that are written on a tape are read from it, and played one after the other.
use Rattle.std.proofs.Common.{◌≡◌, ℕ, zero, suc, ◌+◌, ◌*◌, ◌/◌, ◌%◌, ◌^◌, ◌<◌, ◌≤◌, List, [], ◌∷◌, ◌++◌, length, drop, Ok, sym, refl, ap, ◌∙◌, append_assoc, div-lt_iff_lt-mul, pow-suc, arith, lit<, length-append, drop_at}
use native.Mathlib.Nat.{mod-add-div}
use Rattle.std.proofs.lemmas.Bool.{cond-true, cond-false, le-ltb, lt-ltb}
use Rattle.memory.specs.Bytes.{value}
use Rattle.rules.specs.State.{State}
use Rattle.tape.specs.Laws.{carried_out, InParts, FaultKeeps, LongKeeps}
use Rattle.tape.specs.Lines.{line_of}
use Rattle.tape.specs.Play.{carry_out, play_tape, play}
use Rattle.tape.specs.Records.{number_at, kind_of, span, next_record, Tape, faulty, then, read_from, tape_of}
use Rattle.tape.specs.Writing.{little, bytes_of, Writable, bytes_of_all, AllWritable}
use Rattle.tape.specs.declared.fault.TapeFault.TheVariants.{LongTape}
use Rattle.tape.specs.declared.line.Line.{Line}
use Rattle.tape.specs.declared.reader.Record.{Record}
use Rattle.tape.specs.declared.reader.Record.TheVariants.{Find, Put, Steps, Abandon}
use Rattle.tape.proofs.Reading.{not_cut, enough, read_record, read_fault}

value_little : (n w : ℕ) → w < 256 ^ n → value (little n w) ≡ w
value_little zero w h = omega arith
value_little (suc n) w h =
    let k : w < 256 ^ n * 256 = rw pow-suc at h in
    let l : w / 256 < 256 ^ n = (div-lt_iff_lt-mul {k = 256} {x = w} {y = 256 ^ n} (lit< tt)).1 k in
    ap (λ r. w % 256 + 256 * r) (value_little n (w / 256) l) ∙ mod-add-div w 256

-- ---- one record

-- read back, with the bytes that it takes
record Read (r : Record) (rest : List ℕ) : Type 0 where
  back : next_record (bytes_of r ++ rest) ≡ Ok r
  size : length (bytes_of r) ≡ span (bytes_of r ++ rest)

read_back : (r : Record) (rest : List ℕ) → Writable r → Read r rest
unfolding number_at
read_back (Find seat key) rest w =
    let s : seat % 256 ≡ seat = omega arith in
    let k : value (little 8 key) ≡ key = value_little 8 key w.1 in
    record { back = not_cut (bytes_of (Find seat key) ++ rest) 1 11 (Ok (Find seat key)) refl refl (omega arith) (omega arith) (λ i. Ok (Find (sym s i) (sym k i))); size = refl }
read_back (Put seat key v) rest w =
    let s : seat % 256 ≡ seat = omega arith in
    let k : value (little 8 key) ≡ key = value_little 8 key w.1 in
    let l : value (little 8 v) ≡ v = value_little 8 v w.2 in
    record { back = not_cut (bytes_of (Put seat key v) ++ rest) 2 19 (Ok (Put seat key v)) refl refl (omega arith) (omega arith) (λ i. Ok (Put (sym s i) (sym k i) (sym l i))); size = refl }
read_back (Steps seat count) rest w =
    let s : seat % 256 ≡ seat = omega arith in
    let n : value (little 2 count) ≡ count = value_little 2 count w.1 in
    record { back = not_cut (bytes_of (Steps seat count) ++ rest) 3 5 (Ok (Steps seat count)) refl refl (omega arith) (omega arith) (λ i. Ok (Steps (sym s i) (sym n i))); size = refl }
read_back (Abandon seat) rest w =
    let s : seat % 256 ≡ seat = omega arith in
    record { back = not_cut (bytes_of (Abandon seat) ++ rest) 4 3 (Ok (Abandon seat)) refl refl (omega arith) (omega arith) (λ i. Ok (Abandon (sym s i))); size = refl }

-- ---- all records

-- records, and then what is left of a tape
abbrev before : List Record → Tape → Tape
before [] t = t
before (r ∷ rs) t = then r (before rs t)

read_all : (rs : List Record) (rest : List ℕ) (n at : ℕ) → AllWritable rs → length (bytes_of_all rs ++ rest) ≤ n
    → read_from n at (bytes_of_all rs ++ rest) ≡ before rs (read_from (length rest) (at + length (bytes_of_all rs)) rest)
read_all [] rest n at w few =
    let none : at ≡ at + 0 = omega arith in
    enough n (length rest) at rest few (omega arith) ∙ ap (λ k. read_from (length rest) k rest) none
read_all (r ∷ rs) rest n at w few =
    let later : List ℕ = bytes_of_all rs ++ rest in
    let whole : (bytes_of r ++ bytes_of_all rs) ++ rest ≡ bytes_of r ++ later = append_assoc (bytes_of r) (bytes_of_all rs) rest in
    let one = read_back r later w.0 in
    let fits : length (bytes_of r ++ later) ≤ n = omega (arith, ap length whole) in
    let follows : later ≡ drop (span (bytes_of r ++ later)) (bytes_of r ++ later) = sym (drop_at (bytes_of r) later (span (bytes_of r ++ later)) one.size) in
    let place : at + span (bytes_of r ++ later) + length (bytes_of_all rs) ≡ at + length (bytes_of r ++ bytes_of_all rs) = omega (arith, one.size, length-append (bytes_of r) (bytes_of_all rs)) in
    ap (read_from n at) whole
    ∙ read_record n at (bytes_of r ++ later) later r fits one.back follows
    ∙ ap (then r) (read_all rs rest (length later) (at + span (bytes_of r ++ later)) w.1 (omega arith))
    ∙ ap (λ k. then r (before rs (read_from (length rest) k rest))) place

-- what records do, and then the rest of the tape
lines_before : (rs : List Record) (t : Tape) (st : State) → (play_tape (before rs t) st).lines ≡ (carried_out rs st).lines ++ (play_tape t (carried_out rs st).state).lines
lines_before [] t st = refl
lines_before (r ∷ rs) t st = ap (λ ls. line_of (kind_of r) (carry_out r st).events ∷ ls) (lines_before rs t (carry_out r st).state)

state_before : (rs : List Record) (t : Tape) (st : State) → (play_tape (before rs t) st).state ≡ (play_tape t (carried_out rs st).state).state
state_before [] t st = refl
state_before (r ∷ rs) t st = state_before rs t (carry_out r st).state

module _ (bytes : List ℕ) (st next : State) (lines : List Line) (l : lines ≡ (play st bytes).lines) (s : next ≡ (play st bytes).state) where
  pub long_keeps : LongKeeps bytes st lines next
  unfolding LongKeeps
  long_keeps long =
      let t = cond-true _ (faulty LongTape 0) (read_from (length bytes) 0 bytes) (lt-ltb 4096 (length bytes) long) in
      (l ∙ ap (λ t. (play_tape t st).lines) t, s ∙ ap (λ t. (play_tape t st).state) t)

  tape_before : (rs : List Record) (rest : List ℕ) → AllWritable rs → bytes ≡ bytes_of_all rs ++ rest → length bytes ≤ 4096
      → tape_of bytes ≡ before rs (read_from (length rest) (length (bytes_of_all rs)) rest)
  tape_before rs rest w e short =
      cond-false _ (faulty LongTape 0) (read_from (length bytes) 0 bytes) (le-ltb 4096 (length bytes) short)
      ∙ ap (λ b. read_from (length b) 0 b) e
      ∙ read_all rs rest (length (bytes_of_all rs ++ rest)) 0 w (omega arith)
      ∙ ap (λ k. before rs (read_from (length rest) k rest)) (omega arith)

  pub in_parts : InParts bytes st lines next
  unfolding InParts
  in_parts rs rest w e short =
      let t = tape_before rs rest w e short in (
        l ∙ ap (λ t. (play_tape t st).lines) t ∙ lines_before rs (read_from (length rest) (length (bytes_of_all rs)) rest) st,
        s ∙ ap (λ t. (play_tape t st).state) t ∙ state_before rs (read_from (length rest) (length (bytes_of_all rs)) rest) st,
      )

  pub fault_keeps : FaultKeeps bytes st lines next
  unfolding FaultKeeps InParts
  fault_keeps rs rest f w e short some fault =
      let both = in_parts rs rest w e short in
      let t = read_fault (length rest) (length (bytes_of_all rs)) rest f some (omega arith) fault in (
        both.0 ∙ ap (λ t. (carried_out rs st).lines ++ (play_tape t (carried_out rs st).state).lines) t,
        both.1 ∙ ap (λ t. (play_tape t (carried_out rs st).state).state) t,
      )
