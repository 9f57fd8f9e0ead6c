-- Worked examples, as one table: runs on a new index with every answer that they must give, and verdicts of the orders.
use Rattle.std.specs.Prelude.{◌≡◌, ℕ, zero, suc, ◌+◌, Bool, true, false, List, [], ◌∷◌, ◌++◌, take, replicate, Ok, Err}
use Rattle.order.specs.Number.{number_key, number_before}
use Rattle.order.specs.Lane.{lane_before}
use Rattle.order.specs.Label.{label_key, label_before}
use Rattle.rules.specs.Events.{told_by, ends}
use Rattle.rules.specs.Histories.{Call, Format, BeginFind, BeginPut, Step, Abandon, act}
use Rattle.rules.specs.Nodes.{entry, entries}
use Rattle.rules.specs.Reports.{told}
use Rattle.rules.specs.Seats.{idle}
use Rattle.rules.specs.State.{State}
use Rattle.rules.specs.declared.seat.Entry.{Entry}

-- a line of a run: a call, how often it is made at most, the number, node and word of its last answer, and how often it was accepted.
-- A line stops at a call that ends its seat's operation or is refused
pub record Line : Type 0 where
  pub call : Call
  pub times : ℕ
  pub answer : ℕ × ℕ × ℕ
  pub made : ℕ

-- an example: a run from a state, with the entries of the root after it; whether an order takes a word for a key; or whether
-- it has one word before another
pub data Example : Type 0 where
  run : State → List Line → List Entry → Example
  key : (ℕ → Bool) → ℕ → Bool → Example
  order : (ℕ → ℕ → Bool) → ℕ → ℕ → Bool → Example

-- how a line went
pub record Ran : Type 0 where
  pub answer : ℕ × ℕ × ℕ
  pub made : ℕ
  pub state : State

abbrev pub repeated : Call → ℕ → ℕ × ℕ × ℕ → ℕ → State → Ran
repeated c zero last made st = record { answer = last; made = made; state = st }
repeated c (suc n) last made st =
    let m = act c st in
    elim m.0 [
      | Err f ↦ record { answer = told_by (Err f); made = made; state = st }
      | Ok r ↦ elim (ends (told r).0) [
        | true ↦ record { answer = told r; made = made + 1; state = m.1 }
        | false ↦ repeated c n (told r) (made + 1) m.1
      ]
    ]

-- what the lines of a run answer and how often they are accepted, with the root's entries at the end
abbrev pub played : State → List Line → List (ℕ × ℕ × ℕ × ℕ) × List Entry
played st [] = ([], entries (take 32 st.cells))
played st (l ∷ ls) =
    let r : Ran = repeated l.call l.times (0, 0, 0) 0 st in
    let rest = played r.state ls in
    ((r.answer.0, r.answer.1, r.answer.2, r.made) ∷ rest.0, rest.1)

abbrev pub stated : List Line → List (ℕ × ℕ × ℕ × ℕ)
stated [] = []
stated (l ∷ ls) = (l.answer.0, l.answer.1, l.answer.2, l.made) ∷ stated ls

abbrev pub Holds : Example → Type 0
Holds (run st ls es) = played st ls ≡ (stated ls, es)
Holds (key iskey w verdict) = iskey w ≡ verdict
Holds (order before a b verdict) = before a b ≡ verdict

abbrev pub AllHold : List Example → Type 0
AllHold [] = Unit {0}
AllHold (x ∷ xs) = Holds x × AllHold xs

-- an unformatted index over `n` cells of eight bytes in number order, and over `n` cells of two bytes in label order
abbrev new : ℕ → State
new n = record { cells = replicate n 0; top = 18446744073709551615; iskey = number_key; before = number_before; fan = 0; count = 0; seats = replicate 8 idle }

abbrev labelled : ℕ → State
labelled n = record { cells = replicate n 0; top = 65535; iskey = label_key; before = label_before; fan = 0; count = 0; seats = replicate 8 idle }

-- a call that goes on, one that is refused with number `f`, and an abandon with report `r`
abbrev accepts : Call → Line
accepts c = record { call = c; times = 1; answer = (0, 0, 0); made = 1 }

abbrev refuses : Call → ℕ → Line
refuses c f = record { call = c; times = 1; answer = (f, 0, 0); made = 0 }

abbrev abandons : ℕ → ℕ → Line
abandons s r = record { call = Abandon s; times = 1; answer = (r, 0, 0); made = 1 }

-- at most `most` steps of seat `s`, of which `n` are made, the last with answer `a`
abbrev steps : ℕ → ℕ → ℕ × ℕ × ℕ → ℕ → Line
steps s most a n = record { call = Step s; times = most; answer = a; made = n }

-- seat 0 puts key `k` with the value `v`, or finds it, which ends with answer `a` at step `n`
abbrev stores : ℕ → ℕ → ℕ × ℕ × ℕ → ℕ → List Line
stores k v a n = accepts (BeginPut 0 k v) ∷ steps 0 300 a n ∷ []

abbrev finds : ℕ → ℕ × ℕ × ℕ → ℕ → List Line
finds k a n = accepts (BeginFind 0 k) ∷ steps 0 300 a n ∷ []

-- keys 10, 20 and 30 are stored in the root
abbrev three : List Line
three = accepts (Format 3) ∷ (stores 10 11 (8, 0, 0) 67 ++ stores 20 21 (8, 0, 0) 67 ++ stores 30 31 (8, 0, 0) 67)

-- then 40, which splits the root
abbrev four : List Line
four = three ++ stores 40 41 (8, 0, 0) 132

-- then 50, and a put of 60, which splits a leaf, up to its publishing at step 132
abbrev six : List Line
six = four ++ stores 50 51 (8, 2, 0) 100 ++ (accepts (BeginPut 0 60 61) ∷ steps 0 132 (3, 2, 0) 132 ∷ [])

-- its posting, which ends at step 132 + 67 = 199
abbrev posted : List Line
posted = steps 0 300 (8, 0, 0) 67 ∷ []

-- two puts accept the empty root; the first to latch holds it, and the other is turned back
abbrev two_puts : List Line
two_puts =
    accepts (Format 3) ∷ accepts (BeginPut 0 10 11) ∷ accepts (BeginPut 1 20 21) ∷ steps 0 33 (0, 0, 0) 33 ∷ steps 1 33 (0, 0, 0) 33
    ∷ steps 1 1 (2, 0, 0) 1 ∷ steps 0 1 (1, 0, 0) 1 ∷ []

-- where several refusals hold, the one with the lowest number decides: before format, and after it
abbrev unformatted : List Line
unformatted =
    refuses (BeginFind 8 0) 21 ∷ refuses (Step 8) 21 ∷ refuses (Abandon 8) 21
    ∷ refuses (Format 2) 30 ∷ refuses (Format 14) 30 ∷ refuses (Format 3) 31 ∷ refuses (Format 13) 31 ∷ []

abbrev refusals : List Line
refusals =
    accepts (Format 13) ∷ refuses (Format 2) 29
    ∷ refuses (BeginPut 8 65536 65536) 22 ∷ refuses (Step 8) 22 ∷ refuses (Abandon 8) 22
    ∷ refuses (Step 0) 27 ∷ refuses (Abandon 0) 27
    ∷ refuses (BeginFind 0 65536) 25 ∷ refuses (BeginPut 0 256 65536) 25 ∷ refuses (BeginFind 0 256) 26
    ∷ accepts (BeginPut 0 65535 65535) ∷ refuses (BeginPut 0 65536 0) 23
    ∷ steps 0 34 (2, 0, 0) 34 ∷ refuses (Abandon 0) 28 ∷ []

abbrev pub examples : List Example
examples =
    -- the fourth key splits the root
    run (new 512) four (entry 20 1 ∷ entry 0 2 ∷ [])
    -- the sixth splits a leaf, and is posted
    ∷ run (new 512) (six ++ posted) (entry 20 1 ∷ entry 40 2 ∷ entry 0 3 ∷ [])
    -- abandoned before it is posted, it is found through the link
    ∷ run (new 512) (six ++ (abandons 0 14 ∷ []) ++ finds 60 (6, 3, 61) 99) (entry 20 1 ∷ entry 0 2 ∷ [])
    -- one node has no room for a fourth key, and takes a new value for a present one
    ∷ run (new 32) (three ++ stores 40 41 (11, 0, 0) 37 ++ stores 20 99 (9, 0, 21) 67) (entry 10 11 ∷ entry 20 99 ∷ entry 30 31 ∷ [])
    -- in five nodes the eighth key is stored untold, and found
    ∷ run (new 160) (six ++ posted ++ stores 70 71 (8, 3, 0) 100 ++ stores 80 81 (10, 0, 0) 169 ++ finds 80 (6, 4, 81) 99) (entry 20 1 ∷ entry 40 2 ∷ entry 0 3 ∷ [])
    ∷ run (new 32) two_puts []
    -- lane 1, place -5 is before lane 1, place 0
    ∷ order lane_before 8589934587 4294967296 true
    ∷ order lane_before 4294967296 8589934587 false
    -- AB is before B; a letter after a zero byte makes no label; the empty label is one
    ∷ order label_before 16961 66 true
    ∷ order label_before 66 16961 false
    ∷ key label_key 256 false
    ∷ key label_key 0 true
    ∷ run (new 31) unformatted []
    ∷ run (labelled 32) refusals []
    ∷ []

-- every example of the table holds
abbrev pub ExamplesHold : Type 0
ExamplesHold = AllHold examples
