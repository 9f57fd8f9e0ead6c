-- Steps, one after the other.
use Rattle.std.proofs.Common.{◌≡◌, ℕ, zero, suc, ◌+◌, ◌-◌, ◌<◌, true, false, cond, ltb, [], ◌∷◌, ◌++◌, Ok, Err, Result, sym, refl, ap, ◌∙◌, append_assoc, append-nil, arith}
use Rattle.std.proofs.lemmas.Bool.{cond-true, cond-false}
use Rattle.rules.specs.Calls.{step}
use Rattle.rules.specs.Events.{told_by}
use Rattle.rules.specs.Histories.{Step, Event, History}
use Rattle.rules.specs.Refusals.{refusal_number}
use Rattle.rules.specs.Reports.{told}
use Rattle.rules.specs.State.{State}
use Rattle.rules.specs.declared.refusal.Refusal.{Refusal}
use Rattle.rules.specs.declared.report.Report.{Report}
use Rattle.tape.specs.Lines.{line, line_of, steps_in, counted}
use Rattle.tape.specs.Play.{called, after, stops, stepped}
use Rattle.tape.specs.declared.line.Line.{Line}

abbrev Answer : Type 0
Answer = Result Report Refusal × State

-- the line after a step of this answer
abbrev next_line : ℕ → Line → Result Report Refusal → Line
next_line kind so_far a = line kind (told_by a) (counted so_far.steps a)

-- steps as a loop makes them: the line so far, which each step replaces, and the state
abbrev pub run_on : ℕ → ℕ → ℕ → Line → State → Line × State
run_on kind zero seat so_far st = (so_far, st)
run_on kind (suc n) seat so_far st =
    cond (stops (step st seat).0) (next_line kind so_far (step st seat).0, (step st seat).1) (run_on kind n seat (next_line kind so_far (step st seat).0) (step st seat).1)

-- a seat goes on after an accepted step
pub goes_on_counted : (a : Result Report Refusal) (n : ℕ) → stops a ≡ false → counted n a ≡ n + 1
goes_on_counted a n = grind arith

-- a loop of `count` steps has made `made`, all accepted, and so far the line `so_far`; its next answers `a`, leaves `next` and makes the line `new`
module _ (kind seat count made steps : ℕ) (so_far new : Line) (st next : State) (a : Result Report Refusal) (below : made < count)
    (m : so_far.steps ≡ made) (e : (a, next) ≡ step st seat) (s : steps ≡ counted made a) (n : new ≡ line kind (told_by a) steps) where
  unrolled : cond (stops a) (new, next) (run_on kind (count - (made + 1)) seat new next) ≡ run_on kind (count - made) seat so_far st
  unrolled =
      let more : count - made ≡ suc (count - (made + 1)) = omega arith in
      let left : ℕ = count - (made + 1) in
      ap (λ l. cond (stops a) (l, next) (run_on kind left seat l next)) (n ∙ ap (line kind (told_by a)) (s ∙ ap (λ k. counted k a) (sym m)))
      ∙ ap (λ (p : Answer). cond (stops p.0) (next_line kind so_far p.0, p.1) (run_on kind left seat (next_line kind so_far p.0) p.1)) e
      ∙ ap (λ c. run_on kind c seat so_far st) (sym more)

  pub stop : stops a ≡ true → ◌≡◌ {A = Line × State} (new, next) (run_on kind (count - made) seat so_far st)
  stop stopped = sym (cond-true (stops a) _ _ stopped) ∙ unrolled

  pub go_on : stops a ≡ false → (new.steps ≡ made + 1) × (run_on kind (count - (made + 1)) seat new next ≡ run_on kind (count - made) seat so_far st)
  go_on goes = (ap (λ l. l.steps) n ∙ s ∙ goes_on_counted a made goes, sym (cond-false (stops a) _ _ goes) ∙ unrolled)

-- reports are numbered below 21, and refusals from 21 on
report_below : (r : Report) → ltb (told r).0 21 ≡ true
report_below r = grind arith

refusal_above : (f : Refusal) → ltb (refusal_number f) 21 ≡ false
refusal_above f = grind arith

step_counted : (seat : ℕ) (a : Result Report Refusal) (es : History) → counted (steps_in es) a ≡ steps_in (record { call = Step seat; answer = a } ∷ es)
step_counted seat (Ok r) es = sym (cond-true (ltb (told r).0 21) _ _ (report_below r))
step_counted seat (Err f) es = sym (cond-false (ltb (refusal_number f) 21) _ _ (refusal_above f))

-- the loop's line and state are those of the calls that it makes
run_tells : (kind n seat : ℕ) (es : History) (st : State) → run_on kind n seat (line_of kind es) st ≡ (line_of kind ((stepped n seat st).events ++ es), (stepped n seat st).state)
run_tells kind zero seat es st = refl
run_tells kind (suc n) seat es st =
    let a = (step st seat).0 in
    let one : Event = record { call = Step seat; answer = a } in
    let later = stepped n seat (step st seat).1 in
    let counts = ap (λ k. line kind (told_by a) k) (step_counted seat a es) in
    let rest = run_tells kind n seat (one ∷ es) (step st seat).1 in
    elim (stops a) as (λ b. cond b (next_line kind (line_of kind es) a, (step st seat).1) (run_on kind n seat (next_line kind (line_of kind es) a) (step st seat).1) ≡ (line_of kind ((cond b (called (Step seat) st) (after (called (Step seat) st) later)).events ++ es), (cond b (called (Step seat) st) (after (called (Step seat) st) later)).state)) [
      | true ↦ ap (λ l. (l, (step st seat).1)) counts
      | false ↦ ap (λ l. run_on kind n seat l (step st seat).1) counts ∙ rest ∙ ap (λ h. (line_of kind h, later.state)) (sym (append_assoc later.events (one ∷ []) es))
    ]

pub all_run : (kind count seat : ℕ) (st : State) (l : Line) (last : State) → ◌≡◌ {A = Line × State} (l, last) (run_on kind count seat (line_of kind []) st)
    → (l ≡ line_of kind (stepped count seat st).events) × (last ≡ (stepped count seat st).state)
all_run kind count seat st l last e =
    let whole = e ∙ run_tells kind count seat [] st ∙ ap (λ h. (line_of kind h, (stepped count seat st).state)) (append-nil (stepped count seat st).events) in
    (ap (λ p. p.0) whole, ap (λ p. p.1) whole)
