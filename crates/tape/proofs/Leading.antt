-- The calls of a tape lead from the state before it to the state after it.
use Rattle.std.proofs.Common.{◌≡◌, ℕ, zero, suc, List, ◌++◌, Option, sym, subst, append_assoc}
use Rattle.std.proofs.lemmas.Bool.{cond_both}
use Rattle.rules.proofs.Runs.{runs_lawful}
use Rattle.rules.specs.Histories.{Call, BeginFind, BeginPut, Step, Abandon as Abandons, History, act}
use Rattle.rules.specs.Runs.{Reached, more}
use Rattle.rules.specs.State.{State}
use Rattle.tape.specs.Laws.{LeadsOn, StaysLawful}
use Rattle.tape.specs.Play.{Done, called, after, stops, stepped, carry_out, play_tape, play}
use Rattle.tape.specs.Records.{Tape, over, faulty, then, tape_of}
use Rattle.tape.specs.declared.reader.Record.{Record}
use Rattle.tape.specs.declared.reader.Record.TheVariants.{Find, Put, Steps, Abandon}

Leads : State → History → State → Type 0
Leads st events next = (m₀ : ℕ → Option ℕ) (h : History) → Reached m₀ h st → Reached m₀ (events ++ h) next

call_leads : (c : Call) (st : State) → Leads st (called c st).events (called c st).state
unfolding Leads
call_leads c st m₀ h reached = more reached c

on : (st mid next : State) (first later : History) → Leads st first mid → Leads mid later next → Leads st (later ++ first) next
unfolding Leads
on st mid next first later p q m₀ h reached = subst (λ l. Reached m₀ l next) (sym (append_assoc later first h)) (q m₀ (first ++ h) (p m₀ h reached))

steps_lead : (n seat : ℕ) (st : State) → Leads st (stepped n seat st).events (stepped n seat st).state
unfolding Leads
steps_lead zero seat st = λ m₀ h reached. reached
steps_lead (suc n) seat st =
    let one : Done = called (Step seat) st in
    let rest = steps_lead n seat one.state in
    cond_both (stops (act (Step seat) st).0) one (after one (stepped n seat one.state)) (λ d. Leads st d.events d.state)
    (λ _. call_leads (Step seat) st)
    (λ _. on st one.state _ one.events _ (call_leads (Step seat) st) rest)

record_leads : (r : Record) (st : State) → Leads st (carry_out r st).events (carry_out r st).state
record_leads (Find seat key) st = call_leads (BeginFind seat key) st
record_leads (Put seat key value) st = call_leads (BeginPut seat key value) st
record_leads (Steps seat count) st = steps_lead count seat st
record_leads (Abandon seat) st = call_leads (Abandons seat) st

tape_leads : (t : Tape) (st : State) → Leads st (play_tape t st).events (play_tape t st).state
unfolding Leads
tape_leads over st = λ m₀ h reached. reached
tape_leads (faulty f at) st = λ m₀ h reached. reached
tape_leads (then r t) st = on st (carry_out r st).state _ (carry_out r st).events _ (record_leads r st) (tape_leads t (carry_out r st).state)

pub leads_on : (bytes : List ℕ) (st next : State) → next ≡ (play st bytes).state → LeadsOn bytes st next
unfolding LeadsOn Leads
leads_on bytes st next e m₀ h reached = subst (λ s. Reached m₀ ((play st bytes).events ++ h) s) (sym e) (tape_leads (tape_of bytes) st m₀ h reached)

pub stays_lawful : (bytes : List ℕ) (st : State) → StaysLawful bytes st
unfolding StaysLawful Leads
stays_lawful bytes st m₀ h reached = runs_lawful m₀ _ _ (tape_leads (tape_of bytes) st m₀ h reached)
