-- A call that does what the rules say: its run leads on and stays lawful, and a refusal leaves the state.
use Rattle.std.proofs.Common.{◌≡◌, ℕ, Bool, true, false, cond, ◌||◌, eqb, ltb, [], ◌∷◌, length, IfOk, IfErr, Ok, Err, Result, sym, refl, ap, subst}
use Rattle.memory.specs.Meaning.{Bounded}
use Rattle.order.specs.Laws.{Ordered}
use Rattle.rules.proofs.Runs.{runs_lawful}
use Rattle.rules.specs.Calls.{format}
use Rattle.rules.specs.Histories.{Call, act}
use Rattle.rules.specs.PlainMap.{empty_map}
use Rattle.rules.specs.Runs.{Reached, formatted, more}
use Rattle.rules.specs.State.{State}
use Rattle.rules.specs.declared.refusal.Refusal.{Refusal}
use Rattle.rules.specs.declared.refusal.Refusal.TheVariants.{BadFan, TooSmall, Formatted}
use Rattle.rules.specs.declared.report.Report.{Report}
use Rattle.rules.specs.declared.report.Report.TheVariants.{GoneOn}
use Rattle.index.proofs.Kept.{act_kept}
use Rattle.index.specs.Runs.{Starts, LeadsOn, StaysLawful}

abbrev Answer : Type 0
Answer = Result Report Refusal × State

module _ (c : Call) (r : Result Report Refusal) (st after : State) (e : (r, after) ≡ act c st) where
  pub leads_on : LeadsOn c r st after
  unfolding LeadsOn
  leads_on m₀ h reach = subst (λ (p : Answer). Reached m₀ (record { call = c; answer = p.0 } ∷ h) p.1) (sym e) (more reach c)

  lawful_on : StaysLawful c r st
  unfolding LeadsOn StaysLawful
  lawful_on m₀ h reach = runs_lawful m₀ _ after (leads_on m₀ h reach)

  pub refusal_keeps : IfErr r (λ _. after ≡ st)
  refusal_keeps = subst (λ (p : Answer). IfErr p.0 (λ _. p.1 ≡ st)) (sym e) (act_kept st c)

pub stays_lawful : (c : Call) (r : Result Report Refusal) (st : State) → r ≡ (act c st).0 → StaysLawful c r st
stays_lawful c r st e = lawful_on c r st (act c st).1 (ap (λ x. (x, (act c st).1)) e)

-- an accepted format reports one thing
started : (Q : Type 0) (st new : State) (a b c : Bool) →
    let p : Answer = cond a (cond b (Err BadFan, st) (cond c (Err TooSmall, st) (Ok (GoneOn 0), new))) (Err Formatted, st) in
    (p.0 ≡ Ok (GoneOn 0) → Q) → IfOk p.0 (λ _. Q)
started Q st new true true c q = tt
started Q st new true false true q = tt
started Q st new true false false q = q refl
started Q st new false b c q = tt

pub starts : (fan : ℕ) (r : Result Report Refusal) (st after : State) → (r, after) ≡ format st fan → Bounded st.cells st.top → Ordered st.iskey st.before
    → Starts r after
unfolding Starts
starts fan r st after e bounded ordered =
    subst (λ (p : Answer). IfOk p.0 (λ _. Reached empty_map [] p.1)) (sym e)
    (started (Reached empty_map [] (format st fan).1) st _ (eqb st.fan 0) (ltb fan 3 || ltb 13 fan) (ltb (length st.cells) 32)
    (formatted st fan bounded ordered))
