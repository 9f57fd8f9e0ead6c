-- An access that no memory can make is refused.
use Rattle.std.proofs.Common.{◌≡◌, ℕ, ◌<◌, ◌≤◌, Bool, true, false, cond, eqb, ltb, List, length, Some, None, Option, Ok, Err, Result, ◌⊎◌, inl, inr, sym, refl, ap, ◌∙◌, arith}
use Rattle.std.proofs.lemmas.Bool.{le-ltb, ne_eqb}
use Rattle.memory.specs.declared.fault.Fault.{Fault}
use Rattle.memory.specs.declared.fault.Fault.TheVariants.{NoCell}
use Rattle.rules.specs.Calls.{due, due_in, step, step_by, answered_by}
use Rattle.rules.specs.Cells.{answers}
use Rattle.rules.specs.State.{State, seat_at, extent_of}
use Rattle.rules.specs.Steps.{access_at, access_of}
use Rattle.rules.specs.declared.access.Access.{Access}
use Rattle.rules.specs.declared.access.Extent.{Extent}
use Rattle.rules.specs.declared.access.Access.TheVariants.{Read, Write, Swap}
use Rattle.rules.specs.declared.refusal.Refusal.{Refusal}
use Rattle.rules.specs.declared.refusal.Refusal.TheVariants as refusal
use Rattle.rules.specs.declared.seat.Seat.{Seat}
use Rattle.rules.specs.declared.seat.Phase.{Phase}
use Rattle.rules.specs.declared.seat.Phase.TheVariants as phase
use Rattle.index.specs.Reach.{Beyond}
use Rattle.index.specs.Views.{placed}

module _ (cs : List ℕ) (top : ℕ) (short : length cs ≤ 65536) where
  past : {A : Type 0} (c : ℕ) (x : Result A Fault) → 65536 ≤ c → cond (ltb c (length cs)) x (Err NoCell) ≡ Err NoCell
  past c x h = rw (le-ltb c (length cs) (omega arith))

  beyond_refused : (a : Option Access) → Beyond a → answers cs top a ≡ Err NoCell
  beyond_refused None h = absurd h
  beyond_refused (Some (Read c)) h = past c _ h
  beyond_refused (Some (Write c w)) h = past c _ h
  beyond_refused (Some (Swap c old w)) h = past c _ h

-- what no memory can make is due, if the seat works
due_beyond : (x : Extent) (p : Phase) (s : Seat) → Beyond (access_at x p s) → due_in p (access_at x p s) ≡ Ok (access_at x p s)
due_beyond x phase.Idle s h = absurd h
due_beyond x phase.Look s h = refl
due_beyond x (phase.Copy i) s h = refl
due_beyond x phase.Check s h = refl
due_beyond x phase.Latch s h = refl
due_beyond x phase.Take s h = refl
due_beyond x (phase.Fill p i) s h = refl
due_beyond x phase.Release s h = refl
due_beyond x phase.Undo s h = refl
due_beyond x (phase.End o) s h = refl

placed_where : (b : Bool) (i j : ℕ) → Ok j ≡ cond b (Ok i) (Err refusal.NoSeat) → (b ≡ true) × (j ≡ i)
placed_where true i j e = (refl, cc)
placed_where false i j e = let z : ◌≡◌ {A = ℕ} 0 1 = cc in absurd (omega arith)

pub placed_at : (i j : ℕ) → Ok j ≡ placed i → j ≡ i
placed_at i j at = (placed_where (ltb i 8) i j at).1

module _ (st : State) (i j : ℕ) (x : Extent) (formatted : 0 < st.fan) (at : Ok j ≡ placed i) (seen : x ≡ extent_of st) where
  abbrev seat : Seat
  seat = seat_at st.seats j

  pub due_seated : due st i ≡ due_in seat.phase (access_of x seat)
  due_seated =
      let p = placed_where (ltb i 8) i j at in
      let f : eqb st.fan 0 ≡ false = ne_eqb st.fan 0 (omega arith) in
      let l : ltb i 8 ≡ true = p.0 in
      let same : i ≡ j = sym p.1 in
      rw (f, l, same, seen) refl

  pub step_refused : (r : Refusal) → length st.cells ≤ 65536 → (due_in seat.phase (access_of x seat) ≡ Err r) ⊎ ((r ≡ refusal.NoCell) × Beyond (access_of x seat))
      → step st i ≡ (Err r, st)
  step_refused r short h =
      let a = access_of x seat in
      elim h [
        | inl e ↦ ap (step_by st i) (due_seated ∙ e)
        | inr b ↦ ap (step_by st i) (due_seated ∙ due_beyond x seat.phase seat b.1) ∙ ap (answered_by st i a) (beyond_refused st.cells st.top short a b.1)
            ∙ ap (λ f. (Err f, st)) (sym b.0)
      ]
