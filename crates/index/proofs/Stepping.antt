-- A step, from its access and from how the seat goes on.
use Rattle.std.proofs.Common.{◌≡◌, ℕ, Bool, true, false, cond, eqb, ltb, List, length, get_or, set, Some, None, Option, Ok, sym, refl, ap, ◌∙◌, length-set}
use Rattle.memory.specs.Row.{written}
use Rattle.rules.specs.Calls.{due, step, step_by, answered_by, moved}
use Rattle.rules.specs.Cells.{answers, leaves}
use Rattle.rules.specs.State.{State, seat_at, extent_of}
use Rattle.rules.specs.Steps.{advance}
use Rattle.rules.specs.declared.access.Access.{Access}
use Rattle.rules.specs.declared.access.Access.TheVariants.{Read, Write, Swap}
use Rattle.rules.specs.declared.report.Report.{Report}
use Rattle.rules.specs.declared.seat.Seat.{Seat}
use Rattle.index.specs.Extents.{extent_over}

length_cond : (b : Bool) (xs ys : List ℕ) (n : ℕ) → length xs ≡ n → length ys ≡ n → length (cond b xs ys) ≡ n
length_cond true xs ys n p q = p
length_cond false xs ys n p q = q

module _ (cs : List ℕ) (top : ℕ) where
  length_written : (c w : ℕ) → length (written cs top c w) ≡ length cs
  length_written c w = length_cond (ltb top w) cs (set cs c w) (length cs) refl (simp length-set)

  -- an access leaves as many cells
  length_leaves : (a : Option Access) → length (leaves cs top a) ≡ length cs
  length_leaves None = refl
  length_leaves (Some (Read c)) = refl
  length_leaves (Some (Write c w)) = length_written c w
  length_leaves (Some (Swap c old w)) = length_cond (eqb (get_or cs c 0) old) (written cs top c w) cs (length cs) (length_written c w) refl

module _ (st : State) (i j : ℕ) (a : Option Access) (w : ℕ) (cells : List ℕ) (fan top count : ℕ) (s : Seat) (r : Report) where
  pub stepped : j ≡ i → due st i ≡ Ok a → Ok w ≡ answers st.cells st.top a → cells ≡ leaves st.cells st.top a → fan ≡ st.fan → top ≡ st.top
      → (s, count, r) ≡ advance st.before (extent_over fan cells top) (seat_at st.seats j) st.count w
      → (Ok r, record { cells = cells; top = top; iskey = st.iskey; before = st.before; fan = st.fan; count = count; seats = set st.seats j s })
      ≡ step st i
  stepped same d e l f t m =
      let n : length cells ≡ length st.cells = ap length l ∙ length_leaves st.cells st.top a in
      let m' : (s, count, r) ≡ advance st.before (extent_of st) (seat_at st.seats i) st.count w = rw (f, t, n, same) at m in
      rw (l, t, same) (ap (moved st i a) m') ∙ sym (ap (step_by st i) d ∙ ap (answered_by st i a) (sym e))
