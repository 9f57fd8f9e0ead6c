-- A fill: one word of a node that the seat alone may write.
use Rattle.std.proofs.Common.{◌≡◌, ℕ, ◌+◌, ◌%◌, ◌<◌, ◌≤◌, ltb, ◌≢◌, ◌⊎◌, List, ◌∷◌, Some, sym, refl, ◌∙◌, inl, inr, arith}
use Rattle.std.proofs.lemmas.Bool.{cases_eq, cond_both, ltb-true, ltb-false}
use Rattle.rules.specs.Seats.{in_phase}
use Rattle.rules.specs.Steps.{part_node, part_next, fill_next, fill_word}
use Rattle.rules.specs.Histories.{History, Step}
use Rattle.rules.specs.Latches.{place, elsewhere}
use Rattle.rules.specs.declared.seat.Part.{Part}
use Rattle.rules.specs.declared.seat.Part.TheVariants.{Left, Right, Own}
use Rattle.rules.specs.declared.seat.Phase.{Phase}
use Rattle.rules.specs.declared.seat.Phase.TheVariants as phase
use Rattle.rules.specs.declared.report.Report.TheVariants.{GoneOn}
use Rattle.rules.specs.declared.seat.Seat.{Seat}
use Rattle.rules.proofs.Cells.{word, put, lock, word_put, word_put_word, word_put_node, length_put}
use Rattle.rules.proofs.Events.{answer_of, place_own}
use Rattle.rules.proofs.Inv.{Setting, World, Open, holding_in, post_of, owed_in, Fresh, MineIn, Uses, first, done_in, Filled, Doing, Hold, Taken, SeatIn, Inv}
use Rattle.rules.proofs.Rely.{doing_open, hold_as, part_mine}
use Rattle.rules.proofs.Good.{holding, owed, Mine, laws_plain, Writing, with_cells, good_write}
use Rattle.rules.proofs.Steps.{Stepped, stepped_as, quiet_gone, holds_quiet, plain_quiet, doing_in}
use Rattle.rules.proofs.Writers.{mine_below, in_cells}

-- another phase, with so many words of each part
filled_as : (fan : ℕ) (m : List ℕ) (x : Seat) (d d' : Part → ℕ) (ph : Phase) → ((p : Part) (w : ℕ) → first p ≤ w → w < d' p → w < d p) → Filled fan m x d → Filled fan m (in_phase x ph) d'
filled_as fan m x d d' ph less k Left u w a b = k Left u w a (less Left w a b)
filled_as fan m x d d' ph less k p u w a b = k p u w a (less p w a b)

uses_in : (fan : ℕ) (x : Seat) (ph : Phase) (p : Part) → Uses fan x p → Uses fan (in_phase x ph) p
uses_in fan x ph Left u = u
uses_in fan x ph p u = u

module _ {σ : Setting} {W : World} {f : ℕ → Seat} {h : History} (ι : Inv σ W f h) (s : ℕ) (b8 : s < 8) (p : Part) (i : ℕ) (e : (f s).phase ≡ phase.Fill p i) (k : SeatIn σ W h s (phase.Fill p i) (f s)) where
  mine_f : (q : ℕ) → (q ≡ (f s).node) ⊎ Fresh σ.fan (f s) q → Mine σ.fan (f s) q
  mine_f q z = rw e z

  p_mine : Mine σ.fan (f s) (part_node p (f s))
  p_mine = mine_f (part_node p (f s)) (part_mine σ.fan (f s) p k.7)

  -- written inside
  here : word (put W.cells (part_node p (f s)) i (fill_word σ.fan (f s) p i)) (part_node p (f s)) i ≡ fill_word σ.fan (f s) p i
  here = word_put W.cells (part_node p (f s)) i (fill_word σ.fan (f s) p i)
      (omega (arith, k.6, in_cells ι s b8 (part_node p (f s)) (mine_below σ W h s (f s).phase (f s) (part_node p (f s)) ι.nodes.below (ι.seats s) p_mine)))

  near : (j : ℕ) → j ≢ i → word (put W.cells (part_node p (f s)) i (fill_word σ.fan (f s) p i)) (part_node p (f s)) j ≡ word W.cells (part_node p (f s)) j
  near j d = word_put_word W.cells (part_node p (f s)) i j (fill_word σ.fan (f s) p i) d

  one_more : (w : ℕ) → (w < i → word W.cells (part_node p (f s)) w ≡ fill_word σ.fan (f s) p w) → w < i + 1
      → word (put W.cells (part_node p (f s)) i (fill_word σ.fan (f s) p i)) (part_node p (f s)) w ≡ fill_word σ.fan (f s) p w
  one_more w was b = elim (cases_eq w i) [ inl z ↦ rw z here | inr d ↦ near w d ∙ was (omega arith) ]

  far : (q j : ℕ) → q ≢ part_node p (f s) → j < 32 → word (put W.cells (part_node p (f s)) i (fill_word σ.fan (f s) p i)) q j ≡ word W.cells q j
  far q j d b = word_put_node W.cells (part_node p (f s)) i q j (fill_word σ.fan (f s) p i) d (omega (arith, k.6)) b

  -- the word of a linked node is no lock word
  own_first : (q : Part) → Uses σ.fan (f s) q → first q ≤ i → Open W (part_node q (f s)) → 0 < i
  own_first q u b o = grind arith

  open_lock : (q : ℕ) → Open W q → lock (put W.cells (part_node p (f s)) i (fill_word σ.fan (f s) p i)) q ≡ lock W.cells q
  open_lock q o =
      elim (cases_eq q (part_node p (f s))) [
        | inl z ↦ (let b = own_first p k.7 k.5 (rw z at o) in rw z (near 0 (omega arith)))
        | inr d ↦ far q 0 d (omega arith)
      ]

  even_far : (q : ℕ) → Open W q → lock W.cells q % 2 ≡ 0 → q ≢ part_node p (f s)
  even_far q o l z = grind arith

  writes : Writing σ W f h (answer_of (Step s) (GoneOn (f s).node)) s (put W.cells (part_node p (f s)) i (fill_word σ.fan (f s) p i)) W.count
  writes =
      record {
        len = length_put W.cells (part_node p (f s)) i (fill_word σ.fan (f s) p i);
        more = omega arith;
        fits = ι.nodes.room;
        up = λ q o. omega (arith, open_lock q o);
        rise = λ q o z d. absurd (d (open_lock q o));
        same = λ q o z j a b. let l = rw (open_lock q o) at z in far q j (even_far q o l) b ∙ ι.nodes.same q o l j a b;
        own = λ t d q j m b. far q j (λ z. ι.apart s t d (part_node p (f s)) p_mine (rw z at m)) b;
      }

  -- the parts are apart
  left_own : Uses σ.fan (f s) Left → (f s).draft.left ≢ (f s).node
  left_own u z = k.3.hidden (f s).draft.left (u.0, inr (u.1, refl)) (rw z (doing_open k.0))

  right_own : Uses σ.fan (f s) Right → (f s).draft.right ≢ (f s).node
  right_own u z = k.3.hidden (f s).draft.right (u, inl refl) (rw z (doing_open k.0))

-- one word more is filled
step_filled : {σ : Setting} {W : World} {f : ℕ → Seat} {h : History} (ι : Inv σ W f h) (s : ℕ) (b8 : s < 8) (p : Part) (i : ℕ) (e : (f s).phase ≡ phase.Fill p i) (k : SeatIn σ W h s (phase.Fill p i) (f s))
    → Filled σ.fan (put W.cells (part_node p (f s)) i (fill_word σ.fan (f s) p i)) (f s) (done_in p (i + 1))
step_filled ι s b8 Left i e k Left u w a b = one_more ι s b8 Left i e k w (k.4 Left u w a) b
step_filled {f} ι s b8 Right i e k Left u w a b = far ι s b8 Right i e k (f s).draft.left w (k.3.two u) b ∙ k.4 Left u w a b
step_filled ι s b8 Right i e k Right u w a b = one_more ι s b8 Right i e k w (k.4 Right u w a) b
step_filled {f} ι s b8 Own i e k Left u w a b = far ι s b8 Own i e k (f s).draft.left w (left_own ι s b8 Own i e k u) b ∙ k.4 Left u w a b
step_filled {f} ι s b8 Own i e k Right u w a b = far ι s b8 Own i e k (f s).draft.right w (right_own ι s b8 Own i e k u) b ∙ k.4 Right u w a b
step_filled ι s b8 Own i e k Own u w a b = one_more ι s b8 Own i e k w (k.4 Own u w a) b
step_filled ι s b8 p i e k q u w a b = absurd (omega arith)

module _ {σ : Setting} {W : World} {f : ℕ → Seat} {h : History} (ι : Inv σ W f h) (s : ℕ) (b8 : s < 8) (p : Part) (i : ℕ) (e : (f s).phase ≡ phase.Fill p i) (k : SeatIn σ W h s (phase.Fill p i) (f s)) where
  abbrev W' : World
  W' = with_cells W (put W.cells (part_node p (f s)) i (fill_word σ.fan (f s) p i)) W.count

  hold_f : (ph : Phase) → Hold σ W' (in_phase (f s) ph)
  hold_f ph = hold_as (f s) (f s).draft ph (open_lock ι s b8 p i e k (f s).node (doing_open k.0)) (λ _. refl) k.1.planned k.1

  taken_f : (ph : Phase) → Taken σ W' (in_phase (f s) ph)
  taken_f ph = let a = k.3 in record { inside = a.inside; hidden = a.hidden; two = a.two; level_is = a.level_is }

  doing_f : (ph : Phase) → Doing σ W' (answer_of (Step s) (GoneOn (f s).node) ∷ h) s (in_phase (f s) ph)
  doing_f ph = let d = doing_in ι s b8 (GoneOn (f s).node) (quiet_gone (f s).node) (f s) ph k.0 in record { seated = d.seated; begins = d.begins }

  now_f : place (answer_of (Step s) (GoneOn (f s).node) ∷ h) s ≡ elsewhere
  now_f = place_own h s (GoneOn (f s).node) refl ∙ rw k.2 refl

  filled_to : (ph : Phase) → holding_in ph (f s).node ≡ Some (f s).node → ((q : ℕ) → MineIn σ.fan ph (in_phase (f s) ph) q → Mine σ.fan (f s) q) → owed_in ph (f s).operation ≡ owed (f s)
      → SeatIn σ W' (answer_of (Step s) (GoneOn (f s).node) ∷ h) s ph (in_phase (f s) ph)
      → Stepped σ W f h s (put W.cells (part_node p (f s)) i (fill_word σ.fan (f s) p i)) (in_phase (f s) ph) W.count (GoneOn (f s).node)
  filled_to ph hp mp op z =
      let x = f s in
      let r = GoneOn x.node in
      let ev = answer_of (Step s) r in
      let own : holding x ≡ Some x.node = rw e refl in
      stepped_as (good_write ι ev s (in_phase x ph) (put W.cells (part_node p x) i (fill_word σ.fan x p i)) W.count (writes ι s b8 p i e k)
      (λ q o l.
      let t = ι.nodes.latched q o (rw (open_lock ι s b8 p i e k q o) at l) in
      elim (cases_eq t.0 s) [ inl y ↦ inl (hp ∙ sym own ∙ rw y at t.1) | inr d ↦ inr (t.0, d, t.1) ])
      (plain_quiet h s r (quiet_gone x.node) σ.start) z (holds_quiet h s r (quiet_gone x.node) s ∙ ι.held_by s ∙ own ∙ sym hp)
      (λ t d q y. ι.apart s t d q (mp q y))
      (λ t d q y. ι.owes s t d q (sym op ∙ y))
      (λ _. ι.sizes s b8))
      (laws_plain σ.start h ev s refl (rw k.2 refl))

  owes_f : post_of (f s).operation ≡ owed (f s)
  owes_f = rw e refl

  -- on to word `j` of part `q`
  to_fill : (q : Part) (j : ℕ) → ((r : Part) (w : ℕ) → first r ≤ w → w < done_in q j r → w < done_in p (i + 1) r) → first q ≤ j → j ≤ 31 → Uses σ.fan (f s) q
      → Stepped σ W f h s (put W.cells (part_node p (f s)) i (fill_word σ.fan (f s) p i)) (in_phase (f s) (phase.Fill q j)) W.count (GoneOn (f s).node)
  to_fill q j less a b u =
      let ph = phase.Fill q j in
      filled_to ph refl (mine_f ι s b8 p i e k) owes_f (
        doing_f ph,
        hold_f ph,
        now_f,
        taken_f ph,
        filled_as σ.fan (put W.cells (part_node p (f s)) i (fill_word σ.fan (f s) p i)) (f s) (done_in p (i + 1)) (done_in q j) ph less (step_filled ι s b8 p i e k),
        a,
        b,
        uses_in σ.fan (f s) ph q u,
      )

last_fill : {σ : Setting} {W : World} {f : ℕ → Seat} {h : History} (ι : Inv σ W f h) (s : ℕ) (b8 : s < 8) (p : Part) (i : ℕ) (e : (f s).phase ≡ phase.Fill p i) (k : SeatIn σ W h s (phase.Fill p i) (f s)) → 31 ≤ i
    → Stepped σ W f h s (put W.cells (part_node p (f s)) i (fill_word σ.fan (f s) p i)) (in_phase (f s) (part_next p)) W.count (GoneOn (f s).node)
last_fill ι s b8 Left i e k b = to_fill ι s b8 Left i e k Right 0 (elim [ Left ↦ λ w a c. omega arith | Right ↦ λ w a c. c | Own ↦ λ w a c. c ]) (omega arith) (omega arith) k.7.0
last_fill ι s b8 Right i e k b = to_fill ι s b8 Right i e k Own 1 (elim [ Left ↦ λ w a c. c | Right ↦ λ w a c. omega arith | Own ↦ λ w a c. c ]) (omega arith) (omega arith) tt
last_fill {σ} {W} {f} ι s b8 Own i e k b =
    filled_to ι s b8 Own i e k phase.Release refl (mine_f ι s b8 Own i e k) (owes_f ι s b8 Own i e k) (
      doing_f ι s b8 Own i e k phase.Release,
      hold_f ι s b8 Own i e k phase.Release,
      now_f ι s b8 Own i e k,
      taken_f ι s b8 Own i e k phase.Release,
      filled_as σ.fan (put W.cells (f s).node i (fill_word σ.fan (f s) Own i)) (f s) (done_in Own (i + 1)) (λ _. 32) phase.Release (elim [ Left ↦ λ w a c. c | Right ↦ λ w a c. c | Own ↦ λ w a c. omega arith ]) (step_filled ι s b8 Own i e k),
    )

pub fills : {σ : Setting} {W : World} {f : ℕ → Seat} {h : History} (ι : Inv σ W f h) (s : ℕ) (b8 : s < 8) (p : Part) (i : ℕ) (e : (f s).phase ≡ phase.Fill p i) (k : SeatIn σ W h s (phase.Fill p i) (f s))
    → Stepped σ W f h s (put W.cells (part_node p (f s)) i (fill_word σ.fan (f s) p i)) (in_phase (f s) (fill_next p i)) W.count (GoneOn (f s).node)
fills {σ} {W} {f} {h} ι s b8 p i e k =
    cond_both (ltb i 31) (phase.Fill p (i + 1)) (part_next p) (λ ph. Stepped σ W f h s (put W.cells (part_node p (f s)) i (fill_word σ.fan (f s) p i)) (in_phase (f s) ph) W.count (GoneOn (f s).node))
    (λ b. let b' = ltb-true i 31 b in to_fill ι s b8 p i e k p (i + 1) (λ q w a c. c) (omega (arith, k.5)) (omega arith) k.7)
    (λ b. last_fill ι s b8 p i e k (ltb-false i 31 b))
