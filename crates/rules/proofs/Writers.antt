-- The steps of a seat with a latch that leave the content of the tree: the latch that is won, take and undo.
use Rattle.std.proofs.Common.{◌≡◌, ℕ, ◌+◌, ◌*◌, ◌%◌, ◌<◌, ◌≤◌, false, cond, ◌≢◌, ◌⊎◌, List, ◌∷◌, length, drop, Some, None, sym, refl, ap, ◌∙◌, inl, inr, ⊎_elim, arith}
use lib.Seq.{take-append_seam}
use Rattle.std.proofs.lemmas.Bool.{cases_eq, cond_both, eq-eqb}
use Rattle.std.proofs.lemmas.Option.{none-some, same_Some}
use Rattle.rules.specs.Seats.{in_phase, with_draft}
use Rattle.rules.specs.Steps.{version, is_root, splits, stopped, content, draft_of, with_nodes, needed}
use Rattle.rules.specs.Histories.{History, Step}
use Rattle.rules.specs.Latches.{holds, place, elsewhere}
use Rattle.rules.specs.declared.report.Outcome.TheVariants as outcome
use Rattle.rules.specs.declared.seat.Part.{Part}
use Rattle.rules.specs.declared.seat.Part.TheVariants.{Left, Right, Own}
use Rattle.rules.specs.declared.seat.Phase.{Phase}
use Rattle.rules.specs.declared.seat.Phase.TheVariants as phase
use Rattle.rules.specs.declared.report.Report.TheVariants.{GoneOn, Latched, Unchanged}
use Rattle.rules.specs.declared.seat.Seat.{Seat}
use Rattle.rules.proofs.Basics.{both}
use Rattle.rules.proofs.Cells.{word, put, lock, word_put, word_put_word, word_put_node, length_put}
use Rattle.rules.proofs.Events.{answer_of, holds_own, place_own, begun_own, publishings_own}
use Rattle.rules.proofs.Inv.{Setting, World, Open, post_of, Fresh, MineIn, Uses, first, done_in, Filled, Begins, Planned, Hold, Taken, SeatIn, Inv}
use Rattle.rules.proofs.Rely.{begins_same, doing_open, hold_as}
use Rattle.rules.proofs.Good.{holding, owed, Mine, StepLaws, laws_plain, laws_test, Writing, with_cells, good_write, writing_none, latched_none}
use Rattle.rules.proofs.Steps.{Stepped, stepped_as, stepped_calm, quiet_gone, holds_quiet, plain_quiet, doing_in, doing_quiet}
use Rattle.rules.proofs.Readers.{stopped_paid}

-- nobody writes a linked node with no latch
pub nobody : (σ : Setting) (W : World) (h : History) (t : ℕ) (ph : Phase) (y : Seat) (q : ℕ) → SeatIn σ W h t ph y → MineIn σ.fan ph y q → Open W q → lock W.cells q % 2 ≡ 0 → ⊥
nobody σ W h t ph y q k m o l = grind arith

-- a seat's nodes are in use
pub mine_below : (σ : Setting) (W : World) (h : History) (t : ℕ) (ph : Phase) (y : Seat) (q : ℕ) → ((p : ℕ) → Open W p → p < W.count) → SeatIn σ W h t ph y → MineIn σ.fan ph y q → q < W.count
mine_below σ W h t phase.Take y q b k m = rw m (b y.node (doing_open k.0))
mine_below σ W h t (phase.Fill p i) y q b k m = ⊎_elim (λ (z : q ≡ y.node). rw z (b y.node (doing_open k.0))) (k.3.inside q) m
mine_below σ W h t phase.Release y q b k m = ⊎_elim (λ (z : q ≡ y.node). rw z (b y.node (doing_open k.0))) (k.3.inside q) m
mine_below σ W h t phase.Undo y q b k m = rw m (b y.node (doing_open k.0))
mine_below σ W h t ph y q b k m = absurd m

pub record SetLock (m m' : List ℕ) (n v : ℕ) : Type 0 where
  pub here : lock m' n ≡ v
  pub other : (q : ℕ) → q ≢ n → lock m' q ≡ lock m q
  pub far : (q i : ℕ) → q ≢ n → i < 32 → word m' q i ≡ word m q i
  pub rest : (q i : ℕ) → 0 < i → i < 32 → word m' q i ≡ word m q i

pub set_lock : (m : List ℕ) (n v : ℕ) → 32 * n < length m → SetLock m (put m n 0 v) n v
set_lock m n v b =
    record {
      here = word_put m n 0 v (omega arith);
      other = λ q d. word_put_node m n 0 q 0 v d (omega arith) (omega arith);
      far = λ q i d c. word_put_node m n 0 q i v d (omega arith) c;
      rest = λ q i a c. elim (cases_eq q n) [ inl z ↦ rw z (word_put_word m n 0 i v (omega arith)) | inr d ↦ word_put_node m n 0 q i v d (omega arith) c ];
    }

module _ {σ : Setting} {W : World} {f : ℕ → Seat} {h : History} (ι : Inv σ W f h) (s : ℕ) (b8 : s < 8) where
  pub in_cells : (q : ℕ) → q < W.count → 32 * q + 31 < length W.cells
  in_cells q b = omega (arith, ι.nodes.room)

  -- the latch is won
  module _ (e : (f s).phase ≡ phase.Latch) (k : SeatIn σ W h s phase.Latch (f s)) (l : lock W.cells (f s).node ≡ version (f s)) (low : version (f s) + 2 ≤ σ.top) where
    lk : SetLock W.cells (put W.cells (f s).node 0 (version (f s) + 1)) (f s).node (version (f s) + 1)
    lk = set_lock W.cells (f s).node (version (f s) + 1) (omega (arith, in_cells (f s).node (ι.nodes.below (f s).node (doing_open k.0))))

    even_n : lock W.cells (f s).node % 2 ≡ 0
    even_n = omega (arith, k.1.even)

    held_l : holds (answer_of (Step s) (Latched (f s).node) ∷ h) s ≡ Some (f s).node
    held_l = holds_own h s (Latched (f s).node) refl

    now_l : place (answer_of (Step s) (Latched (f s).node) ∷ h) s ≡ elsewhere
    now_l = place_own h s (Latched (f s).node) refl ∙ rw (k.2, eq-eqb (f s).node (f s).node refl) refl

    not_mine : (t q : ℕ) → Mine σ.fan (f t) q → q ≢ (f s).node
    not_mine t q m z = nobody σ W h t (f t).phase (f t) (f s).node (ι.seats t) (rw z at m) (doing_open k.0) even_n

    latching : Writing σ W f h (answer_of (Step s) (Latched (f s).node)) s (put W.cells (f s).node 0 (version (f s) + 1)) W.count
    latching =
        let n = (f s).node in
        record {
          len = length_put W.cells n 0 (version (f s) + 1);
          more = omega arith;
          fits = ι.nodes.room;
          up = λ q o. elim (cases_eq q n) [ inl z ↦ rw (z, lk.here) (omega arith) | inr d ↦ omega (arith, lk.other q d) ];
          rise = λ q o z d. elim (cases_eq q n) [ inl y ↦ rw y (held_l, omega arith) | inr y ↦ absurd (d (lk.other q y)) ];
          same = λ q o z i a c.
              let d : q ≢ n = λ y. (let z' : lock (put W.cells n 0 (version (f s) + 1)) n % 2 ≡ 0 = rw y at z in omega (arith, lk.here, k.1.even)) in
              lk.far q i d c ∙ ι.nodes.same q o (rw (lk.other q d) at z) i a c;
          own = λ t d q i m c. lk.far q i (not_mine t q m) c;
        }

    doing_l : (x' : Seat) → x'.operation ≡ (f s).operation → Begins σ.start (answer_of (Step s) (Latched (f s).node) ∷ h) s (f s).operation (f s).key
    doing_l x' z = begins_same σ.start h (answer_of (Step s) (Latched (f s).node) ∷ h) s (f s).operation (f s).key (begun_own h s (Latched (f s).node) refl) (publishings_own h s (Latched (f s).node) refl σ.start) k.0.begins

    laws_l : StepLaws σ.start h (answer_of (Step s) (Latched (f s).node)) s
    laws_l = laws_test σ.start h (answer_of (Step s) (Latched (f s).node)) s refl (λ _. (λ z. absurd (omega arith), λ d. absurd (k.1.calm l d)))

    latched_l : (q : ℕ) → Open W q → lock (put W.cells (f s).node 0 (version (f s) + 1)) q % 2 ≡ 1 → (Some (f s).node ≡ Some q) ⊎ ((t : ℕ) × (t ≢ s) × (holding (f t) ≡ Some q))
    latched_l q o z =
        elim (cases_eq q (f s).node) [
          | inl y ↦ inl (ap Some (sym y))
          | inr d ↦
              (let t = ι.nodes.latched q o (rw (lk.other q d) at z) in
              let free : holding (f s) ≡ None = rw e refl in
              inr (t.0, λ (y : t.0 ≡ s). none-some q (sym free ∙ rw y at t.1), t.1))
        ]

    hold_l : (ph : Phase) → Hold σ (with_cells W (put W.cells (f s).node 0 (version (f s) + 1)) W.count) (with_draft (f s) (draft_of σ.order.before σ.fan (f s)) ph)
    hold_l ph =
        record {
          even = k.1.even;
          mine = lk.here ∙ omega arith;
          low = low;
          kept = λ j a b. k.1.front l j a b b;
          there = k.3;
          covered = k.4;
          planned = record {
            frees = omega arith;
            rows_are = take-append_seam (content σ.order.before (f s)) (drop (length (content σ.order.before (f s))) (f s).draft.entries);
            len_is = refl;
            left_is = refl;
            edge_is = refl;
            outcome_is = refl;
          };
          writes = k.5;
        }

    pub wins : Stepped σ W f h s (put W.cells (f s).node 0 (version (f s) + 1))
        (with_draft (f s) (draft_of σ.order.before σ.fan (f s)) (cond (splits σ.fan (draft_of σ.order.before σ.fan (f s))) phase.Take (phase.Fill Own 1))) W.count (Latched (f s).node)
    wins =
        let x = f s in
        let n = x.node in
        let d = draft_of σ.order.before σ.fan x in
        let r = Latched n in
        let m' = put W.cells n 0 (version x + 1) in
        let seated_b = doing_l x refl in
        let owing : (q : ℕ) → post_of x.operation ≡ Some q → owed x ≡ Some q = λ q z. rw e z in
        cond_both (splits σ.fan d) phase.Take (phase.Fill Own 1) (λ ph. Stepped σ W f h s m' (with_draft x d ph) W.count r)
        (λ z. stepped_as (good_write ι (answer_of (Step s) r) s (with_draft x d phase.Take) m' W.count latching latched_l (λ _. refl) (
          record { seated = k.0.seated; begins = seated_b },
          hold_l phase.Take,
          now_l,
          (λ j a b. lk.rest n j a b ∙ ι.nodes.same n (doing_open k.0) even_n j a b),
          z,
          refl,
        )
        held_l
        (λ t b q y m. not_mine t q m y)
        (λ t b q y. ι.owes s t b q (owing q y))
        (λ _. ι.sizes s b8))
        laws_l)
        (λ z. stepped_as (good_write ι (answer_of (Step s) r) s (with_draft x d (phase.Fill Own 1)) m' W.count latching latched_l (λ _. refl) (
          record { seated = k.0.seated; begins = seated_b },
          hold_l (phase.Fill Own 1),
          now_l,
          record {
            inside = λ q y. both (splits σ.fan d) y.0 z;
            hidden = λ q y. both (splits σ.fan d) y.0 z;
            two = λ y. both (splits σ.fan d) y.0 z;
            level_is = rw z refl;
          },
          nothing_yet z,
          omega arith,
          omega arith,
          tt,
        )
        held_l
        (λ t b q y m. ⊎_elim (not_mine t q m) (λ u. both (splits σ.fan d) u.0 z) y)
        (λ t b q y. ι.owes s t b q (owing q y))
        (λ _. ι.sizes s b8))
        laws_l)
      where
        nothing_yet : splits σ.fan (draft_of σ.order.before σ.fan (f s)) ≡ false
            → Filled σ.fan (put W.cells (f s).node 0 (version (f s) + 1)) (with_draft (f s) (draft_of σ.order.before σ.fan (f s)) (phase.Fill Own 1)) (done_in Own 1)
        nothing_yet z p u w a b = grind arith

  -- nodes are taken, or there are none
  module _ (e : (f s).phase ≡ phase.Take) (k : SeatIn σ W h s phase.Take (f s)) where
    own_held : holding (f s) ≡ Some (f s).node
    own_held = rw e refl

    owing_t : (q : ℕ) → post_of (f s).operation ≡ Some q → owed (f s) ≡ Some q
    owing_t q z = rw e z

    now_t : place (answer_of (Step s) (GoneOn (f s).node) ∷ h) s ≡ elsewhere
    now_t = place_own h s (GoneOn (f s).node) refl ∙ rw k.2 refl

    laws_t : StepLaws σ.start h (answer_of (Step s) (GoneOn (f s).node)) s
    laws_t = laws_plain σ.start h (answer_of (Step s) (GoneOn (f s).node)) s refl (rw k.2 refl)

    mine_t : (q : ℕ) → q ≡ (f s).node → Mine σ.fan (f s) q
    mine_t q z = rw e z

    pub gives_up : Stepped σ W f h s W.cells (in_phase (f s) phase.Undo) W.count (GoneOn (f s).node)
    gives_up =
        let x = f s in
        let r = GoneOn x.node in
        stepped_calm ι s b8 (in_phase x phase.Undo) r (quiet_gone x.node) (sym own_held) mine_t owing_t
        (doing_in ι s b8 r (quiet_gone x.node) x phase.Undo k.0, hold_as x x.draft phase.Undo refl (λ _. refl) k.1.planned k.1, now_t, k.3) (ι.sizes s b8) laws_t

    -- taking nodes leaves the entries as drafted
    planned_t : Planned σ (with_nodes (f s) W.count) (f s).operation (f s).key (f s).copy
    planned_t = grind arith

    hold_t : (ph : Phase) → Hold σ (with_cells W W.cells (W.count + needed (f s))) (with_draft (f s) (with_nodes (f s) W.count) ph)
    hold_t ph = hold_as (f s) (with_nodes (f s) W.count) ph refl (λ _. refl) planned_t k.1

    fresh_in : (ph : Phase) (q : ℕ) → Fresh σ.fan (with_draft (f s) (with_nodes (f s) W.count) ph) q → (W.count ≤ q) × (q < W.count + needed (f s))
    fresh_in ph q z = grind arith

    taken_t : (ph : Phase) → Taken σ (with_cells W W.cells (W.count + needed (f s))) (with_draft (f s) (with_nodes (f s) W.count) ph)
    taken_t ph = grind arith

    filled_left : Filled σ.fan W.cells (with_draft (f s) (with_nodes (f s) W.count) (phase.Fill Left 0)) (done_in Left 0)
    filled_left p u w a b = grind arith

    filled_right : is_root (f s) ≡ false → Filled σ.fan W.cells (with_draft (f s) (with_nodes (f s) W.count) (phase.Fill Right 0)) (done_in Right 0)
    filled_right z p u w a b = grind arith

    took : 32 * (W.count + needed (f s)) ≤ length W.cells → (p : Part) → first p ≤ 0 → Uses σ.fan (with_draft (f s) (with_nodes (f s) W.count) (phase.Fill p 0)) p
        → Filled σ.fan W.cells (with_draft (f s) (with_nodes (f s) W.count) (phase.Fill p 0)) (done_in p 0)
        → Stepped σ W f h s W.cells (with_draft (f s) (with_nodes (f s) W.count) (phase.Fill p 0)) (W.count + needed (f s)) (GoneOn (f s).node)
    took room p low u filled =
        let x = f s in
        let r = GoneOn x.node in
        let c' = W.count + needed x in
        let x' = with_draft x (with_nodes x W.count) (phase.Fill p 0) in
        let ev = answer_of (Step s) r in
        stepped_as (good_write ι ev s x' W.cells c' (writing_none ι ev s x' c' (omega arith) room) (latched_none ι ev s x' (sym own_held)) (plain_quiet h s r (quiet_gone x.node) σ.start) (
          record { seated = k.0.seated; begins = doing_quiet ι s b8 r (quiet_gone x.node) x k.0 },
          hold_t (phase.Fill p 0),
          now_t,
          taken_t (phase.Fill p 0),
          filled,
          low,
          omega arith,
          u,
        )
        (holds_quiet h s r (quiet_gone x.node) s ∙ ι.held_by s ∙ own_held)
        (λ t b q y m. ⊎_elim
        (λ (z : q ≡ x.node). ι.apart s t b q (mine_t q z) m)
        (λ z. omega (arith, (fresh_in (phase.Fill p 0) q z).0, mine_below σ W h t (f t).phase (f t) q ι.nodes.below (ι.seats t) m)) y)
        (λ t b q y. ι.owes s t b q (owing_t q y))
        (λ _. ι.sizes s b8))
        laws_t

    pub takes_nodes : 32 * (W.count + needed (f s)) ≤ length W.cells
        → Stepped σ W f h s W.cells (with_draft (f s) (with_nodes (f s) W.count) (phase.Fill (cond (is_root (f s)) Left Right) 0)) (W.count + needed (f s)) (GoneOn (f s).node)
    takes_nodes room =
        cond_both (is_root (f s)) Left Right (λ p. Stepped σ W f h s W.cells (with_draft (f s) (with_nodes (f s) W.count) (phase.Fill p 0)) (W.count + needed (f s)) (GoneOn (f s).node))
        (λ z. took room Left (omega arith) (k.4, z) filled_left)
        (λ z. took room Right (omega arith) k.4 (filled_right z))

  -- the latch is given back
  module _ (e : (f s).phase ≡ phase.Undo) (k : SeatIn σ W h s phase.Undo (f s)) where
    pub undoes : Stepped σ W f h s (put W.cells (f s).node 0 (f s).draft.freeing) (in_phase (f s) (phase.End (stopped (f s).operation outcome.Full))) W.count (Unchanged (f s).node)
    undoes =
        let x = f s in
        let n = x.node in
        let v = x.draft.freeing in
        let r = Unchanged n in
        let ev = answer_of (Step s) r in
        let m' = put W.cells n 0 v in
        let a = k.1 in
        let o_n = doing_open k.0 in
        let lk = set_lock W.cells n v (omega (arith, in_cells n (ι.nodes.below n o_n))) in
        let now : place (ev ∷ h) s ≡ elsewhere = place_own h s r refl ∙ rw k.2 refl in
        let not_n : (t : ℕ) → t ≢ s → (q : ℕ) → Mine σ.fan (f t) q → q ≢ n = λ t d q m z. ι.apart s t d q (rw e z) m in
        stepped_as (good_write ι ev s (in_phase x (phase.End (stopped x.operation outcome.Full))) m' W.count
        (record {
          len = length_put W.cells n 0 v;
          more = omega arith;
          fits = ι.nodes.room;
          up = λ q o. elim (cases_eq q n) [ inl z ↦ rw (z, lk.here) (omega (arith, a.mine, a.planned.frees)) | inr d ↦ omega (arith, lk.other q d) ];
          rise = λ q o z d. elim (cases_eq q n) [ inl y ↦ absurd (omega (arith, a.mine, a.even, ap (lock W.cells) y)) | inr y ↦ absurd (d (lk.other q y)) ];
          same = λ q o z i b c. elim (cases_eq q n) [
            | inl y ↦ rw y (lk.rest n i b c ∙ k.3 i b c)
            | inr d ↦ lk.far q i d c ∙ ι.nodes.same q o (rw (lk.other q d) at z) i b c
          ];
          own = λ t d q i m c. lk.far q i (not_n t d q m) c;
        })
        (λ q o z.
        let d : q ≢ n = λ y. (let z' : lock m' n % 2 ≡ 1 = rw y at z in omega (arith, lk.here, a.planned.frees, a.even)) in
        let t = ι.nodes.latched q o (rw (lk.other q d) at z) in
        let own : holding x ≡ Some n = rw e refl in
        inr (t.0, λ (y : t.0 ≡ s). d (sym (same_Some n q (sym own ∙ rw y at t.1))), t.1))
        (λ _. refl) (
          stopped_paid ι s b8 x.operation outcome.Full x.key (ev ∷ h) refl a.writes
              (begins_same σ.start h (ev ∷ h) s x.operation x.key (begun_own h s r refl) (publishings_own h s r refl σ.start) k.0.begins),
          rw now refl,
        )
        (holds_own h s r refl)
        (λ t b q y m. y)
        (λ t b q y. absurd (none-some q y))
        (λ _. ι.sizes s b8))
        (laws_plain σ.start h ev s refl (rw k.2 refl))
