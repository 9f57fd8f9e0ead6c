-- The steps of a seat that holds no latch: look, copy, check, a latch step that is lost or worn, and the end.
use Rattle.std.proofs.Common.{◌≡◌, ℕ, zero, suc, ◌+◌, ◌%◌, ◌<◌, ◌≤◌, true, false, cond, eqb, ltb, ◌≢◌, [], ◌∷◌, get_or, Some, None, Option, sym, refl, ap, ◌∙◌, inl, inr, ⊎_elim, arith}
use Rattle.std.proofs.lemmas.List.{get_or-set_same, get_or-set_other, length-set}
use Rattle.std.proofs.lemmas.Bool.{cases_eq, cond_both, cond-true, eq-eqb, ne_eqb, eqb-true, eqb-false, ltb-true, ltb-false, lt-ltb}
use Rattle.std.proofs.lemmas.Option.{none-some}
use Rattle.tree.specs.Node as N
use Rattle.tree.specs.Tree as T
use Rattle.tree.proofs.Stands.{tree_stands}
use Rattle.tree.proofs.Walks.{good_at, uncovered, child_held}
use Rattle.rules.specs.Nodes.{level, link, entries, covers, child, found}
use Rattle.rules.specs.Seats.{in_phase, at_node, with_word}
use Rattle.rules.specs.Steps.{version_in, version, answered, copy_next, accepts, arrives, stopped}
use Rattle.rules.specs.Histories.{History, Step}
use Rattle.rules.specs.Events.{begun, finding}
use Rattle.rules.specs.PlainMap.{plain_map}
use Rattle.rules.specs.Latches.{holds, place, elsewhere, starting, reading, checked, looks, tests, since_look, Disturbed}
use Rattle.rules.specs.declared.seat.Operation.{Operation}
use Rattle.rules.specs.declared.seat.Operation.TheVariants as operation
use Rattle.rules.specs.declared.report.Outcome.{Outcome}
use Rattle.rules.specs.declared.report.Outcome.TheVariants as outcome
use Rattle.rules.specs.declared.seat.Phase.{Phase}
use Rattle.rules.specs.declared.seat.Phase.TheVariants as phase
use Rattle.rules.specs.declared.report.Report.{Report}
use Rattle.rules.specs.declared.report.Report.TheVariants.{GoneOn, TurnedBack, Ended}
use Rattle.rules.specs.declared.seat.Seat.{Seat}
use Rattle.rules.proofs.Cells.{word, lock}
use Rattle.rules.proofs.Entries.{row_child}
use Rattle.rules.proofs.Words.{covers_shown}
use Rattle.rules.proofs.Events.{answer_of, not_me, place_own, since_own, disturbed_looked, disturbed_before}
use Rattle.rules.proofs.Inv.{Setting, World, Open, holding_in, post_of, owed_in, Begins, Writes, paid, Paid, Doing, Reading, SeatIn, Inv}
use Rattle.rules.proofs.Rely.{doing_open}
use Rattle.rules.proofs.Good.{holding, owed, StepLaws, holder_locks, laws_plain, laws_test}
use Rattle.rules.proofs.Steps.{Stepped, quiet_gone, quiet_turned, quiet_answered, quiet_ended, holds_quiet, reading_in, Seen, odd_now, doing_quiet, doing_in, reading_own, stepped_calm, seen, leaf_found}

module _ {σ : Setting} {W : World} {f : ℕ → Seat} {h : History} (ι : Inv σ W f h) (s : ℕ) (b8 : s < 8) where
  free : (ph : Phase) → (f s).phase ≡ ph → ((n : ℕ) → holding_in ph n ≡ None) → holding (f s) ≡ None
  free ph e z = rw e (z (f s).node)

  owing : (ph : Phase) → (f s).phase ≡ ph → owed_in ph (f s).operation ≡ owed (f s)
  owing ph e = rw e refl

  -- who holds a latch
  latcher : (q : ℕ) → Open W q → lock W.cells q % 2 ≡ 1 → (t : ℕ) × (holds h t ≡ Some q) × (lock W.cells q + 1 ≤ σ.top)
  latcher q o l = let t = ι.nodes.latched q o l in (t.0, ι.held_by t.0 ∙ t.1, (holder_locks σ W h t.0 (f t.0).phase (f t.0) q (ι.seats t.0) t.1).1)

  pub look : (f s).phase ≡ phase.Look → SeatIn σ W h s phase.Look (f s) → (w : ℕ) → w ≡ lock W.cells (f s).node
      → Stepped σ W f h s W.cells (with_word (f s) 0 (version_in w) (phase.Copy 1)) W.count (GoneOn (f s).node)
  look e k w is =
      let x = f s in
      let n = x.node in
      let r = GoneOn n in
      let v = version_in w in
      let x' = with_word x 0 v (phase.Copy 1) in
      let ev = answer_of (Step s) r in
      let sz = ι.sizes s b8 in
      let vs : version x' ≡ v = get_or-set_same x.copy 0 v 0 (omega arith) in
      let one : since_look (ev ∷ h) s ≡ 1 = since_own h s r refl ∙ cond-true (looks (place h s) 0 n) _ _ k.1 in
      let seen_n = doing_open k.0 in
      let none : holding x ≡ None = free phase.Look e (λ _. refl) in
      stepped_calm ι s b8 x' r (quiet_gone n) (sym none) (λ q z. absurd z) (λ d z. sym (owing phase.Look e) ∙ z) (
        record { seated = k.0.seated; begins = doing_quiet ι s b8 r (quiet_gone n) x k.0 },
        record {
          even = rw vs (omega arith);
          old = rw vs (omega arith);
          front = λ q j a c d. absurd (omega arith);
          calm = λ q d.
              ⊎_elim
              (λ z. omega (arith, odd_now ι s b8 z.0 n (sym (holds_quiet h s r (quiet_gone n) z.0) ∙ z.2)))
              (λ z. omega (arith, odd_now ι s b8 z.0 n z.2))
              (disturbed_looked ev h s n one d);
          loud = λ q.
              let o : lock W.cells n % 2 ≡ 1 = omega arith in
              let t = latcher n seen_n o in
              (disturbed_before ev h s n t.0 one (not_me h s t.0 n (ι.held_by s ∙ none) t.1) t.1, rw vs (omega (arith, t.2)));
        },
        omega arith,
        (0, refl, place_own h s r refl ∙ cond-true (looks (place h s) 0 n) _ _ k.1),
      )
      (length-set x.copy 0 v ∙ sz)
      (laws_plain σ.start h ev s refl k.2)

  -- one word more
  copied : (i k w : ℕ) (ph : Phase) → i ≡ suc k → i ≤ 31 → place h s ≡ reading k → w ≡ word W.cells (f s).node i → Open W (f s).node → Reading σ W h s (f s) i
      → Reading σ W (answer_of (Step s) (GoneOn (f s).node) ∷ h) s (with_word (f s) i w ph) (i + 1)
  copied i k w ph ik b pl is o r =
      let x = f s in
      let n = x.node in
      let x' = with_word x i w ph in
      let sz = ι.sizes s b8 in
      let vs : version x' ≡ version x = get_or-set_other x.copy i 0 w 0 (omega arith) in
      let r' = reading_own ι s b8 (GoneOn n) (quiet_gone n) (rw pl refl) x i r in
      record {
        even = rw vs r'.even;
        old = rw vs r'.old;
        front = λ q j a c d.
            let q' : lock W.cells n ≡ version x = q ∙ vs in
            ⊎_elim
            (λ (z : j ≡ i). rw z (get_or-set_same x.copy i w 0 (omega arith) ∙ is ∙ ι.nodes.same n o (omega (arith, r.even)) i (omega arith) (omega arith)))
            (λ (z : j ≢ i). get_or-set_other x.copy i j w 0 z ∙ r'.front q' j a (omega arith) d)
            (cases_eq j i);
        calm = λ q. r'.calm (q ∙ vs);
        loud = λ q. let l = r'.loud (λ z. q (z ∙ sym vs)) in (l.0, rw vs l.1);
      }

  pub copy : (i : ℕ) → (f s).phase ≡ phase.Copy i → SeatIn σ W h s (phase.Copy i) (f s) → (w : ℕ) → w ≡ word W.cells (f s).node i
      → Stepped σ W f h s W.cells (with_word (f s) i w (copy_next i)) W.count (GoneOn (f s).node)
  copy i e k w is =
      let x = f s in
      let n = x.node in
      let r = GoneOn n in
      let ev = answer_of (Step s) r in
      let none : holding x ≡ None = free (phase.Copy i) e (λ _. refl) in
      let kk = k.3.0 in
      let ik = k.3.1 in
      let pl = k.3.2 in
      let l = length-set x.copy i w ∙ ι.sizes s b8 in
      let now = place_own h s r refl in
      let laws : StepLaws σ.start h ev s = laws_plain σ.start h ev s refl (rw pl (ne_eqb kk 31 (omega arith))) in
      let d : (ph : Phase) → Doing σ W (ev ∷ h) s (with_word x i w ph) = λ ph. record { seated = k.0.seated; begins = doing_quiet ι s b8 r (quiet_gone n) x k.0 } in
      let rd = λ (ph : Phase). copied i kk w ph ik k.2 pl is (doing_open k.0) k.1 in
      cond_both (ltb i 31) (phase.Copy (i + 1)) phase.Check (λ ph. Stepped σ W f h s W.cells (with_word x i w ph) W.count r)
      (λ b.
      let b' = ltb-true i 31 b in
      stepped_calm ι s b8 (with_word x i w (phase.Copy (i + 1))) r (quiet_gone n) (sym none) (λ q z. absurd z) (λ q z. sym (owing (phase.Copy i) e) ∙ z)
      (d (phase.Copy (i + 1)), rd (phase.Copy (i + 1)), omega arith, (i, omega arith, now ∙ rw pl (cond-true (ltb kk 31) _ _ (lt-ltb kk 31 (omega arith)) ∙ ap reading (omega arith)))) l laws)
      (λ b.
      let b' = ltb-false i 31 b in
      let i31 : i + 1 ≡ 32 = omega arith in
      stepped_calm ι s b8 (with_word x i w phase.Check) r (quiet_gone n) (sym none) (λ q z. absurd z) (λ q z. sym (owing (phase.Copy i) e) ∙ z)
      (d phase.Check, rw i31 at (rd phase.Check), now ∙ rw pl (cond-true (ltb kk 31) _ _ (lt-ltb kk 31 (omega arith)) ∙ ap reading (omega arith))) l laws)

  -- a turned-back test
  turned : (ph : Phase) → (f s).phase ≡ ph → ((n : ℕ) → holding_in ph n ≡ None) → owed_in ph (f s).operation ≡ post_of (f s).operation → Doing σ W h s (f s) → Disturbed h s (f s).node
      → Stepped σ W f h s W.cells (in_phase (f s) phase.Look) W.count (TurnedBack (f s).node)
  turned ph e hz oz d z =
      let x = f s in
      let n = x.node in
      let r = TurnedBack n in
      let ev = answer_of (Step s) r in
      let now : place (ev ∷ h) s ≡ starting = place_own h s r refl in
      stepped_calm ι s b8 (in_phase x phase.Look) r (quiet_turned n) (sym (free ph e hz)) (λ q y. absurd y) (λ q y. sym (owing ph e) ∙ oz ∙ y)
      (doing_in ι s b8 r (quiet_turned n) x phase.Look d, rw now refl, rw now refl)
      (ι.sizes s b8)
      (laws_test σ.start h ev s refl (λ _. (λ _. z, λ _. refl)))

  -- a check that is passed
  module _ (e : (f s).phase ≡ phase.Check) (k : SeatIn σ W h s phase.Check (f s)) (l : lock W.cells (f s).node ≡ version (f s)) where
    same_words : (j : ℕ) → 0 < j → j < 32 → get_or (f s).copy j 0 ≡ W.words (f s).node j
    same_words j a b = k.1.front l j a b b

    looked_at : Seen σ W (f s)
    looked_at = seen ι s b8 (f s) (doing_open k.0) (ι.sizes s b8) same_words

    calm_now : ¬ (Disturbed h s (f s).node)
    calm_now = k.1.calm l

    none_held : holding (f s) ≡ None
    none_held = free phase.Check e (λ _. refl)

    after_check : place (answer_of (Step s) (GoneOn (f s).node) ∷ h) s ≡ checked (f s).node
    after_check = place_own h s (GoneOn (f s).node) refl ∙ rw k.2 refl

    passed_laws : StepLaws σ.start h (answer_of (Step s) (GoneOn (f s).node)) s
    passed_laws = laws_test σ.start h (answer_of (Step s) (GoneOn (f s).node)) s refl (λ _. (λ z. absurd (omega arith), λ d. absurd (calm_now d)))

    covers_is : covers σ.order.before (f s).copy (f s).key ≡ N.covers σ.order.before looked_at.node_is (f s).key
    covers_is = covers_shown σ.order.before (f s).copy looked_at.node_is (f s).key looked_at.shown

    goes_on : T.GoesOn σ.order W.tree looked_at.node_is looked_at.from looked_at.to (post_of (f s).operation) (f s).key (f s).aim
    goes_on = (tree_stands σ.order).seats_go_on W.tree (f s).node looked_at.node_is looked_at.from looked_at.to (post_of (f s).operation) (f s).key (f s).aim
        ι.nodes.sound looked_at.at_is k.0.seated

    sound_here : T.Good σ.order W.tree looked_at.node_is looked_at.from looked_at.to
    sound_here = good_at σ.order W.tree (f s).node looked_at.node_is looked_at.from looked_at.to ι.nodes.sound looked_at.at_is

    -- on to another node
    moves : (p : ℕ) → p ≢ (f s).node → T.Seated σ.order W.tree (post_of (f s).operation) (f s).key (f s).aim p
        → Stepped σ W f h s W.cells (at_node (f s) p) W.count (GoneOn (f s).node)
    moves p d z =
        let x = f s in
        let r = GoneOn x.node in
        stepped_calm ι s b8 (at_node x p) r (quiet_gone x.node) (sym none_held) (λ q y. absurd y) (λ q y. sym (owing phase.Check e) ∙ y) (
          record { seated = z; begins = doing_quiet ι s b8 r (quiet_gone x.node) x k.0 },
          rw (after_check, ne_eqb p x.node d) refl,
          rw after_check (ne_eqb p x.node d),
        )
        (ι.sizes s b8) passed_laws

    moves_right : covers σ.order.before (f s).copy (f s).key ≡ false → Stepped σ W f h s W.cells (at_node (f s) (link (f s).copy)) W.count (GoneOn (f s).node)
    moves_right c =
        let x = f s in
        let y = looked_at.node_is in
        let c' = sym covers_is ∙ c in
        let u = uncovered σ.order W.tree y looked_at.from looked_at.to x.key sound_here k.0.seated.key c' in
        let d : y.link ≢ x.node = λ z.
        let i : T.Is y.level looked_at.to (T.held y looked_at.from looked_at.to) = rw (z, looked_at.at_is) at u.0.1 in
        omega (arith, i.1, sound_here.span) in
        rw looked_at.shown.link_is (moves y.link d (goes_on.right c'))

    other_level : (y : N.Node) (v lo a b : ℕ) (p : T.Place) → y.level ≡ suc v → p ≡ T.held y a b → T.Is v lo p → ⊥
    other_level y v lo a b p z q i = grind arith

    not_child : (v : ℕ) → looked_at.node_is.level ≡ v → (f s).aim < v → N.child σ.order.before looked_at.node_is.entries (f s).key ≢ (f s).node
    not_child zero z b c = omega arith
    not_child (suc v) z b c =
        let y = looked_at.node_is in
        let at : T.At σ.order (f s).key (f s).aim (T.held y looked_at.from looked_at.to) = rw looked_at.at_is at k.0.seated.at in
        let q = child_held σ.order (T.Held W.tree v) (f s).key k.0.seated.key y.entries looked_at.from looked_at.to y.high (sound_here.inner v z) at.1 in
        other_level y v q.0 looked_at.from looked_at.to (W.tree (f s).node) z looked_at.at_is (rw c at q.2.1)

    child_is : child σ.order.before (f s).key (entries (f s).copy) ≡ N.child σ.order.before looked_at.node_is.entries (f s).key
    child_is = row_child σ.order.before (f s).key (entries (f s).copy) ∙ rw looked_at.shown.row_is refl

    moves_down : covers σ.order.before (f s).copy (f s).key ≡ true → ltb (f s).aim (level (f s).copy) ≡ true
        → Stepped σ W f h s W.cells (at_node (f s) (child σ.order.before (f s).key (entries (f s).copy))) W.count (GoneOn (f s).node)
    moves_down c b =
        let y = looked_at.node_is in
        let b' : ltb (f s).aim y.level ≡ true = rw looked_at.shown.level_is at b in
        rw child_is (moves (N.child σ.order.before y.entries (f s).key) (not_child y.level refl (ltb-true (f s).aim y.level b')) (goes_on.down (sym covers_is ∙ c) b'))

    module _ (c : covers σ.order.before (f s).copy (f s).key ≡ true) (b : ltb (f s).aim (level (f s).copy) ≡ false) where
      arrived : (looked_at.node_is.level ≡ (f s).aim) × (looked_at.from ≤ σ.order.rank (f s).key) × (σ.order.rank (f s).key < looked_at.to)
      arrived = goes_on.there (sym covers_is ∙ c) (rw looked_at.shown.level_is at b)

      to_latch : Writes (f s).operation → Stepped σ W f h s W.cells (in_phase (f s) phase.Latch) W.count (GoneOn (f s).node)
      to_latch w =
          let x = f s in
          let r = GoneOn x.node in
          stepped_calm ι s b8 (in_phase x phase.Latch) r (quiet_gone x.node) (sym none_held) (λ q y. absurd y) (λ q y. sym (owing phase.Check e) ∙ y) (
            doing_in ι s b8 r (quiet_gone x.node) x phase.Latch k.0,
            reading_in x 32 phase.Latch (reading_own ι s b8 r (quiet_gone x.node) (rw k.2 refl) x 32 k.1),
            after_check,
            looked_at.shown.level_is ∙ arrived.0,
            c,
            w,
          )
          (ι.sizes s b8) passed_laws

      answer_is : (f s).aim ≡ 0 → plain_map σ.start h (f s).key ≡ found σ.order.before (f s).key (entries (f s).copy)
      answer_is z = leaf_found ι s b8 (f s) looked_at k.0.seated.key (rw z at k.0.seated.at) (arrived.0 ∙ z) c

      find_laws : (o : Option ℕ) → begun h s ≡ finding (f s).key → plain_map σ.start h (f s).key ≡ o → StepLaws σ.start h (answer_of (Step s) (answered (f s).node o)) s
      find_laws None g p = (
        λ q z _. inr (refl, (let kq : (f s).key ≡ q = cc in rw (sym kq) p)),
        λ q v z _. cc,
        λ _. (λ z. absurd (omega arith), λ d. absurd (calm_now d)),
      )
      find_laws (Some v) g p = (
        λ q z _. inl (refl, (let kq : (f s).key ≡ q = cc in rw (sym kq) p)),
        λ q v z _. cc,
        λ _. (λ z. absurd (omega arith), λ d. absurd (calm_now d)),
      )

      finds : (t : Operation) → (f s).operation ≡ t → Stepped σ W f h s W.cells (arrives σ.order.before t (f s)).0 W.count (arrives σ.order.before t (f s)).1
      finds operation.Find z =
          let x = f s in
          let o = found σ.order.before x.key (entries x.copy) in
          let r = answered x.node o in
          let bg : Begins σ.start h s operation.Find x.key = rw z at k.0.begins in
          let am : T.Aims σ.order W.tree None x.key x.aim = rw z at k.0.seated.aims in
          stepped_calm ι s b8 (in_phase x phase.Idle) r (quiet_answered x.node o) (sym none_held) (λ q y. absurd y) (λ q y. absurd (none-some q y)) tt (ι.sizes s b8)
          (find_laws o bg.0 (answer_is am))
      finds (operation.Put v) z = to_latch (rw z tt)
      finds (operation.Post m d) z = to_latch (rw z tt)

  pub check : (f s).phase ≡ phase.Check → SeatIn σ W h s phase.Check (f s) → (w : ℕ) → w ≡ lock W.cells (f s).node
      → (P : Seat × ℕ × Report → Type 0) → ((y : Seat) (r : Report) → Stepped σ W f h s W.cells y W.count r → P (y, W.count, r))
      → P (cond (eqb w (version (f s))) ((accepts σ.order.before (f s)).0, W.count, (accepts σ.order.before (f s)).1) (in_phase (f s) phase.Look, W.count, TurnedBack (f s).node))
  check e k w is P done =
      let x = f s in
      cond_both (eqb w (version x)) _ _ P
      (λ z.
      let l : lock W.cells x.node ≡ version x = sym is ∙ eqb-true w (version x) z in
      cond_both (covers σ.order.before x.copy x.key) _ _ (λ (m : Seat × Report). P (m.0, W.count, m.1))
      (λ c. cond_both (ltb x.aim (level x.copy)) _ _ (λ (m : Seat × Report). P (m.0, W.count, m.1))
      (λ b. done _ _ (moves_down e k l c b))
      (λ b. done _ _ (finds e k l c b x.operation refl)))
      (λ c. done _ _ (moves_right e k l c)))
      (λ z. done _ _ (turned phase.Check e (λ _. refl) refl k.0 (k.1.loud (λ y. eqb-false w (version x) z (is ∙ y))).0))

  pub lost : (f s).phase ≡ phase.Latch → SeatIn σ W h s phase.Latch (f s) → lock W.cells (f s).node ≢ version (f s)
      → Stepped σ W f h s W.cells (in_phase (f s) phase.Look) W.count (TurnedBack (f s).node)
  lost e k d = turned phase.Latch e (λ _. refl) refl k.0 (k.1.loud d).0

  pub stopped_paid : (t : Operation) (r : Outcome) (k : ℕ) (h' : History) → paid r ≡ [] → Writes t → Begins σ.start h' s t k → Paid σ.start h' s (stopped t r)
  stopped_paid operation.Find r k h' z w b = absurd w
  stopped_paid (operation.Put v) r k h' z w b = ((k, v, b.0), b.1 ∙ sym z)
  stopped_paid (operation.Post m d) r k h' z w b = (b.0, b.1)

  pub wears : (f s).phase ≡ phase.Latch → SeatIn σ W h s phase.Latch (f s) → σ.top < version (f s) + 2
      → Stepped σ W f h s W.cells (in_phase (f s) (phase.End (stopped (f s).operation outcome.Worn))) W.count (GoneOn (f s).node)
  wears e k t =
      let x = f s in
      let n = x.node in
      let r = GoneOn n in
      let ev = answer_of (Step s) r in
      let now : place (ev ∷ h) s ≡ elsewhere = place_own h s r refl ∙ rw (k.2, eq-eqb n n refl) refl in
      stepped_calm ι s b8 (in_phase x (phase.End (stopped x.operation outcome.Worn))) r (quiet_gone n) (sym (free phase.Latch e (λ _. refl))) (λ q y. absurd y) (λ q y. absurd (none-some q y))
      (stopped_paid x.operation outcome.Worn x.key (ev ∷ h) refl k.5 (doing_quiet ι s b8 r (quiet_gone n) x k.0), rw now refl)
      (ι.sizes s b8)
      (laws_test σ.start h ev s refl (λ _. (
        λ z. absurd (omega arith),
        λ d.
            ⊎_elim (λ l. absurd (k.1.calm l d)) (λ l. absurd (omega (arith, (k.1.loud l).1))) (cases_eq (lock W.cells n) (version x)),
      )))

  no_find : (o : Outcome) (k : ℕ) {A : Type 0} → Paid σ.start h s o → begun h s ≡ finding k → A
  no_find o k p b = let g = p.0.2 in cc

  end_laws : (o : Outcome) (n : ℕ) → Paid σ.start h s o → tests (place h s) n ≡ false → StepLaws σ.start h (answer_of (Step s) (Ended n o)) s
  end_laws o n p z = grind arith

  pub end : (o : Outcome) → (f s).phase ≡ phase.End o → SeatIn σ W h s (phase.End o) (f s)
      → Stepped σ W f h s W.cells (in_phase (f s) phase.Idle) W.count (Ended (f s).node o)
  end o e k =
      stepped_calm ι s b8 (in_phase (f s) phase.Idle) (Ended (f s).node o) (quiet_ended (f s).node o) (sym (free (phase.End o) e (λ _. refl))) (λ q y. absurd y) (λ q y. absurd (none-some q y))
      tt (ι.sizes s b8) (end_laws o (f s).node k.0 k.1)
