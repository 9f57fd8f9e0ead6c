-- A whole call: whatever it answers, the invariant and the laws hold after it.
use Rattle.std.proofs.Common.{◌≡◌, ℕ, suc, ◌+◌, ◌/◌, ◌%◌, ◌<◌, ◌≤◌, Bool, true, false, cond, ◌||◌, eqb, ltb, ◌≢◌, List, ◌∷◌, length, get_or, set, Some, None, Option, Ok, Err, Result, sym, refl, ◌∙◌, subst, inl, inr, arith}
use Rattle.std.proofs.lemmas.List.{get_or-set_same, get_or-set_other, length-set}
use Rattle.std.proofs.lemmas.Bool.{cases_eq, cond_both, cond-true, cond-false, eqb-true, eqb-false, ne_eqb, ltb-true, ltb-false, or_parts, and_left, and_right, true≢false}
use Rattle.std.proofs.lemmas.Option.{none-some}
use Rattle.memory.specs.declared.fault.Fault.{Fault}
use Rattle.memory.specs.Row.{read_at, guarded}
use Rattle.tree.specs.Tree as T
use Rattle.tree.proofs.Stands.{tree_stands}
use Rattle.rules.specs.Refusals.{of_fault}
use Rattle.rules.specs.Cells.{answers, leaves}
use Rattle.rules.specs.Nodes.{cell_of}
use Rattle.rules.specs.Seats.{in_phase, starting_out}
use Rattle.rules.specs.Steps.{version, worn, access_at, access_of, advance_at, advance, fill_word, part_node, needed, fits, takes, steady}
use Rattle.rules.specs.State.{State, seat_at, with_seat}
use Rattle.rules.specs.Calls.{due_in, moved, answered_by, step_by, step, is_idle, value_of, begin, is_post, abandon_answer, abandoned, abandon, format}
use Rattle.rules.specs.Histories.{Call, Format, BeginFind, BeginPut, Step, Abandon, act, Event, History}
use Rattle.rules.specs.Events.{Begun, finding, putting, stepped, steps, leaves_off, left_off, accepted, seat_of}
use Rattle.rules.specs.PlainMap.{plain_map}
use Rattle.rules.specs.Latches.{holds}
use Rattle.rules.specs.declared.access.Access.{Access}
use Rattle.rules.specs.declared.access.Access.TheVariants as access
use Rattle.rules.specs.declared.access.Extent.{Extent}
use Rattle.rules.specs.declared.seat.Operation.{Operation}
use Rattle.rules.specs.declared.seat.Operation.TheVariants as operation
use Rattle.rules.specs.declared.seat.Phase.{Phase}
use Rattle.rules.specs.declared.seat.Phase.TheVariants as phase
use Rattle.rules.specs.declared.refusal.Refusal.{Refusal}
use Rattle.rules.specs.declared.report.Report.{Report}
use Rattle.rules.specs.declared.report.Report.TheVariants.{GoneOn, Abandoned}
use Rattle.rules.specs.declared.seat.Seat.{Seat}
use Rattle.rules.proofs.Cells.{word, put, lock, word_is, put_is}
use Rattle.rules.proofs.Events.{untouched_refused, refused, not_accepted, not_published, answer_of, Restarted, restarted_find, restarted_put}
use Rattle.rules.proofs.Inv.{Setting, World, post_of, Begins, Doing, SeatIn, Inv}
use Rattle.rules.proofs.Rely.{Rely, lasts}
use Rattle.rules.proofs.Good.{holding, Good, next, LawsAt, with_abandon, laws_unstepped, tells_same, good_calm}
use Rattle.rules.proofs.Steps.{Stepped, odd_now}
use Rattle.rules.proofs.Readers.{look, copy, check, lost, wears, end}
use Rattle.rules.proofs.Writers.{wins, gives_up, takes_nodes, undoes}
use Rattle.rules.proofs.Fills.{fills}
use Rattle.rules.proofs.Storing.{by_operation}
use Rattle.rules.proofs.Abandoning.{PublishedAs, begun_published, ended_published, abandon_law}

-- a state of this setting
abbrev pub norm : Setting → (ℕ → Bool) → List ℕ → ℕ → List Seat → State
norm σ iskey m c ss = record { cells = m; top = σ.top; iskey = iskey; before = σ.order.before; fan = σ.fan; count = c; seats = ss }

abbrev pub world : List ℕ → ℕ → (ℕ → ℕ → ℕ) → (ℕ → T.Place) → World
world m c w g = record { cells = m; count = c; words = w; tree = g }

-- a call leaves a state of this setting, with the invariant, and the laws hold of it
pub record Kept (σ : Setting) (iskey : ℕ → Bool) (h : History) (c : Call) (z : Result Report Refusal × State) : Type 0 where
  pub cells : List ℕ
  pub count : ℕ
  pub seats : List Seat
  pub words : ℕ → ℕ → ℕ
  pub tree : ℕ → T.Place
  pub is : z.1 ≡ norm σ iskey cells count seats
  pub inv : Inv σ (world cells count words tree) (seat_at seats) (record { call = c; answer = z.0 } ∷ h)
  pub eight : length seats ≡ 8
  pub laws : (s : ℕ) → LawsAt σ.start h (record { call = c; answer = z.0 }) s

idle_is : (ph : Phase) → is_idle ph ≡ true → ph ≡ phase.Idle
idle_is ph e = grind arith

rely_same : (σ : Setting) (W : World) (h : History) (e : Event) (a : ℕ) (ph : Phase) (y : Seat) → Rely σ W W h e a ph y
rely_same σ W h e a ph y = grind arith

inv_refused : {σ : Setting} {W : World} {f : ℕ → Seat} {h : History} (c : Call) (r : Refusal) → Inv σ W f h → Inv σ W f (refused c r ∷ h)
inv_refused {σ} {W} {f} {h} c r ι =
    let e = refused c r in
    let u = untouched_refused σ.start c r h in
    let n = ι.nodes in
    record {
      nodes = record {
        room = n.room;
        below = n.below;
        latched = n.latched;
        same = n.same;
        sound = n.sound;
        coded = n.coded;
        answers = λ p q k. tells_same σ.order (plain_map σ.start h) (plain_map σ.start (e ∷ h)) q (W.tree p) (cond-false _ _ _ (not_published c r)) (n.answers p q k);
      };
      seats = λ t. lasts {a = suc t} (λ z. omega arith) (λ o q p. odd_any o q (sym (u o).holds_same ∙ p)) (u t) (f t).phase (f t) (rely_same σ W h e (suc t) (f t).phase (f t)) (ι.seats t);
      held_by = λ t. (u t).holds_same ∙ ι.held_by t;
      apart = ι.apart;
      owes = ι.owes;
      sizes = ι.sizes;
    }
  where
    odd_any : (o q : ℕ) → holds h o ≡ Some q → lock W.cells q % 2 ≡ 1
    odd_any = odd_now ι 0 (omega arith)

module _ (σ : Setting) (iskey : ℕ → Bool) (keyed : (k : ℕ) → iskey k ≡ true → k ≤ σ.top → T.Key σ.order k)
    (m : List ℕ) (c : ℕ) (ss : List Seat) (w : ℕ → ℕ → ℕ) (g : ℕ → T.Place) (h : History) (ι : Inv σ (world m c w g) (seat_at ss) h) (eight : length ss ≡ 8) where
  abbrev st : State
  st = norm σ iskey m c ss

  refuse : (call : Call) (r : Refusal) → Kept σ iskey h call (Err r, norm σ iskey m c ss)
  refuse call r =
      record {
        cells = m;
        count = c;
        seats = ss;
        words = w;
        tree = g;
        is = refl;
        inv = inv_refused call r ι;
        eight = eight;
        laws = λ s. with_abandon σ.start h (refused call r) s (laws_unstepped σ.start h (refused call r) s (and_right (steps call s) (accepted (refused call r)) (not_accepted call r)))
            (λ t. absurd (rw (and_right (leaves_off call s) (accepted (refused call r)) (not_accepted call r)) at t));
      }

  -- another seat i in the table
  here : (i : ℕ) (x : Seat) → i < 8 → seat_at (set ss i x) i ≡ x
  here i x b = get_or-set_same ss i x _ (omega arith)

  other : (i : ℕ) (x : Seat) (t : ℕ) → t ≢ i → seat_at (set ss i x) t ≡ seat_at ss t
  other i x t d = get_or-set_other ss i t x _ d

  module _ (i : ℕ) (b8 : i < 8) where
    called_kept : (call : Call) (r : Report) (x' : Seat) (m' : List ℕ) (c' : ℕ) (w' : ℕ → ℕ → ℕ) (g' : ℕ → T.Place) → Good σ (world m c w g) (world m' c' w' g') (seat_at ss) h (answer_of call r) i x'
        → seat_of call ≡ i → ((s : ℕ) → LawsAt σ.start h (answer_of call r) s) → Kept σ iskey h call (Ok r, norm σ iskey m' c' (set ss i x'))
    called_kept call r x' m' c' w' g' G whose laws =
        record {
          cells = m';
          count = c';
          seats = set ss i x';
          words = w';
          tree = g';
          is = refl;
          inv = next ι G whose (seat_at (set ss i x')) (here i x' b8) (other i x');
          eight = length-set ss i x' ∙ eight;
          laws = laws;
        }

    stepped_kept : (m' : List ℕ) (z : Seat × ℕ × Report) → Stepped σ (world m c w g) (seat_at ss) h i m' z.0 z.1 z.2
        → Kept σ iskey h (Step i) (Ok z.2, norm σ iskey m' z.1 (set ss i z.0))
    stepped_kept m' z t =
        called_kept (Step i) z.2 z.0 m' z.1 t.words t.tree t.good refl (λ s. with_abandon σ.start h (answer_of (Step i) z.2) s (elim (cases_eq s i) [
          | inl y ↦ rw y t.laws
          | inr d ↦ laws_unstepped σ.start h (answer_of (Step i) z.2) s (and_left (eqb s i) (accepted (answer_of (Step i) z.2)) (ne_eqb s i d))
        ]) (λ t. absurd t))

    abbrev x : Seat
    x = seat_at ss i

    abbrev X : Extent
    X = record { fan = σ.fan; top = σ.top; nodes = length m / 32 }

    moved_kept : (a : Option Access) (m' : List ℕ) (z : Seat × ℕ × Report) → leaves m σ.top a ≡ m' → Stepped σ (world m c w g) (seat_at ss) h i m' z.0 z.1 z.2
        → Kept σ iskey h (Step i) (moved (norm σ iskey m c ss) i a z)
    moved_kept a m' z e t = subst (λ (l : List ℕ). Kept σ iskey h (Step i) (Ok z.2, norm σ iskey l z.1 (set ss i z.0))) (sym e) (stepped_kept m' z t)

    -- a step with its access and its advance apart
    abbrev answered_with : Option Access → (ℕ → Seat × ℕ × Report) → Result ℕ Fault → Result Report Refusal × State
    answered_with a v (Err f) = (Err (of_fault f), norm σ iskey m c ss)
    answered_with a v (Ok y) = moved (norm σ iskey m c ss) i a (v y)

    abbrev step_with : Result (Option Access) Refusal → (ℕ → Seat × ℕ × Report) → Result Report Refusal × State
    step_with (Err r) v = (Err r, norm σ iskey m c ss)
    step_with (Ok a) v = answered_with a v (answers m σ.top a)

    answered_same : (a : Option Access) (r : Result ℕ Fault) → answered_with a (advance σ.order.before X x c) r ≡ answered_by (norm σ iskey m c ss) i a r
    answered_same a r = grind arith

    step_same : (d : Result (Option Access) Refusal) → step_with d (advance σ.order.before X x c) ≡ step_by (norm σ iskey m c ss) i d
    step_same d = grind arith

    -- an access to a cell that the memory has, and a write of a word that it takes
    reaches : (a : Option Access) (cell : ℕ) (v : ℕ → Seat × ℕ × Report) (r : Result ℕ Fault) (f : Fault) → Kept σ iskey h (Step i) (answered_with a v r)
        → Kept σ iskey h (Step i) (answered_with a v (cond (ltb cell (length m)) r (Err f)))
    reaches a cell v r f k = cond_both (ltb cell (length m)) _ _ (λ r. Kept σ iskey h (Step i) (answered_with a v r)) (λ _. k) (λ _. refuse (Step i) _)

    writes : (a : Option Access) (cell y old : ℕ) (v : ℕ → Seat × ℕ × Report) → (ltb σ.top y ≡ false → Kept σ iskey h (Step i) (moved (norm σ iskey m c ss) i a (v old)))
        → Kept σ iskey h (Step i) (answered_with a v (guarded m σ.top cell y old))
    writes a cell y old v k =
        reaches a cell v _ _ (cond_both (ltb σ.top y) _ _ (λ r. Kept σ iskey h (Step i) (answered_with a v r)) (λ _. refuse (Step i) _) k)

    reads : (q j : ℕ) (v : ℕ → Seat × ℕ × Report)
        → ((y : ℕ) → y ≡ word m q j → Stepped σ (world m c w g) (seat_at ss) h i m (v y).0 (v y).1 (v y).2)
        → Kept σ iskey h (Step i) (answered_with (Some (access.Read (cell_of q j))) v (read_at m (cell_of q j)))
    reads q j v k =
        reaches (Some (access.Read (cell_of q j))) (cell_of q j) v _ _
        (moved_kept (Some (access.Read (cell_of q j))) m (v (get_or m (cell_of q j) 0)) refl (k (get_or m (cell_of q j) 0) (word_is m q j)))

    stores : (q j y : ℕ) (v : ℕ → Seat × ℕ × Report)
        → Stepped σ (world m c w g) (seat_at ss) h i (put m q j y) (v 0).0 (v 0).1 (v 0).2
        → Kept σ iskey h (Step i) (answered_with (Some (access.Write (cell_of q j) y)) v (guarded m σ.top (cell_of q j) y 0))
    stores q j y v k =
        let a = Some (access.Write (cell_of q j) y) in
        writes a (cell_of q j) y 0 v (λ b. moved_kept a (put m q j y) (v 0) (cond-false (ltb σ.top y) _ _ b ∙ put_is m q j y) k)

    -- the latch step
    module _ (e : x.phase ≡ phase.Latch) (k : SeatIn σ (world m c w g) h i phase.Latch x) where
      abbrev adv : ℕ → Seat × ℕ × Report
      adv y = advance_at σ.order.before X phase.Latch x c y

      swaps : worn X x ≡ false → Kept σ iskey h (Step i) (answered_with (Some (access.Swap (cell_of x.node 0) (version x) (version x + 1))) adv
          (guarded m σ.top (cell_of x.node 0) (version x + 1) (get_or m (cell_of x.node 0) 0)))
      swaps n =
          let a = Some (access.Swap (cell_of x.node 0) (version x) (version x + 1)) in
          let y = get_or m (cell_of x.node 0) 0 in
          let yl : y ≡ lock m x.node = word_is m x.node 0 in
          let P : Seat × Report → Type 0 = λ z. Kept σ iskey h (Step i) (moved (norm σ iskey m c ss) i a (steady c z)) in
          writes a (cell_of x.node 0) (version x + 1) y adv
          (λ b. cond_both (worn X x) _ _ P
          (λ t. absurd (true≢false (sym t ∙ n)))
          (λ _. cond_both (eqb y (version x)) _ _ P
          (λ z. moved_kept a (put m x.node 0 (version x + 1)) _ (cond-true (eqb y (version x)) _ _ z ∙ cond-false (ltb σ.top (version x + 1)) _ _ b ∙ put_is m x.node 0 (version x + 1))
          (wins ι i b8 e k (sym yl ∙ eqb-true y (version x) z) (ltb-false σ.top (version x + 2) n)))
          (λ z. moved_kept a m _ (cond-false (eqb y (version x)) _ _ z) (lost ι i b8 e k (λ q. eqb-false y (version x) z (yl ∙ q))))))

      wears_out : worn X x ≡ true → Kept σ iskey h (Step i) (moved (norm σ iskey m c ss) i None (adv 0))
      wears_out t =
          cond_both (worn X x) _ _ (λ (z : Seat × Report). Kept σ iskey h (Step i) (moved (norm σ iskey m c ss) i None (steady c z)))
          (λ _. moved_kept None m _ refl (wears ι i b8 e k (ltb-true σ.top (version x + 2) t)))
          (λ n. absurd (true≢false (sym t ∙ n)))

      latch_kept : Kept σ iskey h (Step i) (step_with (Ok (access_at X phase.Latch x)) adv)
      latch_kept =
          cond_both (worn X x) None (Some (access.Swap (cell_of x.node 0) (version x) (version x + 1))) (λ a. Kept σ iskey h (Step i) (answered_with a adv (answers m σ.top a)))
          wears_out swaps

    take_kept : x.phase ≡ phase.Take → SeatIn σ (world m c w g) h i phase.Take x → Kept σ iskey h (Step i) (moved (norm σ iskey m c ss) i None (takes X x c))
    take_kept e k =
        cond_both (fits X x c) _ _ (λ z. Kept σ iskey h (Step i) (moved (norm σ iskey m c ss) i None z))
        (λ t. moved_kept None m _ refl (takes_nodes ι i b8 e k (omega (arith, room t))))
        (λ _. moved_kept None m _ refl (gives_up ι i b8 e k))
      where
        room : fits X x c ≡ true → c + needed x ≤ length m / 32
        room = cond_both (ltb (length m / 32) (c + needed x)) false _ (λ y. y ≡ true → c + needed x ≤ length m / 32) (λ _ z. absurd (true≢false (sym z))) (λ b _. ltb-false (length m / 32) (c + needed x) b)

    step_in : (ph : Phase) → x.phase ≡ ph → SeatIn σ (world m c w g) h i ph x → Kept σ iskey h (Step i) (step_with (due_in ph (access_at X ph x)) (advance_at σ.order.before X ph x c))
    step_in phase.Idle e k = refuse (Step i) _
    step_in phase.Look e k = reads x.node 0 _ (λ y q. look ι i b8 e k y q)
    step_in (phase.Copy j) e k = reads x.node j _ (λ y q. copy ι i b8 j e k y q)
    step_in phase.Check e k =
        let a = Some (access.Read (cell_of x.node 0)) in
        reaches a (cell_of x.node 0) _ _ _
        (check ι i b8 e k (get_or m (cell_of x.node 0) 0) (word_is m x.node 0) (λ z. Kept σ iskey h (Step i) (moved (norm σ iskey m c ss) i a z))
        (λ y r t. moved_kept a m (y, c, r) refl t))
    step_in phase.Latch e k = latch_kept e k
    step_in phase.Take e k = take_kept e k
    step_in (phase.Fill p j) e k = stores (part_node p x) j (fill_word σ.fan x p j) _ (fills ι i b8 p j e k)
    step_in phase.Release e k = stores x.node 0 x.draft.freeing _ (by_operation ι i b8 e k x.operation refl)
    step_in phase.Undo e k = stores x.node 0 x.draft.freeing _ (undoes ι i b8 e k)
    step_in (phase.End r) e k = moved_kept None m _ refl (end ι i b8 r e k)

    step_accepted : Kept σ iskey h (Step i) (step_by (norm σ iskey m c ss) i (due_in x.phase (access_of X x)))
    step_accepted = subst (Kept σ iskey h (Step i)) (step_same (due_in x.phase (access_of X x))) (step_in x.phase refl (ι.seats i))

    -- a seat is freed
    freed_kept : (p : Bool) → holding x ≡ None → PublishedAs σ.start h i p → Kept σ iskey h (Abandon i) (Ok (Abandoned p), with_seat (norm σ iskey m c ss) i (in_phase x phase.Idle))
    freed_kept p none published =
        let e = answer_of (Abandon i) (Abandoned p) in
        let x' = in_phase x phase.Idle in
        let G = good_calm ι e i x' (sym none) (λ q z. absurd z) (λ d z. absurd (none-some d z)) (λ q. quiet p q) tt refl (λ _. ι.sizes i b8) in
        called_kept (Abandon i) (Abandoned p) x' m c w g G refl (λ s. with_abandon σ.start h e s (laws_unstepped σ.start h e s refl) (abandon_law σ.start h i p published s))
      where
        quiet : (p : Bool) (q : ℕ) → plain_map σ.start (answer_of (Abandon i) (Abandoned p) ∷ h) q ≡ plain_map σ.start h q
        quiet true q = refl
        quiet false q = refl

    underway : Doing σ (world m c w g) h i x → PublishedAs σ.start h i (is_post x.operation)
    underway d = begun_published σ.start h i x.operation x.key d.begins

    abandon_in : (ph : Phase) → x.phase ≡ ph → SeatIn σ (world m c w g) h i ph x → Kept σ iskey h (Abandon i) (abandoned (norm σ iskey m c ss) i (abandon_answer ph x.operation))
    abandon_in phase.Look e k = freed_kept _ (rw e refl) (underway k.0)
    abandon_in (phase.Copy j) e k = freed_kept _ (rw e refl) (underway k.0)
    abandon_in phase.Check e k = freed_kept _ (rw e refl) (underway k.0)
    abandon_in phase.Latch e k = freed_kept _ (rw e refl) (underway k.0)
    abandon_in (phase.End r) e k = freed_kept _ (rw e refl) (ended_published σ.start h i r k.0)
    abandon_in ph e k = refuse (Abandon i) _

  -- the index is formatted and has the seat, or the call is refused
  gated : {A : Type 0} (P : A → Type 0) (i : ℕ) (u v y : A) → P u → P v → (i < 8 → P y) → P (cond (eqb σ.fan 0) u (cond (ltb i 8) y v))
  gated P i u v y a b k = cond_both (eqb σ.fan 0) _ _ P (λ _. a) (λ _. cond_both (ltb i 8) _ _ P (λ l. k (ltb-true i 8 l)) (λ _. b))

  step_kept : (i : ℕ) → Kept σ iskey h (Step i) (step (norm σ iskey m c ss) i)
  step_kept i = gated (λ d. Kept σ iskey h (Step i) (step_by (norm σ iskey m c ss) i d)) i _ _ _ (refuse (Step i) _) (refuse (Step i) _) (step_accepted i)

  abandon_kept : (i : ℕ) → Kept σ iskey h (Abandon i) (abandon (norm σ iskey m c ss) i)
  abandon_kept i = gated (Kept σ iskey h (Abandon i)) i _ _ _ (refuse (Abandon i) _) (refuse (Abandon i) _) (λ b. abandon_in i b (seat_at ss i).phase refl (ι.seats i))

  -- a seat begins
  module _ (call : Call) (i k : ℕ) (t : Operation) (b : Begun) (whose : seat_of call ≡ i) (laws : (s : ℕ) → LawsAt σ.start h (answer_of call (GoneOn 0)) s) (free : post_of t ≡ None)
      (R : Restarted σ.start (answer_of call (GoneOn 0)) h i b) (bg : Begins σ.start (answer_of call (GoneOn 0) ∷ h) i t k) where
    begins_kept : i < 8 → is_idle (seat_at ss i).phase ≡ true → (ltb σ.top k || ltb σ.top (value_of t)) ≡ false → iskey k ≡ true
        → Kept σ iskey h call (Ok (GoneOn 0), with_seat (norm σ iskey m c ss) i (starting_out (seat_at ss i) k t))
    begins_kept b8 idle low key =
        let x' = starting_out (seat_at ss i) k t in
        let none : holding (seat_at ss i) ≡ None = rw (idle_is (seat_at ss i).phase idle) refl in
        let seat0 = ((tree_stands σ.order).seats_start g ι.nodes.sound).0 k (keyed k key (ltb-false σ.top k (or_parts (ltb σ.top k) (ltb σ.top (value_of t)) low).0)) in
        let G = good_calm ι (answer_of call (GoneOn 0)) i x' (sym none) (λ q z. absurd z) (λ d z. absurd (none-some d (sym free ∙ z))) (λ _. refl)
        (record { seated = rw free seat0; begins = bg }, rw R.place_is refl, rw R.place_is refl) R.holds_same (λ _. ι.sizes i b8) in
        called_kept i b8 call (GoneOn 0) x' m c w g G whose laws

    begin_kept : Kept σ iskey h call (begin (norm σ iskey m c ss) i k t)
    begin_kept =
        let P : Result Report Refusal × State → Type 0 = Kept σ iskey h call in
        gated P i _ _ _ (refuse call _) (refuse call _)
        (λ b8. cond_both (is_idle (seat_at ss i).phase) _ _ P
        (λ idle. cond_both (ltb σ.top k || ltb σ.top (value_of t)) _ _ P (λ _. refuse call _)
        (λ low. cond_both (iskey k) _ _ P (begins_kept b8 idle low) (λ _. refuse call _)))
        (λ _. refuse call _))

  format_kept : (fan : ℕ) → Kept σ iskey h (Format fan) (format (norm σ iskey m c ss) fan)
  format_kept fan =
      cond_both (eqb σ.fan 0) _ _ (Kept σ iskey h (Format fan)) (λ z. absurd (omega (arith, eqb-true σ.fan 0 z, σ.least))) (λ _. refuse (Format fan) _)

  begin_laws : (e : Event) (s : ℕ) → stepped e s ≡ false → left_off e s ≡ false → LawsAt σ.start h e s
  begin_laws e s a b = with_abandon σ.start h e s (laws_unstepped σ.start h e s a) (λ t. absurd (rw b at t))

  pub act_kept : (call : Call) → Kept σ iskey h call (act call (norm σ iskey m c ss))
  act_kept (Format fan) = format_kept fan
  act_kept (BeginFind i k) =
      let R = restarted_find σ.start h i k in
      begin_kept (BeginFind i k) i k operation.Find (finding k) refl (λ s. begin_laws (answer_of (BeginFind i k) (GoneOn 0)) s refl refl) refl R (R.begun_is, R.publishings_is)
  act_kept (BeginPut i k v) =
      let R = restarted_put σ.start h i k v in
      begin_kept (BeginPut i k v) i k (operation.Put v) (putting k v) refl (λ s. begin_laws (answer_of (BeginPut i k v) (GoneOn 0)) s refl refl) refl R (R.begun_is, R.publishings_is)
  act_kept (Step i) = step_kept i
  act_kept (Abandon i) = abandon_kept i
