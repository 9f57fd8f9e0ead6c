-- A release, whatever update of the tree it makes: the written nodes become content, and the other seats' facts last.
use Rattle.std.proofs.Common.{◌≡◌, ℕ, ◌%◌, ◌<◌, Bool, cond, ◌&&◌, ◌||◌, eqb, ◌≢◌, ◌⊎◌, List, ◌∷◌, length, Some, None, Decides, Option, sym, refl, ap, ◌∙◌, inl, inr, ⊎_elim, arith}
use Rattle.std.proofs.lemmas.Bool.{cases_eq, cases_Bool, cond-true, cond-false, false_from_ne_true}
use Rattle.std.proofs.lemmas.Bool.Decides.{not_from_Decides}
use Rattle.std.proofs.lemmas.Option.{same_Some}
use Rattle.tree.specs.Tree as T
use Rattle.tree.specs.Updates as U
use Rattle.tree.proofs.Stands.{tree_stands}
use Rattle.rules.specs.Steps.{is_root, splits}
use Rattle.rules.specs.Histories.{History, Step}
use Rattle.rules.specs.PlainMap.{plain_map}
use Rattle.rules.specs.Latches.{holds}
use Rattle.rules.specs.declared.seat.Part.TheVariants.{Left, Right}
use Rattle.rules.specs.declared.seat.Phase.TheVariants as phase
use Rattle.rules.specs.declared.report.Report.{Report}
use Rattle.rules.specs.declared.seat.Seat.{Seat}
use Rattle.rules.proofs.Cells.{word, put, lock, length_put}
use Rattle.rules.proofs.Events.{answer_of}
use Rattle.rules.proofs.Inv.{Setting, World, Linked, Open, Fresh, SeatIn, Coded, Inv}
use Rattle.rules.proofs.Rely.{Rely, doing_open}
use Rattle.rules.proofs.Good.{holding, owed, Mine, Good}
use Rattle.rules.proofs.Writers.{mine_below, in_cells, SetLock, set_lock}

-- the nodes that a release makes content of: the latched one, and those that the seat took; as a fact and as a test
abbrev pub Ours : ℕ → Seat → ℕ → Type 0
Ours fan x q = (q ≡ x.node) ⊎ Fresh fan x q

abbrev pub ours : ℕ → Seat → ℕ → Bool
ours fan x q = eqb q x.node || (splits fan x.draft && (eqb q x.draft.right || (is_root x && eqb q x.draft.left)))

module _ (fan : ℕ) (x : Seat) (q : ℕ) where
  decides : Decides (ours fan x q) (Ours fan x q)
  decides = grind arith

  decide : Ours fan x q ⊎ ¬ (Ours fan x q)
  decide = elim (cases_Bool (ours fan x q)) [ inl e ↦ inl (decides.0 e) | inr e ↦ inr (not_from_Decides (ours fan x q) decides e) ]

-- what the nodes hold after the release
abbrev pub written : ℕ → World → Seat → ℕ → ℕ → ℕ
written fan W x q i = cond (ours fan x q) (word W.cells q i) (W.words q i)

coded_same : (σ : Setting) (W W' : World) (w u : ℕ → ℕ) (p : T.Place) → ((i : ℕ) → 0 < i → i < 32 → u i ≡ w i) → Coded σ W w p → Coded σ W' u p
coded_same σ W W' w u p e z = grind arith

-- an update of the tree that touches only those nodes, whose words encode it
pub record Update (σ : Setting) (W : World) (x : Seat) (tree : ℕ → T.Place) (settled : Option ℕ) (told : ℕ → Option ℕ) : Type 0 where
  pub kept : U.Kept σ.order W.tree tree settled
  pub outside : (q : ℕ) → ¬ (Ours σ.fan x q) → tree q ≡ W.tree q
  pub inside : (q : ℕ) → Ours σ.fan x q → Coded σ W (λ i. word W.cells q i) (tree q)
  pub linked : Linked (tree x.node)
  pub answers : T.Answers σ.order tree told

module _ {σ : Setting} {W : World} {f : ℕ → Seat} {h : History} (ι : Inv σ W f h) (s : ℕ) (b8 : s < 8) (e : (f s).phase ≡ phase.Release) (k : SeatIn σ W h s phase.Release (f s))
    (tree : ℕ → T.Place) (settled : Option ℕ) (r : Report) (u : Update σ W (f s) tree settled (plain_map σ.start (answer_of (Step s) r ∷ h))) where
  abbrev m' : List ℕ
  m' = put W.cells (f s).node 0 (f s).draft.freeing

  abbrev W' : World
  W' = record { cells = put W.cells (f s).node 0 (f s).draft.freeing; count = W.count; words = written σ.fan W (f s); tree = tree }

  lk : SetLock W.cells m' (f s).node (f s).draft.freeing
  lk = set_lock W.cells (f s).node (f s).draft.freeing (omega (arith, in_cells ι s b8 (f s).node (ι.nodes.below (f s).node (doing_open k.0))))

  mine_r : (q : ℕ) → Ours σ.fan (f s) q → Mine σ.fan (f s) q
  mine_r q z = rw e z

  -- a taken node's lock word is 0
  fresh_lock : (q : ℕ) → Fresh σ.fan (f s) q → lock W.cells q ≡ 0
  fresh_lock q z = elim z.1 [ inl y ↦ rw y (k.4 Right z.0 0 (omega arith) (omega arith)) | inr y ↦ rw y.1 (k.4 Left (z.0, y.0) 0 (omega arith) (omega arith)) ]

  words_ours : (q i : ℕ) → Ours σ.fan (f s) q → written σ.fan W (f s) q i ≡ word W.cells q i
  words_ours q i z = cond-true (ours σ.fan (f s) q) _ _ ((decides σ.fan (f s) q).1 z)

  words_other : (q i : ℕ) → ¬ (Ours σ.fan (f s) q) → written σ.fan W (f s) q i ≡ W.words q i
  words_other q i z = cond-false (ours σ.fan (f s) q) _ _ (false_from_ne_true (ours σ.fan (f s) q) (λ e. z ((decides σ.fan (f s) q).0 e)))

  not_fresh : (q : ℕ) → Open W q → q ≢ (f s).node → ¬ (Ours σ.fan (f s) q)
  not_fresh q o d z = ⊎_elim d (λ y. k.3.hidden q y o) z

  others_not : (t : ℕ) → t ≢ s → (q : ℕ) → Mine σ.fan (f t) q → ¬ (Ours σ.fan (f s) q)
  others_not t d q m z = ι.apart s t d q (mine_r q z) m

  own_held : holding (f s) ≡ Some (f s).node
  own_held = rw e refl

  rely_r : ((t : ℕ) → t ≢ s → (d : ℕ) → owed (f t) ≡ Some d → settled ≡ Some d → ⊥) → (t : ℕ) → t ≢ s → Rely σ W W' h (answer_of (Step s) r) s (f t).phase (f t)
  rely_r free t d =
      let n = (f s).node in
      let a = k.1 in
      record {
        more = omega arith;
        opens = λ q o. elim (cases_eq q n) [ inl z ↦ rw z u.linked | inr z ↦ rw (u.outside q (not_fresh q o z)) o ];
        closed = λ q m c. rw (u.outside q (others_not t d q m)) c;
        up = λ q o. elim (cases_eq q n) [ inl z ↦ rw (z, lk.here) (omega (arith, a.mine, a.planned.frees)) | inr z ↦ omega (arith, lk.other q z) ];
        rise = λ q o z y. elim (cases_eq q n) [ inl w ↦ absurd (omega (arith, a.mine, a.even, ap (lock W.cells) w)) | inr w ↦ absurd (y (lk.other q w)) ];
        same = λ q o z i.
            let w : q ≢ n = λ y. (let z' : lock m' n ≡ lock W.cells n = rw y at z in omega (arith, lk.here, a.mine, a.planned.frees)) in
            words_other q i (not_fresh q o w);
        own = λ q i m b. lk.far q i (λ z. others_not t d q m (inl z)) b;
        stays = λ post y aim p c z. (tree_stands σ.order).seats_stay W.tree tree settled u.kept post y aim p (λ v a b. free t d v (c v a) b) z;
      }

  pub released_good : (x' : Seat) → holds (answer_of (Step s) r ∷ h) s ≡ None → holding x' ≡ None → ((q : ℕ) → Mine σ.fan x' q → ⊥)
      → ((t : ℕ) → t ≢ s → (d : ℕ) → owed (f t) ≡ Some d → settled ≡ Some d → ⊥)
      → ((t : ℕ) → t ≢ s → (d : ℕ) → owed x' ≡ Some d → owed (f t) ≡ Some d → ⊥)
      → SeatIn σ W' (answer_of (Step s) r ∷ h) s x'.phase x' → length x'.copy ≡ 32
      → Good σ W W' f h (answer_of (Step s) r) s x'
  released_good x' gone none empty free owes seat size =
      let n = (f s).node in
      let a = k.1 in
      record {
        room = omega (arith, ι.nodes.room, length_put W.cells n 0 (f s).draft.freeing);
        below = λ q o. elim (decide σ.fan (f s) q) [
          | inl z ↦ mine_below σ W h s (f s).phase (f s) q ι.nodes.below (ι.seats s) (mine_r q z)
          | inr z ↦ ι.nodes.below q (rw (u.outside q z) at o)
        ];
        latched = λ q o z. elim (decide σ.fan (f s) q) [
          | inl (inl y) ↦ absurd (let z' : lock m' n % 2 ≡ 1 = rw y at z in omega (arith, lk.here, a.planned.frees, a.even))
          | inl (inr y) ↦
              absurd (let d : q ≢ n = λ w. k.3.hidden q y (rw w (doing_open k.0)) in
              omega (arith, lk.other q d, fresh_lock q y))
          | inr y ↦
              (let d : q ≢ n = λ w. y (inl w) in
              let t = ι.nodes.latched q (rw (u.outside q y) at o) (rw (lk.other q d) at z) in
              inr (t.0, λ (w : t.0 ≡ s). d (sym (same_Some n q (sym own_held ∙ rw w at t.1))), t.1))
        ];
        same = λ q o z i b c. lk.rest q i b c ∙ (elim (decide σ.fan (f s) q) [
          | inl y ↦ sym (words_ours q i y)
          | inr y ↦ ι.nodes.same q (rw (u.outside q y) at o) (rw (lk.other q (λ w. y (inl w))) at z) i b c ∙ sym (words_other q i y)
        ]);
        sound = u.kept.sound;
        coded = λ q. elim (decide σ.fan (f s) q) [
          | inl y ↦ coded_same σ W W' (λ i. word W.cells q i) (written σ.fan W (f s) q) (tree q) (λ i _ _. words_ours q i y) (u.inside q y)
          | inr y ↦ coded_same σ W W' (W.words q) (written σ.fan W (f s) q) (tree q) (λ i _ _. words_other q i y) (rw (u.outside q y) (ι.nodes.coded q))
        ];
        answers = u.answers;
        mine = seat;
        held_now = gone ∙ sym none;
        others = rely_r free;
        apart = λ t d q z _. empty q z;
        owes = owes;
        size = λ _. size;
      }
