-- A deed is what an operation does to the tree at its release. Each has three shapes: in place, a split, and a split of the root.
use Rattle.std.proofs.Common.{◌≡◌, ℕ, suc, ◌+◌, ◌-◌, ◌^◌, ◌<◌, ◌≤◌, true, false, cond, ltb, ◌≢◌, List, [], ◌∷◌, length, take, drop, Some, None, Option, sym, refl, ap, ◌∙◌, inl, inr, arith, length-drop, length-take}
use Rattle.std.proofs.lemmas.Bool.{cond_both, cond-true, cond-false, eqb-true, eqb-false, ltb-true, ltb-false}
use Rattle.std.proofs.lemmas.Option.{none-some}
use Rattle.std.proofs.lemmas.List.{length-map, take-map, drop-map}
use Rattle.tree.specs.Node as N
use Rattle.tree.specs.Tree as T
use Rattle.tree.specs.Updates as U
use Rattle.tree.proofs.Stands.{tree_stands}
use Rattle.rules.specs.Nodes.{entry, level, link, high, node_word}
use Rattle.rules.specs.Seats.{in_phase, posting, drafted, left_entries, right_entries}
use Rattle.rules.specs.Steps.{is_root, splits, left_count, part_node, fill_word, content, posted_key, posts_on}
use Rattle.rules.specs.Histories.{History, Step}
use Rattle.rules.specs.Events.{begun, putting}
use Rattle.rules.specs.PlainMap.{publishings, plain_map}
use Rattle.rules.specs.Latches.{holds, place, released}
use Rattle.rules.specs.declared.seat.Entry.{Entry}
use Rattle.rules.specs.declared.report.Outcome.{Outcome}
use Rattle.rules.specs.declared.report.Outcome.TheVariants as outcome
use Rattle.rules.specs.declared.seat.Part.{Part}
use Rattle.rules.specs.declared.seat.Part.TheVariants.{Left, Right, Own}
use Rattle.rules.specs.declared.seat.Phase.{Phase}
use Rattle.rules.specs.declared.seat.Phase.TheVariants as phase
use Rattle.rules.specs.declared.report.Report.{Report}
use Rattle.rules.specs.declared.seat.Seat.{Seat}
use Rattle.rules.proofs.Basics.{both}
use Rattle.rules.proofs.Cells.{word, put}
use Rattle.rules.proofs.Entries.{as_entry, row, last_is}
use Rattle.rules.proofs.Words.{encodes_same, encodes_as}
use Rattle.rules.proofs.Events.{answer_of}
use Rattle.rules.proofs.Inv.{Setting, World, Linked, Open, owed_in, Uses, first, Paid, SeatIn, Coded, Inv}
use Rattle.rules.proofs.Rely.{doing_open}
use Rattle.rules.proofs.Good.{owed, StepLaws}
use Rattle.rules.proofs.Steps.{Stepped, Seen, seen}
use Rattle.rules.proofs.Releasing.{written, Update, released_good}

-- a seat after its release
abbrev pub after_release : ℕ → Seat → Seat
after_release fan x = cond (splits fan x.draft) (cond (is_root x) (in_phase x (phase.End x.draft.outcome)) (posts_on x)) (in_phase x (phase.End x.draft.outcome))

-- a node that a seat posts is linked
pub owed_open : (σ : Setting) (W : World) (h : History) (s : ℕ) (ph : Phase) (x : Seat) (d : ℕ) → SeatIn σ W h s ph x → owed_in ph x.operation ≡ Some d → Open W d
owed_open σ W h s ph x d k e = grind arith

not_linked : (p : T.Place) → ¬ (Linked p) → p ≡ T.free
not_linked p z = grind arith

module _ {σ : Setting} {W : World} {f : ℕ → Seat} {h : History} (ι : Inv σ W f h) (s : ℕ) (b8 : s < 8) (e : (f s).phase ≡ phase.Release) (k : SeatIn σ W h s phase.Release (f s)) where
  pub shown : Seen σ W (f s)
  shown = seen ι s b8 (f s) (doing_open k.0) (ι.sizes s b8) k.1.kept

  -- the new entries, and that each shape of the update keeps the tree and gives the map after the report `r`; the put ends, or is posted,
  -- as it was published
  pub record Deed (r : Report) : Type 0 where
    pub rows : List N.Entry
    pub rows_are : row (content σ.order.before (f s)) ≡ rows
    pub few : length (content σ.order.before (f s)) ≤ suc σ.fan
    pub settled : Option ℕ
    pub rewrites : (g : ℕ → T.Place) → U.Rewrites σ.order W.tree g (f s).node shown.node_is rows shown.from shown.to
        → U.Kept σ.order W.tree g settled × T.Answers σ.order g (plain_map σ.start (answer_of (Step s) r ∷ h))
    pub overflows : (g : ℕ → T.Place) (d i : ℕ) → U.Overflows σ.order W.tree g (f s).node d i shown.node_is rows shown.from shown.to
        → U.Kept σ.order W.tree g settled × T.Pending σ.order g shown.node_is.level (N.last_key (take i rows)) d × T.Answers σ.order g (plain_map σ.start (answer_of (Step s) r ∷ h))
    pub grows : (f s).node ≡ 0 → (g : ℕ → T.Place) (d c i : ℕ) → U.Grows σ.order W.tree g d c i shown.node_is rows shown.from shown.to
        → U.Kept σ.order W.tree g settled × T.Answers σ.order g (plain_map σ.start (answer_of (Step s) r ∷ h))
    pub free : (t : ℕ) → t ≢ s → (d : ℕ) → owed (f t) ≡ Some d → settled ≡ Some d → ⊥
    pub gone : holds (answer_of (Step s) r ∷ h) s ≡ None
    pub now : place (answer_of (Step s) r ∷ h) s ≡ released
    pub ended : Paid σ.start (answer_of (Step s) r ∷ h) s (f s).draft.outcome
    pub was_new : splits σ.fan (f s).draft ≡ true → ((q : ℕ) × (v : ℕ) × (begun (answer_of (Step s) r ∷ h) s ≡ putting q v)) × (publishings σ.start (answer_of (Step s) r ∷ h) s ≡ None ∷ [])
    pub laws : StepLaws σ.start h (answer_of (Step s) r) s

  module _ (r : Report) (D : Deed r) where
    row_drafted : row (drafted (f s).draft) ≡ D.rows
    row_drafted = ap row k.1.planned.rows_are ∙ D.rows_are

    length_rows : length D.rows ≡ (f s).draft.len
    length_rows = ap length (sym D.rows_are) ∙ length-map (content σ.order.before (f s)) as_entry ∙ sym k.1.planned.len_is

    length_drafted : length (drafted (f s).draft) ≡ (f s).draft.len
    length_drafted = ap length k.1.planned.rows_are ∙ sym k.1.planned.len_is

    level_y : level (f s).copy ≡ shown.node_is.level
    level_y = shown.shown.level_is

    codes : (q : ℕ) (p : Part) (y : N.Node) (a b : ℕ) (l i g : ℕ) (es : List Entry) → q ≡ part_node p (f s) → Uses σ.fan (f s) p → ((w : ℕ) → fill_word σ.fan (f s) p w ≡ node_word l i g es w)
        → length es ≤ σ.fan → l ≡ y.level → i ≡ y.link → g ≡ y.high → row es ≡ y.entries → Coded σ W (λ j. word W.cells q j) (T.held y a b)
    codes q p y a b l i g es at u is few x1 x2 x3 x4 = (
      encodes_same (node_word l i g es) (λ j. word W.cells q j) y (λ j c d. rw at (k.4 p u j (low p c) d) ∙ is j) (encodes_as l i g es y (omega (arith, σ.most)) x1 x2 x3 x4),
      rw (sym x4) (rw length-map few),
    )
      where
        low : {j : ℕ} (p : Part) → 0 < j → first p ≤ j
        low Own c = c
        low p c = omega arith

    module _ (g : ℕ → T.Place) (u : Update σ W (f s) g D.settled (plain_map σ.start (answer_of (Step s) r ∷ h))) where
      -- the put ends
      ends : (o : Outcome) → Paid σ.start (answer_of (Step s) r ∷ h) s o → Stepped σ W f h s (put W.cells (f s).node 0 (f s).draft.freeing) (in_phase (f s) (phase.End o)) W.count r
      ends o paid =
          record {
            words = written σ.fan W (f s);
            tree = g;
            good = released_good ι s b8 e k g D.settled r u (in_phase (f s) (phase.End o)) D.gone refl (λ q z. z) D.free (λ t d q z. absurd (none-some q z))
                (paid, rw D.now refl) (ι.sizes s b8);
            laws = D.laws;
          }

      goes_posting : (z : splits σ.fan (f s).draft ≡ true) → (m k : ℕ) → k ≡ m → T.Seated σ.order g (Some (f s).draft.right) m ((f s).aim + 1) 0
          → Stepped σ W f h s (put W.cells (f s).node 0 (f s).draft.freeing) (posting (f s) k (f s).draft.right) W.count r
      goes_posting z m k' is seat =
          let new = D.was_new z in
          record {
            words = written σ.fan W (f s);
            tree = g;
            good = released_good ι s b8 e k g D.settled r u (posting (f s) k' (f s).draft.right) D.gone refl (λ q z. z) D.free
                (λ t d q a b. let c : (f s).draft.right ≡ q = cc in k.3.hidden (f s).draft.right (z, inl refl) (rw c (owed_open σ W h t (f t).phase (f t) q (ι.seats t) b)))
                (record { seated = rw is seat; begins = (new.0, new.1, refl) }, rw D.now refl, rw D.now refl) (ι.sizes s b8);
            laws = D.laws;
          }

    in_place : splits σ.fan (f s).draft ≡ false
        → Stepped σ W f h s (put W.cells (f s).node 0 (f s).draft.freeing) (in_phase (f s) (phase.End (f s).draft.outcome)) W.count r
    in_place z =
        let n = (f s).node in
        let y = shown.node_is in
        let a = shown.from in
        let b = shown.to in
        let g = U.rewritten σ.order W.tree n y D.rows a b in
        let R = (tree_stands σ.order).made.rewrites W.tree n y D.rows a b shown.at_is in
        let K = D.rewrites g R in
        let short : (f s).draft.len ≤ σ.fan = ltb-false σ.fan (f s).draft.len z in
        ends g
        (record {
          kept = K.0;
          outside = λ q d. R.same q (λ w. d (inl w));
          inside = λ q o. elim o [
            | inl w ↦ rw (ap g w ∙ R.now) (codes q Own (N.with_entries y D.rows) a b (f s).draft.level (link (f s).copy) (high (f s).copy) (drafted (f s).draft) w tt
                (λ j. cond-false (splits σ.fan (f s).draft) _ _ z) (omega (arith, length_drafted))
                (k.3.level_is ∙ cond-false (splits σ.fan (f s).draft) _ _ z ∙ level_y) shown.shown.link_is shown.shown.high_is row_drafted)
            | inr w ↦ both (splits σ.fan (f s).draft) w.0 z
          ];
          linked = rw R.now tt;
          answers = K.1;
        })
        (f s).draft.outcome D.ended

    module _ (z : splits σ.fan (f s).draft ≡ true) where
      long : σ.fan < (f s).draft.len
      long = ltb-true σ.fan (f s).draft.len z

      len_most : (f s).draft.len ≤ suc σ.fan
      len_most = omega (arith, k.1.planned.len_is, D.few)

      edge_is : (f s).draft.edge ≡ N.last_key (take (left_count σ.fan) D.rows)
      edge_is =
          let C = content σ.order.before (f s) in
          let i = left_count σ.fan - 1 in
          let i_in : i < length C = omega (arith, σ.least, long, k.1.planned.len_is) in
          let i_is : suc i ≡ left_count σ.fan = omega (arith, σ.least) in
          k.1.planned.edge_is ∙ sym (last_is i C i_in)
          ∙ ap (λ (j : ℕ). N.last_key (take j (row C))) i_is ∙ ap (λ (l : List N.Entry). N.last_key (take (left_count σ.fan) l)) D.rows_are

      posts_edge : posted_key (f s) ≡ N.last_key (take (left_count σ.fan) D.rows)
      posts_edge = edge_is

      left_rows : row (left_entries (f s).draft) ≡ take (left_count σ.fan) D.rows
      left_rows = rw k.1.planned.left_is (sym (take-map as_entry (left_count σ.fan) (drafted (f s).draft)) ∙ ap (take (left_count σ.fan)) row_drafted)

      right_rows : row (right_entries (f s).draft) ≡ drop (left_count σ.fan) D.rows
      right_rows = rw k.1.planned.left_is (sym (drop-map as_entry (left_count σ.fan) (drafted (f s).draft)) ∙ ap (drop (left_count σ.fan)) row_drafted)

      left_few : length (left_entries (f s).draft) ≤ σ.fan
      left_few = rw length-take (omega (arith, σ.least, k.1.planned.left_is))

      right_few : length (right_entries (f s).draft) ≤ σ.fan
      right_few = rw length-drop (omega (arith, σ.least, length_drafted, len_most, k.1.planned.left_is))

      free_right : W.tree (f s).draft.right ≡ T.free
      free_right = not_linked (W.tree (f s).draft.right) (k.3.hidden (f s).draft.right (z, inl refl))

      split : is_root (f s) ≡ false → Stepped σ W f h s (put W.cells (f s).node 0 (f s).draft.freeing) (posts_on (f s)) W.count r
      split root =
          let n = (f s).node in
          let d = (f s).draft.right in
          let i = left_count σ.fan in
          let y = shown.node_is in
          let a = shown.from in
          let b = shown.to in
          let m = N.last_key (take i D.rows) in
          let g = U.overflowed σ.order W.tree n d i y D.rows a b in
          let R = (tree_stands σ.order).made.overflows W.tree n d i y D.rows a b shown.at_is free_right (eqb-false n 0 root) (omega (arith, σ.least)) (omega (arith, σ.least, length_rows, long)) in
          let K = D.overflows g d i R in
          let u : Update σ W (f s) g D.settled (plain_map σ.start (answer_of (Step s) r ∷ h)) =
          record {
            kept = K.0;
            outside = λ q c. R.same q (λ w. c (inl w)) (λ w. c (inr (z, inl w)));
            inside = λ q o. elim o [
              | inl w ↦ rw (ap g w ∙ R.left) (codes q Own (N.left_part (N.with_entries y D.rows) i d) a (suc (σ.order.rank m)) (f s).draft.level d (f s).draft.edge (left_entries (f s).draft) w tt
                  (λ j. cond-true (splits σ.fan (f s).draft) _ _ z ∙ cond-false (is_root (f s)) _ _ root) left_few
                  (k.3.level_is ∙ cond-true (splits σ.fan (f s).draft) _ _ z ∙ cond-false (is_root (f s)) _ _ root ∙ level_y) refl edge_is left_rows)
              | inr w ↦ elim w.1 [
                | inl v ↦ rw (ap g v ∙ R.right) (codes q Right (N.right_part (N.with_entries y D.rows) i) (suc (σ.order.rank m)) b (level (f s).copy) (cond (is_root (f s)) 0 (link (f s).copy)) (cond (is_root (f s)) 0 (high (f s).copy)) (right_entries (f s).draft) v z
                    (λ j. refl) right_few level_y (cond-false (is_root (f s)) _ _ root ∙ shown.shown.link_is) (cond-false (is_root (f s)) _ _ root ∙ shown.shown.high_is) right_rows)
                | inr v ↦ both (is_root (f s)) v.0 root
              ]
            ];
            linked = rw R.left tt;
            answers = K.2;
          } in
          let S = ((tree_stands σ.order).seats_start g K.0.sound).1 y.level m d K.1 in
          let aim_is : (f s).aim + 1 ≡ suc y.level = omega (arith, k.1.there, level_y) in
          cond_both (ltb ((f s).aim + 1) (2 ^ 64)) (posting (f s) (posted_key (f s)) d) (in_phase (f s) (phase.End outcome.Untold))
          (λ x'. Stepped σ W f h s (put W.cells n 0 (f s).draft.freeing) x' W.count r)
          (λ _. goes_posting g u z m (posted_key (f s)) posts_edge (rw aim_is S))
          (λ _. ends g u outcome.Untold (D.was_new z))

      root_split : is_root (f s) ≡ true
          → Stepped σ W f h s (put W.cells (f s).node 0 (f s).draft.freeing) (in_phase (f s) (phase.End (f s).draft.outcome)) W.count r
      root_split root =
          let n = (f s).node in
          let n0 : n ≡ 0 = eqb-true n 0 root in
          let d = (f s).draft.left in
          let c = (f s).draft.right in
          let i = left_count σ.fan in
          let y = shown.node_is in
          let a = shown.from in
          let b = shown.to in
          let m = N.last_key (take i D.rows) in
          let was : W.tree 0 ≡ T.held y a b = ap W.tree (sym n0) ∙ shown.at_is in
          let g = U.grew σ.order W.tree d c i y D.rows a b in
          let free_left : W.tree d ≡ T.free = not_linked (W.tree d) (k.3.hidden d (z, inr (root, refl))) in
          let R = (tree_stands σ.order).made.grows W.tree d c i y D.rows a b was free_left free_right (λ w. k.3.two (z, root) (sym w)) (omega (arith, σ.least)) (omega (arith, σ.least, length_rows, long)) in
          let K = D.grows n0 g d c i R in
          let rt : T.Root (T.held y a b) = rw was at ι.nodes.sound.root in
          let fine : T.Good σ.order W.tree y a b = rw was at (ι.nodes.sound.each 0) in
          let u : Update σ W (f s) g D.settled (plain_map σ.start (answer_of (Step s) r ∷ h)) =
          record {
            kept = K.0;
            outside = λ q o. R.same q (λ w. o (inl (w ∙ sym n0))) (λ w. o (inr (z, inr (root, w)))) (λ w. o (inr (z, inl w)));
            inside = λ q o. elim o [
              | inl w ↦ rw (ap g (w ∙ n0) ∙ R.now) (codes q Own (N.grown y m d c) a b (f s).draft.level 0 0 (entry (f s).draft.edge d ∷ (entry 0 c ∷ [])) w tt
                  (λ j. cond-true (splits σ.fan (f s).draft) _ _ z ∙ cond-true (is_root (f s)) _ _ root) (omega (arith, σ.least))
                  (k.3.level_is ∙ cond-true (splits σ.fan (f s).draft) _ _ z ∙ cond-true (is_root (f s)) _ _ root ∙ omega (arith, level_y)) refl refl
                  (ap (λ (v : ℕ). N.entry v d ∷ (N.entry 0 c ∷ [])) edge_is))
              | inr w ↦ elim w.1 [
                | inl v ↦ rw (ap g v ∙ R.right) (codes q Right (N.right_part (N.with_entries y D.rows) i) (suc (σ.order.rank m)) b (level (f s).copy) (cond (is_root (f s)) 0 (link (f s).copy)) (cond (is_root (f s)) 0 (high (f s).copy)) (right_entries (f s).draft) v z
                    (λ j. refl) right_few level_y (cond-true (is_root (f s)) _ _ root ∙ sym rt.0) (cond-true (is_root (f s)) _ _ root ∙ sym (fine.last rt.0).0) right_rows)
                | inr v ↦ rw (ap g v.1 ∙ R.left) (codes q Left (N.left_part (N.with_entries y D.rows) i c) a (suc (σ.order.rank m)) (level (f s).copy) c (f s).draft.edge (left_entries (f s).draft) v.1 (z, root)
                    (λ j. refl) left_few level_y refl edge_is left_rows)
              ]
            ];
            linked = rw (ap g n0 ∙ R.now) tt;
            answers = K.1;
          } in
          ends g u (f s).draft.outcome D.ended

    pub releases_by : Stepped σ W f h s (put W.cells (f s).node 0 (f s).draft.freeing) (after_release σ.fan (f s)) W.count r
    releases_by =
        cond_both (splits σ.fan (f s).draft) _ _ (λ x'. Stepped σ W f h s (put W.cells (f s).node 0 (f s).draft.freeing) x' W.count r)
        (λ z. cond_both (is_root (f s)) _ _ (λ x'. Stepped σ W f h s (put W.cells (f s).node 0 (f s).draft.freeing) x' W.count r) (root_split z) (split z))
        in_place
