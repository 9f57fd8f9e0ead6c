-- The deeds of a put and of a posting.
use Rattle.std.proofs.Common.{◌≡◌, ℕ, zero, suc, ◌<◌, ◌≤◌, true, false, cond, eqb, List, [], ◌∷◌, length, Some, None, Option, sym, refl, ap, ◌∙◌, subst, arith}
use Rattle.std.proofs.lemmas.Bool.{cond-true, cond-false, eq-eqb, ne_eqb, le-ltb, ltb-true}
use Rattle.std.proofs.lemmas.Option.{none-some}
use Rattle.std.proofs.lemmas.List.{length-map}
use Rattle.tree.specs.Node as N
use Rattle.tree.specs.Tree as T
use Rattle.tree.specs.Updates as U
use Rattle.tree.proofs.Stands.{tree_stands}
use Rattle.rules.specs.Nodes.{level, entries, found, put_in, post_in}
use Rattle.rules.specs.Steps.{splits, content, content_by, finished, stored}
use Rattle.rules.specs.Histories.{History, Step}
use Rattle.rules.specs.Events.{Begun, begun, putting, sought}
use Rattle.rules.specs.PlainMap.{with_pair, publishings, plain_map}
use Rattle.rules.specs.declared.report.Outcome.TheVariants as outcome
use Rattle.rules.specs.declared.seat.Operation.{Operation}
use Rattle.rules.specs.declared.seat.Operation.TheVariants as operation
use Rattle.rules.specs.declared.seat.Phase.TheVariants as phase
use Rattle.rules.specs.declared.report.Report.TheVariants.{Published, Posted}
use Rattle.rules.specs.declared.seat.Seat.{Seat}
use Rattle.rules.proofs.Cells.{put}
use Rattle.rules.proofs.Entries.{as_entry, row, row_put, row_post, found_new}
use Rattle.rules.proofs.Words.{covers_shown}
use Rattle.rules.proofs.Events.{answer_of, holds_own, place_own, begun_own, publishings_own}
use Rattle.rules.proofs.Inv.{Setting, World, post_of, Begins, paid, Paid, SeatIn, Inv}
use Rattle.rules.proofs.Good.{owed, laws_plain, tells_same}
use Rattle.rules.proofs.Steps.{Stepped, leaf_found}
use Rattle.rules.proofs.Deeds.{after_release, shown, Deed, releases_by}

paid_stored : (o : Option ℕ) → paid (stored o) ≡ o ∷ []
paid_stored o = grind arith

module _ {σ : Setting} {W : World} {f : ℕ → Seat} {h : History} (ι : Inv σ W f h) (s : ℕ) (b8 : s < 8) (e : (f s).phase ≡ phase.Release) (k : SeatIn σ W h s phase.Release (f s)) where
  covers_y : N.covers σ.order.before (shown ι s b8 e k).node_is (f s).key ≡ true
  covers_y = let y = shown ι s b8 e k in sym (covers_shown σ.order.before (f s).copy y.node_is (f s).key y.shown) ∙ k.1.covered

  level_aim : (shown ι s b8 e k).node_is.level ≡ (f s).aim
  level_aim = sym (shown ι s b8 e k).shown.level_is ∙ k.1.there

  key_k : T.Key σ.order (f s).key
  key_k = k.0.seated.key

  entries_few : length (entries (f s).copy) ≤ σ.fan
  entries_few = let sh = shown ι s b8 e k in omega (arith, sh.few, length-map (entries (f s).copy) as_entry, ap length sh.shown.row_is)

  module _ (v : ℕ) (op : (f s).operation ≡ operation.Put v) where
    begins_p : Begins σ.start h s (operation.Put v) (f s).key
    begins_p = rw op at k.0.begins

    aim_0 : (f s).aim ≡ 0
    aim_0 = let z : T.Aims σ.order W.tree None (f s).key (f s).aim = rw op at k.0.seated.aims in z

    level_0 : (shown ι s b8 e k).node_is.level ≡ 0
    level_0 = level_aim ∙ aim_0

    content_p : content σ.order.before (f s) ≡ put_in σ.order.before (f s).key v (entries (f s).copy)
    content_p = ap (λ (t : Operation). content_by σ.order.before t (f s).key (entries (f s).copy)) op

    never_k : σ.order.before (f s).key (f s).key ≡ false
    never_k = σ.order.before_is (f s).key (f s).key key_k key_k ∙ le-ltb (σ.order.rank (f s).key) (σ.order.rank (f s).key) (omega arith)

    rows_p : row (content σ.order.before (f s)) ≡ N.insert σ.order.before (shown ι s b8 e k).node_is.entries (f s).key v
    rows_p = ap row content_p ∙ row_put σ.order.before (f s).key v never_k (entries (f s).copy) ∙ ap (λ (l : List N.Entry). N.insert σ.order.before l (f s).key v) (shown ι s b8 e k).shown.row_is

    few_p : length (content σ.order.before (f s)) ≤ suc σ.fan
    few_p =
        let sh = shown ι s b8 e k in
        omega (arith, sh.few, (tree_stands σ.order).fits.inserted sh.node_is.entries (f s).key v, ap length rows_p, length-map (content σ.order.before (f s)) as_entry)

    at_0 : T.At σ.order (f s).key 0 (W.tree (f s).node)
    at_0 = rw aim_0 at k.0.seated.at

    answer_p : plain_map σ.start h (f s).key ≡ found σ.order.before (f s).key (entries (f s).copy)
    answer_p = leaf_found ι s b8 (f s) (shown ι s b8 e k) key_k at_0 level_0 k.1.covered

    published : publishings σ.start (answer_of (Step s) (Published (f s).node) ∷ h) s ≡ found σ.order.before (f s).key (entries (f s).copy) ∷ []
    published =
        publishings_own h s (Published (f s).node) refl σ.start
        ∙ ap (λ (b : Begun). plain_map σ.start h (sought b) ∷ publishings σ.start h s) begins_p.0
        ∙ ap (λ (l : List (Option ℕ)). plain_map σ.start h (f s).key ∷ l) begins_p.1
        ∙ ap (λ (o : Option ℕ). o ∷ []) answer_p

    begun_p : begun (answer_of (Step s) (Published (f s).node) ∷ h) s ≡ putting (f s).key v
    begun_p = begun_own h s (Published (f s).node) refl ∙ begins_p.0

    map_p : (q : ℕ) → plain_map σ.start (answer_of (Step s) (Published (f s).node) ∷ h) q ≡ cond (eqb q (f s).key) (Some v) (plain_map σ.start h q)
    map_p q = ap (λ (b : Begun). with_pair b (plain_map σ.start h) q) begins_p.0

    takes_p : U.Takes σ.order (plain_map σ.start h) (plain_map σ.start (answer_of (Step s) (Published (f s).node) ∷ h)) (f s).key v
    takes_p =
        record {
          now = map_p (f s).key ∙ cond-true (eqb (f s).key (f s).key) _ _ (eq-eqb (f s).key (f s).key refl);
          same = λ q d. map_p q ∙ cond-false (eqb q (f s).key) _ _ (ne_eqb q (f s).key d);
        }

    outcome_p : (f s).draft.outcome ≡ stored (found σ.order.before (f s).key (entries (f s).copy))
    outcome_p = grind arith

    ended_p : Paid σ.start (answer_of (Step s) (Published (f s).node) ∷ h) s (f s).draft.outcome
    ended_p = (
      ((f s).key, v, begun_p),
      published ∙ sym (paid_stored (found σ.order.before (f s).key (entries (f s).copy))) ∙ sym (ap paid outcome_p),
    )

    new_p : splits σ.fan (f s).draft ≡ true → publishings σ.start (answer_of (Step s) (Published (f s).node) ∷ h) s ≡ None ∷ []
    new_p z =
        let b : length (entries (f s).copy) < length (put_in σ.order.before (f s).key v (entries (f s).copy)) =
        omega (arith, entries_few, ltb-true σ.fan (f s).draft.len z, k.1.planned.len_is, ap length content_p) in
        published ∙ ap (λ (o : Option ℕ). o ∷ []) (found_new σ.order.before (f s).key v (entries (f s).copy) b)

    put_deed : Deed ι s b8 e k (Published (f s).node)
    put_deed =
        let sh = shown ι s b8 e k in
        let S = tree_stands σ.order in
        let r = Published (f s).node in
        record {
          rows = N.insert σ.order.before sh.node_is.entries (f s).key v;
          rows_are = rows_p;
          few = few_p;
          settled = None;
          rewrites = λ g R.
              let K = S.stores W.tree g (f s).node sh.node_is sh.from sh.to (f s).key v key_k R ι.nodes.sound at_0 level_0 covers_y in
              (K.0, K.1 (plain_map σ.start h) (plain_map σ.start (answer_of (Step s) r ∷ h)) takes_p ι.nodes.answers);
          overflows = λ g d i R.
              let K = S.stores_overflows W.tree g (f s).node d i sh.node_is sh.from sh.to (f s).key v key_k R ι.nodes.sound at_0 level_0 covers_y in
              (K.0, K.1, K.2 (plain_map σ.start h) (plain_map σ.start (answer_of (Step s) r ∷ h)) takes_p ι.nodes.answers);
          grows = λ z g d c i R.
              let K = S.stores_grows W.tree g d c i sh.node_is sh.from sh.to (f s).key v key_k R ι.nodes.sound (rw z at at_0) level_0 covers_y in
              (K.0, K.1 (plain_map σ.start h) (plain_map σ.start (answer_of (Step s) r ∷ h)) takes_p ι.nodes.answers);
          free = λ t d q a b. none-some q b;
          gone = holds_own h s r refl;
          now = place_own h s r refl;
          ended = ended_p;
          was_new = λ z. (((f s).key, v, begun_p), new_p z);
          laws = laws_plain σ.start h (answer_of (Step s) r) s refl (rw k.2 refl);
        }

  module _ (m d : ℕ) (op : (f s).operation ≡ operation.Post m d) where
    begins_q : Begins σ.start h s (operation.Post m d) (f s).key
    begins_q = rw op at k.0.begins

    aims_q : T.Aims σ.order W.tree (Some d) (f s).key (f s).aim
    aims_q = rw op at k.0.seated.aims

    pending_q : (aim : ℕ) → aim ≡ (f s).aim → T.Aims σ.order W.tree (Some d) (f s).key aim → (v : ℕ) × ((f s).aim ≡ suc v) × T.Pending σ.order W.tree v m d
    pending_q zero z a = absurd a
    pending_q (suc v) z a = (v, sym z, rw (sym begins_q.2) a)

    pend : (v : ℕ) × ((f s).aim ≡ suc v) × T.Pending σ.order W.tree v m d
    pend = pending_q (f s).aim refl aims_q

    content_q : content σ.order.before (f s) ≡ post_in σ.order.before m d (entries (f s).copy)
    content_q = ap (λ (t : Operation). content_by σ.order.before t (f s).key (entries (f s).copy)) op

    rows_q : row (content σ.order.before (f s)) ≡ N.posted σ.order.before (shown ι s b8 e k).node_is.entries m d
    rows_q = ap row content_q ∙ row_post σ.order.before m d (entries (f s).copy) ∙ ap (λ (l : List N.Entry). N.posted σ.order.before l m d) (shown ι s b8 e k).shown.row_is

    few_q : length (content σ.order.before (f s)) ≤ suc σ.fan
    few_q =
        let sh = shown ι s b8 e k in
        omega (arith, sh.few, (tree_stands σ.order).fits.one_more sh.node_is.entries m d, ap length rows_q, length-map (content σ.order.before (f s)) as_entry)

    at_q : T.At σ.order m (suc pend.0) (W.tree (f s).node)
    at_q = subst (λ (j : ℕ). T.At σ.order j (suc pend.0) (W.tree (f s).node)) begins_q.2 (subst (λ (v : ℕ). T.At σ.order (f s).key v (W.tree (f s).node)) pend.1 k.0.seated.at)

    level_q : (shown ι s b8 e k).node_is.level ≡ suc pend.0
    level_q = level_aim ∙ pend.1

    covers_q : N.covers σ.order.before (shown ι s b8 e k).node_is m ≡ true
    covers_q = rw (sym begins_q.2) covers_y

    same_map : (g : ℕ → T.Place) → T.Answers σ.order g (plain_map σ.start h) → T.Answers σ.order g (plain_map σ.start (answer_of (Step s) (Posted (f s).node) ∷ h))
    same_map g a n q c = tells_same σ.order (plain_map σ.start h) (plain_map σ.start (answer_of (Step s) (Posted (f s).node) ∷ h)) q (g n) refl (a n q c)

    begun_q : begun (answer_of (Step s) (Posted (f s).node) ∷ h) s ≡ putting begins_q.0.0 begins_q.0.1
    begun_q = begun_own h s (Posted (f s).node) refl ∙ begins_q.0.2

    published_q : publishings σ.start (answer_of (Step s) (Posted (f s).node) ∷ h) s ≡ None ∷ []
    published_q = publishings_own h s (Posted (f s).node) refl σ.start ∙ begins_q.1

    outcome_q : (f s).draft.outcome ≡ outcome.Stored
    outcome_q = k.1.planned.outcome_is ∙ ap (λ (t : Operation). finished σ.order.before t (f s).key (entries (f s).copy)) op

    post_deed : Deed ι s b8 e k (Posted (f s).node)
    post_deed =
        let sh = shown ι s b8 e k in
        let S = tree_stands σ.order in
        let r = Posted (f s).node in
        record {
          rows = N.posted σ.order.before sh.node_is.entries m d;
          rows_are = rows_q;
          few = few_q;
          settled = Some d;
          rewrites = λ g R.
              let K = S.posts W.tree g (f s).node sh.node_is sh.from sh.to m d pend.0 pend.2 R ι.nodes.sound at_q level_q covers_q in
              (K.0, same_map g (K.1 (plain_map σ.start h) ι.nodes.answers));
          overflows = λ g c i R.
              let K = S.posts_overflows W.tree g (f s).node c i sh.node_is sh.from sh.to m d pend.0 pend.2 R ι.nodes.sound at_q level_q covers_q in
              (K.0, K.1, same_map g (K.2 (plain_map σ.start h) ι.nodes.answers));
          grows = λ z g p c i R.
              let K = S.posts_grows W.tree g p c i sh.node_is sh.from sh.to m d pend.0 pend.2 R ι.nodes.sound (rw z at at_q) level_q covers_q in
              (K.0, same_map g (K.1 (plain_map σ.start h) ι.nodes.answers));
          free = λ t c q a b.
              let mine : post_of (f s).operation ≡ Some d = ap post_of op in
              let own : owed (f s) ≡ post_of (f s).operation = rw e refl in
              ι.owes s t c q (own ∙ mine ∙ b) a;
          gone = holds_own h s r refl;
          now = place_own h s r refl;
          ended = ((begins_q.0.0, begins_q.0.1, begun_q), published_q ∙ sym (ap paid outcome_q));
          was_new = λ z. ((begins_q.0.0, begins_q.0.1, begun_q), published_q);
          laws = laws_plain σ.start h (answer_of (Step s) r) s refl (rw k.2 refl);
        }

  pub by_operation : (t : Operation) → (f s).operation ≡ t
      → Stepped σ W f h s (put W.cells (f s).node 0 (f s).draft.freeing) (after_release σ.fan (f s)) W.count (cond (eqb (level (f s).copy) 0) (Published (f s).node) (Posted (f s).node))
  by_operation operation.Find z = absurd (rw z at k.1.writes)
  by_operation (operation.Put v) z =
      rw (eq-eqb (level (f s).copy) 0 (k.1.there ∙ aim_0 v z)) (releases_by ι s b8 e k (Published (f s).node) (put_deed v z))
  by_operation (operation.Post m d) z =
      rw (ne_eqb (level (f s).copy) 0 (λ w. omega (arith, k.1.there, (pend m d z).1))) (releases_by ι s b8 e k (Posted (f s).node) (post_deed m d z))
