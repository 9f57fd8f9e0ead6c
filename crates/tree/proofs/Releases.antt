-- An update with a split, as a release makes it at once, is one of single updates that follow one another: entries, split, rise, posting.
use Rattle.std.proofs.Common.{◌≡◌, ℕ, suc, List, [], ◌∷◌, take, Some, None, Option, sym, refl, ◌∙◌, arith}
use Rattle.tree.specs.Node.{Entry, entry, Node, insert, posted, last_key, with_entries, risen}
use Rattle.tree.specs.Tree.{Order, Place, held, Sound, Answers, Pending}
use Rattle.tree.specs.Updates.{put, Kept, Rewrites, Splits, Rises, Overflows, Grows}
use Rattle.tree.specs.Stands.{StoringOverflows, StoringGrows, PostingOverflows, PostingGrows}
use Rattle.tree.proofs.Frames.{except, taken_not_free, held_not_free, root_not_free}
use Rattle.tree.proofs.Making.{put_same, put_other}
use Rattle.tree.proofs.Splitting.{splitting_keeps}
use Rattle.tree.proofs.Storing.{storing_keeps}
use Rattle.tree.proofs.Posting.{posting_keeps}
use Rattle.tree.proofs.Rising.{rising_keeps}
use Rattle.tree.proofs.Starting.{starts}

never_some : (e : ℕ) → None ≡ Some e → ⊥
never_some e h = let z : ◌≡◌ {A = ℕ} 0 1 = cc in omega arith

same_some : (d e : ℕ) → Some d ≡ Some e → d ≡ e
same_some d e h = cc

module _ (o : Order) where
  kept_then : (g h k : ℕ → Place) (P Q R : Option ℕ) → ((v m e : ℕ) → Pending o g v m e → (R ≡ Some e → ⊥) → (P ≡ Some e → ⊥) × (Q ≡ Some e → ⊥)) → Kept o g h P → Kept o h k Q → Kept o g k R
  kept_then g h k P Q R f x y = record {
    sound = y.sound;
    stays = λ q aim n a. y.stays q aim n (x.stays q aim n a);
    keeps = λ v lo c a. y.keeps v lo c (x.keeps v lo c a);
    pending = λ v m e r p. (let n = f v m e p r in y.pending v m e n.1 (x.pending v m e n.0 p));
  }

  module _ (g g' : ℕ → Place) (x d i : ℕ) (y : Node) (es : List Entry) (a b : ℕ) (u : Overflows o g g' x d i y es a b) where
    between : ℕ → Place
    between = put x (held (with_entries y es) a b) g

    x_not_d : d ≡ x → ⊥
    x_not_d e = taken_not_free g x d y a b u.was u.fresh (sym e)

    to_between : Rewrites o g between x y es a b
    unfolding between
    to_between = record { was = u.was; now = put_same x (held (with_entries y es) a b) g; same = put_other x (held (with_entries y es) a b) g }

    from_between : Splits o between g' x d i (with_entries y es) a b
    unfolding between
    from_between = record {
      was = put_same x (held (with_entries y es) a b) g;
      fresh = put_other x (held (with_entries y es) a b) g d x_not_d ∙ u.fresh;
      inside = u.inside;
      some_left = u.some_left;
      some_right = u.some_right;
      left = u.left;
      right = u.right;
      same = λ n nx nd. u.same n nx nd ∙ sym (put_other x (held (with_entries y es) a b) g n nx);
    }

    overflowing : (P : Option ℕ) → Kept o g between P → Kept o g g' P × Pending o g' y.level (last_key (take i es)) d × ((w : ℕ → Option ℕ) → Answers o between w → Answers o g' w)
    overflowing P k = let s = splitting_keeps o between g' x d i (with_entries y es) a b from_between k.sound in
        (kept_then g between g' P None P (λ _ _ e _ r. (r, never_some e)) k s.0, s.1, s.2)

  module _ (g g' : ℕ → Place) (d e i : ℕ) (y : Node) (es : List Entry) (a b : ℕ) (u : Grows o g g' d e i y es a b) (s : Sound o g) where
    filled : ℕ → Place
    filled = put 0 (held (with_entries y es) a b) g

    to_filled : Rewrites o g filled 0 y es a b
    unfolding filled
    to_filled = record { was = u.was; now = put_same 0 (held (with_entries y es) a b) g; same = put_other 0 (held (with_entries y es) a b) g }

    d_not_0 : d ≡ 0 → ⊥
    d_not_0 = root_not_free o g d s u.fresh

    e_not_0 : e ≡ 0 → ⊥
    e_not_0 = root_not_free o g e s u.fresh_too

    raised : ℕ → Place
    raised = put 0 (held (risen y d) a b) (put d (held (with_entries y es) a b) g)

    raised_0 : raised 0 ≡ held (risen y d) a b
    unfolding raised
    raised_0 = put_same 0 (held (risen y d) a b) (put d (held (with_entries y es) a b) g)

    raised_d : raised d ≡ held (with_entries y es) a b
    unfolding raised
    raised_d = put_other 0 (held (risen y d) a b) (put d (held (with_entries y es) a b) g) d d_not_0 ∙ put_same d (held (with_entries y es) a b) g

    raised_other : (n : ℕ) → (n ≡ 0 → ⊥) → (n ≡ d → ⊥) → raised n ≡ g n
    unfolding raised
    raised_other n nz nd = put_other 0 (held (risen y d) a b) (put d (held (with_entries y es) a b) g) n nz ∙ put_other d (held (with_entries y es) a b) g n nd

    to_raised : Rises o filled raised d (with_entries y es) a b
    unfolding filled
    to_raised = record {
      was = put_same 0 (held (with_entries y es) a b) g;
      fresh = put_other 0 (held (with_entries y es) a b) g d d_not_0 ∙ u.fresh;
      now = raised_0;
      moved = raised_d;
      same = λ n nz nd. raised_other n nz nd ∙ sym (put_other 0 (held (with_entries y es) a b) g n nz);
    }

    parted : ℕ → Place
    parted = put 0 (held (risen y d) a b) g'

    parted_other : (n : ℕ) → (n ≡ 0 → ⊥) → parted n ≡ g' n
    unfolding parted
    parted_other = put_other 0 (held (risen y d) a b) g'

    parted_0 : parted 0 ≡ held (risen y d) a b
    unfolding parted
    parted_0 = put_same 0 (held (risen y d) a b) g'

    parted_same : (n : ℕ) → (n ≡ d → ⊥) → (n ≡ e → ⊥) → parted n ≡ raised n
    parted_same = except (λ n. (n ≡ d → ⊥) → (n ≡ e → ⊥) → parted n ≡ raised n) 0 (λ _ _. parted_0 ∙ sym raised_0)
        (λ n nz nd ne. parted_other n nz ∙ u.same n nz nd ne ∙ sym (raised_other n nz nd))

    to_parted : Splits o raised parted d e i (with_entries y es) a b
    to_parted = record {
      was = raised_d;
      fresh = raised_other e e_not_0 u.two ∙ u.fresh_too;
      inside = d_not_0;
      some_left = u.some_left;
      some_right = u.some_right;
      left = parted_other d d_not_0 ∙ u.left;
      right = parted_other e e_not_0 ∙ u.right;
      same = parted_same;
    }

    to_end : Rewrites o parted g' 0 (risen y d) (posted o.before (entry 0 d ∷ []) (last_key (take i es)) e) a b
    to_end = record { was = parted_0; now = u.now; same = λ n nz. sym (parted_other n nz) }

    growing : (P : Option ℕ) → Kept o g filled P → Kept o g g' P × ((w : ℕ → Option ℕ) → Answers o filled w → Answers o g' w)
    growing P k =
        let r = rising_keeps o filled raised d (with_entries y es) a b to_raised k.sound in
        let c = splitting_keeps o raised parted d e i (with_entries y es) a b to_parted r.0.sound in
        let m = last_key (take i es) in
        let q = posting_keeps o parted g' 0 (risen y d) a b m e y.level c.1 to_end c.0.sound
        ((starts o parted c.0.sound).1 y.level m e c.1) refl refl in (
          kept_then g filled g' P (Some e) P (λ v n z p nz. (nz, λ q. held_not_free o g v (suc (o.rank n)) z e p.place u.fresh_too (same_some z e (sym q)))) k
              (kept_then filled raised g' None (Some e) (Some e) (λ _ _ z _ nz. (never_some z, nz)) r.0
              (kept_then raised parted g' None (Some e) (Some e) (λ _ _ z _ nz. (never_some z, nz)) c.0 q.0)),
          (λ w t. q.1 w (c.2 w (r.1 w t))),
        )

pub storing_overflows : (o : Order) → StoringOverflows o
storing_overflows o g g' x d i y a b k v kk u s at z c =
    let es = insert o.before y.entries k v in
    let f = storing_keeps o g (between o g g' x d i y es a b u) x y a b k v kk (to_between o g g' x d i y es a b u) s at z c in
    let r = overflowing o g g' x d i y es a b u None f.0 in
    (r.0, r.1, λ w w' t h. r.2 w' (f.1 w w' t h))

pub storing_grows : (o : Order) → StoringGrows o
storing_grows o g g' d e i y a b k v kk u s at z c =
    let es = insert o.before y.entries k v in
    let f = storing_keeps o g (filled o g g' d e i y es a b u s) 0 y a b k v kk (to_filled o g g' d e i y es a b u s) s at z c in
    let r = growing o g g' d e i y es a b u s None f.0 in
    (r.0, λ w w' t h. r.1 w' (f.1 w w' t h))

pub posting_overflows : (o : Order) → PostingOverflows o
posting_overflows o g g' x e i y a b m d v p u s at z c =
    let es = posted o.before y.entries m d in
    let f = posting_keeps o g (between o g g' x e i y es a b u) x y a b m d v p (to_between o g g' x e i y es a b u) s at z c in
    let r = overflowing o g g' x e i y es a b u (Some d) f.0 in
    (r.0, r.1, λ w h. r.2 w (f.1 w h))

pub posting_grows : (o : Order) → PostingGrows o
posting_grows o g g' q e i y a b m d v p u s at z c =
    let es = posted o.before y.entries m d in
    let f = posting_keeps o g (filled o g g' q e i y es a b u s) 0 y a b m d v p (to_filled o g g' q e i y es a b u s) s at z c in
    let r = growing o g g' q e i y es a b u s (Some d) f.0 in
    (r.0, λ w h. r.1 w (f.1 w h))
