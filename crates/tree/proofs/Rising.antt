-- The root's rise keeps the tree: its content moves to an unused node, which becomes its one child.
use Rattle.std.proofs.Common.{◌≡◌, ℕ, suc, None, Option, sym, refl, subst, arith}
use Rattle.tree.specs.Node.{Node, risen}
use Rattle.tree.specs.Tree.{Order, Place, held, Is, Held, Root, Apart, Lower, ApartFrom, Key, Good, Fine, Sound, Tells, Answers, At}
use Rattle.tree.specs.Updates.{Rises, Kept}
use Rattle.tree.specs.Stands.{RisingKeeps}
use Rattle.tree.proofs.Walks.{good_at}
use Rattle.tree.proofs.Frames.{except_two, apart_sym, apart_above, lower_under, good_kept, fine_kept, root_not_free, held_not_free}

module _ (o : Order) (g g' : ℕ → Place) (d : ℕ) (y : Node) (a b : ℕ) (u : Rises o g g' d y a b) (s : Sound o g) where
  good : Good o g y a b
  good = good_at o g 0 y a b s u.was

  is_root : Root (held y a b)
  is_root = subst Root u.was s.root

  d_not_root : d ≡ 0 → ⊥
  d_not_root = root_not_free o g d s u.fresh

  keeps : (v lo c : ℕ) → Held g v lo c → Held g' v lo c
  keeps v lo c h = (
    h.0,
    except_two (λ n. (n ≡ 0 → ⊥) → Is v lo (g n) → Is v lo (g' n)) 0 d
        (λ e. absurd (e refl))
        (λ _ q. absurd (subst (Is v lo) u.fresh q))
        (λ n nx nd _ q. subst (Is v lo) (sym (u.same n nx nd)) q) c h.0 h.1,
  )

  stays : (k aim n : ℕ) → At o k aim (g n) → At o k aim (g' n)
  stays k aim = except_two (λ n. At o k aim (g n) → At o k aim (g' n)) 0 d
      (λ q. let h = subst (At o k aim) u.was q in subst (At o k aim) (sym u.now) (omega arith, h.1))
      (λ q. absurd (subst (At o k aim) u.fresh q))
      (λ n nx nd q. subst (At o k aim) (sym (u.same n nx nd)) q)

  good_root : Good o g' (risen y d) a b
  good_root = record {
    span = good.span;
    last = λ _. (refl, (good.last is_root.0).1);
    next = λ e. absurd (e refl);
    leaf = λ e. absurd (omega arith);
    inner = λ v e. ((d_not_root, subst (Is v a) (sym u.moved) (omega arith, refl)), refl, good.span);
  }

  root_below : (n : ℕ) → (n ≡ 0 → ⊥) → Lower (g n) (held y a b)
  root_below n nz = subst (Lower (g n)) u.was (s.below n nz)

  root_d : Apart (g' 0) (g' d)
  root_d = rw (u.now, u.moved) (λ e. absurd (omega arith))

  root_other : (n : ℕ) → (n ≡ 0 → ⊥) → (n ≡ d → ⊥) → Apart (g' 0) (g' n)
  root_other n nx nd = rw (u.now, u.same n nx nd) (apart_above y (risen y d) a b a b (g n) (omega arith) (root_below n nx))

  d_other : (n : ℕ) → (n ≡ 0 → ⊥) → (n ≡ d → ⊥) → Apart (g' d) (g' n)
  d_other n nx nd = rw (u.moved, u.same n nx nd) (subst (λ p. Apart p (g n)) u.was (s.apart 0 n (λ e. nx (sym e))))

  sound : Sound o g'
  sound = record {
    root = subst Root (sym u.now) (refl, is_root.1);
    each = except_two (λ n. Fine o g' (g' n)) 0 d (subst (Fine o g') (sym u.now) good_root) (subst (Fine o g') (sym u.moved) (good_kept o g g' y a b keeps good))
        (λ n nx nd. subst (Fine o g') (sym (u.same n nx nd)) (fine_kept o g g' (g n) keeps (s.each n)));
    apart = except_two (λ n. (p : ℕ) → (n ≡ p → ⊥) → Apart (g' n) (g' p)) 0 d
        (except_two (λ p. (0 ≡ p → ⊥) → Apart (g' 0) (g' p)) 0 d (λ e. absurd (e refl)) (λ _. root_d) (λ n nx nd _. root_other n nx nd))
        (except_two (λ p. (d ≡ p → ⊥) → Apart (g' d) (g' p)) 0 d (λ _. apart_sym (g' 0) (g' d) root_d) (λ e. absurd (e refl)) (λ n nx nd _. d_other n nx nd))
        (λ n nx nd. except_two (λ p. (n ≡ p → ⊥) → Apart (g' n) (g' p)) 0 d
        (λ _. apart_sym (g' 0) (g' n) (root_other n nx nd)) (λ _. apart_sym (g' d) (g' n) (d_other n nx nd))
        (λ p px pd e. rw (u.same n nx nd, u.same p px pd) (s.apart n p e)));
    below = λ n nz. subst (Lower (g' n)) (sym u.now) (except_two (λ n. (n ≡ 0 → ⊥) → Lower (g' n) (held (risen y d) a b)) 0 d
        (λ e. absurd (e refl))
        (λ _. rw u.moved (omega arith))
        (λ n nx nd nz. rw (u.same n nx nd) (lower_under y (risen y d) a b a b (g n) (omega arith) (root_below n nz))) n nz);
  }

  answers : (w : ℕ → Option ℕ) → Answers o g w → Answers o g' w
  answers w t = except_two (λ n. (k : ℕ) → Key o k → Tells o w k (g' n)) 0 d
      (λ k kk. subst (Tells o w k) (sym u.now) (λ z l h. absurd (omega arith)))
      (λ k kk. subst (Tells o w k) (sym u.moved) (subst (Tells o w k) u.was (t 0 k kk)))
      (λ n nx nd k kk. subst (Tells o w k) (sym (u.same n nx nd)) (t n k kk))

  childless : (e : ℕ) → (e ≡ d → ⊥) → ((n : ℕ) → ApartFrom e (g n)) → (n : ℕ) → ApartFrom e (g' n)
  childless e ne h = except_two (λ n. ApartFrom e (g' n)) 0 d
      (subst (ApartFrom e) (sym u.now) (λ z. ((λ q. ne (sym q)), tt)))
      (subst (ApartFrom e) (sym u.moved) (subst (ApartFrom e) u.was (h 0)))
      (λ n nx nd. subst (ApartFrom e) (sym (u.same n nx nd)) (h n))

  pub rising : Kept o g g' None × ((w : ℕ → Option ℕ) → Answers o g w → Answers o g' w)
  rising = (
    record {
      sound = sound;
      stays = stays;
      keeps = keeps;
      pending = λ v m e _ p. record {
        key = p.key;
        place = keeps v (suc (o.rank m)) e p.place;
        none_has = childless e (held_not_free o g v (suc (o.rank m)) e d p.place u.fresh) p.none_has;
      };
    },
    answers,
  )

pub rising_keeps : (o : Order) → RisingKeeps o
rising_keeps o g g' d y a b u s = rising o g g' d y a b u s
