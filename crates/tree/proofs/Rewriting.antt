-- An update that gives one node other entries keeps the other nodes, and the walkers where they may stand.
use Rattle.std.proofs.Common.{◌≡◌, ℕ, List, sym, refl, subst, arith}
use Rattle.tree.specs.Node.{Entry, Node, with_entries}
use Rattle.tree.specs.Tree.{Order, Place, held, Is, Held, Root, Apart, Lower, ApartFrom, Good, Fine, Sound, At}
use Rattle.tree.specs.Updates.{Rewrites}
use Rattle.tree.proofs.Frames.{except, apart_sym, apart_within, lower_like, lower_under, good_kept, fine_kept}

module _ (o : Order) (g g' : ℕ → Place) (x : ℕ) (y : Node) (es : List Entry) (a b : ℕ) (u : Rewrites o g g' x y es a b) (s : Sound o g) where
  pub keeps : (v lo c : ℕ) → Held g v lo c → Held g' v lo c
  keeps v lo c h = (
    h.0,
    except (λ n. Is v lo (g n) → Is v lo (g' n)) x
        (λ q. subst (Is v lo) (sym u.now) (subst (Is v lo) u.was q))
        (λ n nx q. subst (Is v lo) (sym (u.same n nx)) q) c h.1,
  )

  pub stays : (k aim n : ℕ) → At o k aim (g n) → At o k aim (g' n)
  stays k aim = except (λ n. At o k aim (g n) → At o k aim (g' n)) x
      (λ q. subst (At o k aim) (sym u.now) (subst (At o k aim) u.was q))
      (λ n nx q. subst (At o k aim) (sym (u.same n nx)) q)

  x_other : (n : ℕ) → (n ≡ x → ⊥) → Apart (g' x) (g' n)
  x_other n nx = rw (u.now, u.same n nx)
      (apart_within y (with_entries y es) a b a b (g n) refl (omega arith) (omega arith) (subst (λ p. Apart p (g n)) u.was (s.apart x n (λ e. nx (sym e)))))

  right_lower : (p : Place) (n : ℕ) → Lower p (g n) → Lower p (g' n)
  right_lower p = except (λ n. Lower p (g n) → Lower p (g' n)) x
      (λ h. subst (Lower p) (sym u.now) (lower_under y (with_entries y es) a b a b p (omega arith) (subst (Lower p) u.was h)))
      (λ n nx h. subst (Lower p) (sym (u.same n nx)) h)

  left_lower : (q : Place) (n : ℕ) → Lower (g n) q → Lower (g' n) q
  left_lower q = except (λ n. Lower (g n) q → Lower (g' n) q) x
      (λ h. subst (λ p. Lower p q) (sym u.now) (lower_like y (with_entries y es) a b a b q refl (subst (λ p. Lower p q) u.was h)))
      (λ n nx h. subst (λ p. Lower p q) (sym (u.same n nx)) h)

  pub sound : Good o g (with_entries y es) a b → Sound o g'
  sound new = record {
    root = except (λ n. Root (g n) → Root (g' n)) x (λ h. subst Root (sym u.now) (subst Root u.was h)) (λ n nx h. subst Root (sym (u.same n nx)) h) 0 s.root;
    each = except (λ n. Fine o g' (g' n)) x (subst (Fine o g') (sym u.now) (good_kept o g g' (with_entries y es) a b keeps new))
        (λ n nx. subst (Fine o g') (sym (u.same n nx)) (fine_kept o g g' (g n) keeps (s.each n)));
    apart = except (λ n. (p : ℕ) → (n ≡ p → ⊥) → Apart (g' n) (g' p)) x
        (except (λ p. (x ≡ p → ⊥) → Apart (g' x) (g' p)) x (λ e. absurd (e refl)) (λ n nx _. x_other n nx))
        (λ n nx. except (λ p. (n ≡ p → ⊥) → Apart (g' n) (g' p)) x
        (λ _. apart_sym (g' x) (g' n) (x_other n nx))
        (λ p px e. rw (u.same n nx, u.same p px) (s.apart n p e)));
    below = λ n nz. left_lower (g' 0) n (right_lower (g n) 0 (s.below n nz));
  }

  pub childless : (e : ℕ) → ApartFrom e (held (with_entries y es) a b) → ((n : ℕ) → ApartFrom e (g n)) → (n : ℕ) → ApartFrom e (g' n)
  childless e here h = except (λ n. ApartFrom e (g' n)) x (subst (ApartFrom e) (sym u.now) here) (λ n nx. subst (ApartFrom e) (sym (u.same n nx)) (h n))
