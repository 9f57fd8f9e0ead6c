-- Where a walk starts, and the tree of a newly formatted index.
use Rattle.std.proofs.Common.{◌≡◌, ℕ, suc, None, sym, refl, subst, arith}
use Rattle.tree.specs.Tree.{Order, Place, free, held, Is, Root, Apart, Lower, Key, Fine, Tells, At}
use Rattle.tree.specs.Stands.{Starts, FormattedSound}
use Rattle.tree.proofs.Frames.{except}

module _ (o : Order) where
  from_root : (k : ℕ) (p : Place) → Root p → At o k 0 p
  from_root k free r = r
  from_root k (held y a b) r = (omega arith, omega arith)

  above : (k v lo : ℕ) (q p : Place) → Root p → Is v lo q → Lower q p → At o k (suc v) p
  above k v lo q free r i l = r
  above k v lo free (held y a b) r i l = absurd i
  above k v lo (held z c e) (held y a b) r i l = (omega arith, omega arith)

  pub starts : Starts o
  starts g s = ((λ k. from_root k (g 0) s.root), (λ v m d p. above m v (suc (o.rank m)) (g d) (g 0) s.root p.place.1 (s.below d p.place.0)))

  pub formatted : FormattedSound o
  formatted g f = (
    record {
      root = subst Root (sym f.now) (refl, refl);
      each = except (λ n. Fine o g (g n)) 0 (subst (Fine o g) (sym f.now) (record { span = o.some_room; last = λ _. (refl, refl); next = λ e. absurd (e refl); leaf = λ _. omega arith; inner = λ v e. absurd (omega arith) }))
          (λ n nz. rw (f.same n nz) tt);
      apart = except (λ n. (p : ℕ) → (n ≡ p → ⊥) → Apart (g n) (g p)) 0
          (except (λ p. (0 ≡ p → ⊥) → Apart (g 0) (g p)) 0 (λ e. absurd (e refl)) (λ p pz _. rw (f.now, f.same p pz) tt))
          (λ n nz p _. rw (f.same n nz) tt);
      below = λ n nz. rw (f.same n nz) tt;
    },
    except (λ n. (k : ℕ) → Key o k → Tells o (λ _. None) k (g n)) 0 (λ k _. subst (Tells o (λ _. None) k) (sym f.now) (λ _ _ _. refl)) (λ n nz k _. rw (f.same n nz) tt),
  )
