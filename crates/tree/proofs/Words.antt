-- The words of the nodes stay within the top word, and the linked nodes within those in use.
use Rattle.std.proofs.Common.{◌≡◌, ℕ, zero, suc, ◌<◌, ◌≤◌, cond, eqb, List, [], ◌∷◌, take, drop, sym, subst, ⊎_elim, arith}
use Rattle.std.proofs.lemmas.Bool.{cond_both, cases_lt}
use Rattle.tree.specs.Node.{Entry, entry, insert, posted, last_key}
use Rattle.tree.specs.Tree.{Order, Is, At}
use Rattle.tree.specs.Updates.{Small, Words}
use Rattle.tree.specs.Stands.{UpdatesSmall, InUse}
use Rattle.tree.proofs.Frames.{except, except_two}

module _ (top : ℕ) where
  small_take : (i : ℕ) (es : List Entry) → Small top es → Small top (take i es)
  small_take zero es h = tt
  small_take (suc i) [] h = tt
  small_take (suc i) (entry k c ∷ es) h = (h.0, h.1, small_take i es h.2)

  small_drop : (i : ℕ) (es : List Entry) → Small top es → Small top (drop i es)
  small_drop zero es h = h
  small_drop (suc i) [] h = tt
  small_drop (suc i) (entry k c ∷ es) h = small_drop i es h.2

  last_small : (es : List Entry) → Small top es → last_key es ≤ top
  last_small [] h = omega arith
  last_small (entry k c ∷ []) h = h.0
  last_small (entry k c ∷ (f ∷ es)) h = last_small (f ∷ es) h.2

module _ (o : Order) (top : ℕ) where
  inserted : (es : List Entry) (k v : ℕ) → k ≤ top → v ≤ top → Small top es → Small top (insert o.before es k v)
  inserted [] k v p q h = (p, q, tt)
  inserted (entry e w ∷ es) k v p q h =
      let rest = inserted es k v p q h.2 in
      cond_both (eqb e k) (entry k v ∷ es) (cond (o.before e k) (entry e w ∷ insert o.before es k v) (entry k v ∷ (entry e w ∷ es))) (Small top)
      (λ _. (p, q, h.2))
      (λ _. cond_both (o.before e k) (entry e w ∷ insert o.before es k v) (entry k v ∷ (entry e w ∷ es)) (Small top) (λ _. (h.0, h.1, rest)) (λ _. (p, q, h)))

  one_more : (es : List Entry) (m d : ℕ) → m ≤ top → d ≤ top → Small top es → Small top (posted o.before es m d)
  one_more [] m d p q h = tt
  one_more (entry e c ∷ []) m d p q h = (p, h.1, (h.0, q, tt))
  one_more (entry e c ∷ (f ∷ es)) m d p q h =
      let rest = one_more (f ∷ es) m d p q h.2 in
      cond_both (o.before e m) (entry e c ∷ posted o.before (f ∷ es) m d) (entry m c ∷ (entry e d ∷ (f ∷ es))) (Small top) (λ _. (h.0, h.1, rest)) (λ _. (p, h.1, (h.0, q, h.2)))

module _ (o : Order) where
  pub updates_small : UpdatesSmall o
  updates_small = record {
    rewrites = λ top g g' x y es a b u l h. (let old = subst (Words top) u.was (h x) in
        except (λ n. Words top (g' n)) x (subst (Words top) (sym u.now) (old.0, old.1, l)) (λ n nx. subst (Words top) (sym (u.same n nx)) (h n)));
    overflows = λ top g g' x d i y es a b u l m h. (let old = subst (Words top) u.was (h x) in except_two (λ n. Words top (g' n)) x d
        (subst (Words top) (sym u.left) (m, last_small top (take i es) (small_take top i es l), small_take top i es l))
        (subst (Words top) (sym u.right) (old.0, old.1, small_drop top i es l))
        (λ n nx nd. subst (Words top) (sym (u.same n nx nd)) (h n)));
    grows = λ top g g' d e i y es a b u l m r h. (let old = subst (Words top) u.was (h 0) in let k = last_small top (take i es) (small_take top i es l) in
        except (λ n. Words top (g' n)) 0 (subst (Words top) (sym u.now) (omega arith, omega arith, (k, m, (omega arith, r, tt))))
        (λ n nz. except_two (λ n. (n ≡ 0 → ⊥) → Words top (g' n)) d e
        (λ _. subst (Words top) (sym u.left) (r, k, small_take top i es l)) (λ _. subst (Words top) (sym u.right) (old.0, old.1, small_drop top i es l))
        (λ n nd ne nz. subst (Words top) (sym (u.same n nz nd ne)) (h n)) n nz));
    inserted = inserted o;
    one_more = one_more o;
    last = λ top i es h. last_small top (take i es) (small_take top i es h);
  }

  pub in_use : InUse o
  in_use g count f = (
    (λ k aim n a. ⊎_elim (λ (l : n < count). l) (λ (l : count ≤ n). absurd (subst (At o k aim) (f n l) a)) (cases_lt n count)),
    (λ v lo c h. ⊎_elim (λ (l : c < count). l) (λ (l : count ≤ c). absurd (subst (Is v lo) (f c l) h.1)) (cases_lt c count)),
  )
