-- No update leaves a node with more entries than the fan, and storing a pair or posting a split adds at most one entry.
use Rattle.std.proofs.Common.{◌≡◌, ℕ, suc, ◌≤◌, cond, eqb, List, [], ◌∷◌, length, sym, subst, arith, length-drop, length-take}
use Rattle.std.proofs.lemmas.Bool.{cond_both}
use Rattle.tree.specs.Node.{Entry, entry, insert, posted}
use Rattle.tree.specs.Tree.{Order}
use Rattle.tree.specs.Updates.{Fits, half}
use Rattle.tree.specs.Stands.{UpdatesFit}
use Rattle.tree.proofs.Frames.{except, except_two}

module _ (o : Order) where
  inserted : (es : List Entry) (k v : ℕ) → length (insert o.before es k v) ≤ suc (length es)
  inserted [] k v = omega arith
  inserted (entry e w ∷ es) k v =
      let rest = inserted es k v in
      cond_both (eqb e k) (entry k v ∷ es) (cond (o.before e k) (entry e w ∷ insert o.before es k v) (entry k v ∷ (entry e w ∷ es))) (λ l. length l ≤ suc (suc (length es)))
      (λ _. omega arith)
      (λ _. cond_both (o.before e k) (entry e w ∷ insert o.before es k v) (entry k v ∷ (entry e w ∷ es)) (λ l. length l ≤ suc (suc (length es))) (λ _. omega arith) (λ _. omega arith))

  one_more : (es : List Entry) (m d : ℕ) → length (posted o.before es m d) ≤ suc (length es)
  one_more [] m d = omega arith
  one_more (entry e c ∷ []) m d = omega arith
  one_more (entry e c ∷ (f ∷ es)) m d =
      let rest = one_more (f ∷ es) m d in
      cond_both (o.before e m) (entry e c ∷ posted o.before (f ∷ es) m d) (entry m c ∷ (entry e d ∷ (f ∷ es))) (λ l. length l ≤ suc (suc (suc (length es)))) (λ _. omega arith) (λ _. omega arith)

  pub updates_fit : UpdatesFit o
  updates_fit = record {
    rewrites = λ fan g g' x y es a b u l h. except (λ n. Fits fan (g' n)) x (subst (Fits fan) (sym u.now) l) (λ n nx. subst (Fits fan) (sym (u.same n nx)) (h n));
    overflows = λ fan g g' x d y es a b l e u h. except_two (λ n. Fits fan (g' n)) x d
        (subst (Fits fan) (sym u.left) (omega (arith, length-take (half fan) es))) (subst (Fits fan) (sym u.right) (omega (arith, length-drop (half fan) es)))
        (λ n nx nd. subst (Fits fan) (sym (u.same n nx nd)) (h n));
    grows = λ fan g g' d e y es a b l i u h. except (λ n. Fits fan (g' n)) 0 (subst (Fits fan) (sym u.now) (omega arith))
        (λ n nz. except_two (λ n. (n ≡ 0 → ⊥) → Fits fan (g' n)) d e
        (λ _. subst (Fits fan) (sym u.left) (omega (arith, length-take (half fan) es))) (λ _. subst (Fits fan) (sym u.right) (omega (arith, length-drop (half fan) es)))
        (λ n nd ne nz. subst (Fits fan) (sym (u.same n nz nd ne)) (h n)) n nz);
    inserted = inserted;
    one_more = one_more;
    halves = λ fan l. (omega arith, omega arith);
  }
