-- A child and a value, by the key's rank.
use Rattle.std.proofs.Common.{◌≡◌, ℕ, zero, suc, ◌+◌, ◌-◌, ◌<◌, min, Bool, true, false, cond, eqb, ltb, List, [], ◌∷◌, length, get_or, Some, None, sym, refl, one-add, arith}
use native.Mathlib.Nat.{min-zero, zero-min, suc-min-suc}
use Rattle.std.proofs.lemmas.Bool.{cond_both, ltb-true, ltb-false, eqb-true, eqb-false, ne_eqb, eq-eqb}
use Rattle.node.specs.Values.{value_at}
use Rattle.rules.specs.declared.seat.Entry.{Entry}
use Rattle.rules.specs.Nodes.{entry, rank, child, found}

module _ (before : ℕ → ℕ → Bool) (k : ℕ) where
  -- the entry at the rank
  found_here : (es : List Entry) → rank before k es < length es → (get_or es (rank before k es) (entry 0 0)).key ≡ k
      → found before k es ≡ Some (get_or es (rank before k es) (entry 0 0)).value
  found_here [] = λ h e. absurd (omega arith)
  found_here (x ∷ es) = elim (before x.key k) as (λ b.
      cond b (1 + rank before k es) 0 < suc (length es) → (get_or (x ∷ es) (cond b (1 + rank before k es) 0) (entry 0 0)).key ≡ k
      → cond b (found before k es) (cond (eqb x.key k) (Some x.value) None) ≡ Some (get_or (x ∷ es) (cond b (1 + rank before k es) 0) (entry 0 0)).value) [
        | true ↦ λ h e. rw one-add (found_here es (omega arith) (rw one-add at e))
        | false ↦ λ h e. rw (eq-eqb x.key k e)
      ]

  found_not : (es : List Entry) → (rank before k es < length es → (get_or es (rank before k es) (entry 0 0)).key ≡ k → ⊥) → found before k es ≡ None
  found_not [] = λ h. refl
  found_not (x ∷ es) = elim (before x.key k) as (λ b.
      (cond b (1 + rank before k es) 0 < suc (length es) → (get_or (x ∷ es) (cond b (1 + rank before k es) 0) (entry 0 0)).key ≡ k → ⊥)
      → cond b (found before k es) (cond (eqb x.key k) (Some x.value) None) ≡ None) [
        | true ↦ λ h. found_not es (λ l e. h (omega arith) (rw one-add e))
        | false ↦ λ h. rw (ne_eqb x.key k (h (omega arith)))
      ]

  child_ranked : (es : List Entry) (n : ℕ) → length es ≡ suc n → child before k es ≡ (get_or es (min (rank before k es) n) (entry 0 0)).value
  child_ranked [] n h = absurd (omega arith)
  child_ranked (x ∷ []) n h = let z : n ≡ 0 = omega arith in rw (z, min-zero)
  child_ranked (x ∷ (y ∷ es)) zero h = absurd (omega arith)
  child_ranked (x ∷ (y ∷ es)) (suc n) h =
      let more : child before k (y ∷ es) ≡ (get_or (y ∷ es) (min (rank before k (y ∷ es)) n) (entry 0 0)).value = child_ranked (y ∷ es) n (omega arith) in
      elim (before x.key k) as (λ b.
      cond b (child before k (y ∷ es)) x.value ≡ (get_or (x ∷ (y ∷ es)) (min (cond b (1 + rank before k (y ∷ es)) 0) (suc n)) (entry 0 0)).value) [
        | true ↦ rw (one-add, suc-min-suc) more
        | false ↦ rw zero-min
      ]

module _ (before : ℕ → ℕ → Bool) (k : ℕ) (es : List Entry) (i : ℕ) (is : i ≡ rank before k es) where
  found_at : i < length es → (get_or es i (entry 0 0)).key ≡ k → Some (get_or es i (entry 0 0)).value ≡ found before k es
  found_at h e = rw is (sym (found_here before k es (omega arith) (rw (sym is) e)))

  found_none : (i < length es → (get_or es i (entry 0 0)).key ≡ k → ⊥) → None ≡ found before k es
  found_none h = sym (found_not before k es (rw (sym is) h))

  pub found_value : value_at es i k ≡ found before k es
  found_value =
      cond_both (ltb i (length es)) _ _ (λ x. x ≡ found before k es)
      (λ l.
      cond_both (eqb (get_or es i (entry 0 0)).key k) _ _ (λ x. x ≡ found before k es)
      (λ e. found_at (ltb-true i (length es) l) (eqb-true (get_or es i (entry 0 0)).key k e))
      (λ ne. found_none (λ _ e. eqb-false (get_or es i (entry 0 0)).key k ne e)))
      (λ p. found_none (λ l _. (let q = ltb-false i (length es) p in omega (arith, l, q))))

  pub child_at : (j : ℕ) → j ≡ min i (length es - 1) → 0 < length es → (get_or es j (entry 0 0)).value ≡ child before k es
  child_at j e h = rw (e, is) (sym (child_ranked before k es (length es - 1) (omega arith)))

pub child_none : (before : ℕ → ℕ → Bool) (k : ℕ) (es : List Entry) → length es ≡ 0 → 0 ≡ child before k es
child_none before k [] h = refl
child_none before k (e ∷ es) h = absurd (omega arith)
