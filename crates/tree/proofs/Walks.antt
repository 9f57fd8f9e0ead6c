-- A walk: right over a link, down to a child, and what a covering leaf has for the key.
use Rattle.std.proofs.Common.{◌≡◌, ℕ, zero, suc, ◌<◌, ◌≤◌, true, false, not, eqb, ◌⊎◌, List, [], ◌∷◌, Option, sym, refl, ◌∙◌, subst, inl, inr, ⊎_elim, arith}
use Rattle.std.proofs.lemmas.Bool.{ltb-true, ltb-false, eqb-true, eqb-false, or_cases, or_parts, not-true, not-false, cond_both, cases_Bool}
use Rattle.tree.specs.Node.{Entry, entry, Node, lookup, covers, child}
use Rattle.tree.specs.Tree.{Order, Place, free, held, Is, Held, Key, Inner, Good, Fine, Sound, Tells, Answers, At}

module _ (o : Order) where
  pub before_true : (a b : ℕ) → Key o a → Key o b → o.before a b ≡ true → o.rank a < o.rank b
  before_true a b ka kb e = ltb-true (o.rank a) (o.rank b) (sym (o.before_is a b ka kb) ∙ e)

  pub before_false : (a b : ℕ) → Key o a → Key o b → o.before a b ≡ false → o.rank b ≤ o.rank a
  before_false a b ka kb e = ltb-false (o.rank a) (o.rank b) (sym (o.before_is a b ka kb) ∙ e)

  pub good_at : (g : ℕ → Place) (n : ℕ) (y : Node) (a b : ℕ) → Sound o g → g n ≡ held y a b → Good o g y a b
  good_at g n y a b s e = subst (Fine o g) e (s.each n)

  -- what covering says
  pub covered : (g : ℕ → Place) (y : Node) (a b k : ℕ) → Good o g y a b → Key o k → covers o.before y k ≡ true → o.rank k < b
  covered g y a b k s kk c = ⊎_elim
      (λ (e : eqb y.link 0 ≡ true). omega (arith, s.last (eqb-true y.link 0 e), o.rank_in k kk))
      (λ (e : not (o.before y.high k) ≡ true). go (cases_Bool (eqb y.link 0)) e)
      (or_cases (eqb y.link 0) (not (o.before y.high k)) c)
    where
      go : (eqb y.link 0 ≡ true) ⊎ (eqb y.link 0 ≡ false) → not (o.before y.high k) ≡ true → o.rank k < b
      go (inl e) f = omega (arith, s.last (eqb-true y.link 0 e), o.rank_in k kk)
      go (inr e) f = let h = s.next (eqb-false y.link 0 e) in omega (arith, h.1, before_false y.high k h.0 kk (not-true (o.before y.high k) f))

  pub uncovered : (g : ℕ → Place) (y : Node) (a b k : ℕ) → Good o g y a b → Key o k → covers o.before y k ≡ false → Held g y.level b y.link × (b ≤ o.rank k)
  uncovered g y a b k s kk c =
      let p = or_parts (eqb y.link 0) (not (o.before y.high k)) c in
      let h = s.next (eqb-false y.link 0 p.0) in
      let l = before_true y.high k h.0 kk (not-false (o.before y.high k) p.1) in
      (h.2, omega (arith, h.1, l))

  -- a node that is where it should be takes a seat
  pub seated : (k aim v lo : ℕ) (p : Place) → Is v lo p → aim ≤ v → lo ≤ o.rank k → At o k aim p
  seated k aim v lo free i l r = absurd i
  seated k aim v lo (held y a b) i l r = (omega arith, omega arith)

  pub move_right : (g : ℕ → Place) (n : ℕ) (y : Node) (a b k aim : ℕ) → Sound o g → g n ≡ held y a b → Key o k → At o k aim (g n)
      → covers o.before y k ≡ false → At o k aim (g y.link)
  move_right g n y a b k aim s e kk at c =
      let u = uncovered g y a b k (good_at g n y a b s e) kk c in
      let h = subst (At o k aim) e at in
      seated k aim y.level b (g y.link) u.0.1 h.0 u.1

  pub child_held : (C : ℕ → ℕ → Type 0) (k : ℕ) → Key o k → (es : List Entry) (lo hi h : ℕ) → Inner o C lo hi h es → lo ≤ o.rank k
      → (l : ℕ) × (l ≤ o.rank k) × C l (child o.before es k)
  child_held C k kk [] lo hi h r l = absurd r
  child_held C k kk (entry e c ∷ []) lo hi h r l = (lo, l, r.0)
  child_held C k kk (entry e c ∷ (f ∷ es)) lo hi h r l =
      let rest = child_held C k kk (f ∷ es) (suc (o.rank e)) hi h r.3 in
      cond_both (o.before e k) (child o.before (f ∷ es) k) c (λ x. (l : ℕ) × (l ≤ o.rank k) × C l x)
      (λ t. rest (before_true e k r.1 kk t)) (λ f. (lo, l, r.0))

  pub move_down : (g : ℕ → Place) (n : ℕ) (y : Node) (a b k aim : ℕ) → Sound o g → g n ≡ held y a b → Key o k → At o k aim (g n)
      → aim < y.level → At o k aim (g (child o.before y.entries k))
  move_down g n y a b k aim s e kk at c = go y.level refl
    where
      h : At o k aim (held y a b)
      h = subst (At o k aim) e at

      go : (v : ℕ) → y.level ≡ v → At o k aim (g (child o.before y.entries k))
      go zero z = absurd (omega arith)
      go (suc v) z =
          let q = child_held (Held g v) k kk y.entries a b y.high ((good_at g n y a b s e).inner v z) h.1 in
          seated k aim v q.0 (g (child o.before y.entries k)) q.2.1 (omega arith) q.1

  pub leaf_answers : (g : ℕ → Place) (m : ℕ → Option ℕ) (n : ℕ) (y : Node) (a b k : ℕ) → Sound o g → Answers o g m → g n ≡ held y a b → Key o k → At o k 0 (g n)
      → y.level ≡ 0 → covers o.before y k ≡ true → m k ≡ lookup y.entries k
  leaf_answers g m n y a b k s w e kk at z c =
      subst (Tells o m k) e (w n k kk) z (subst (At o k 0) e at).1 (covered g y a b k (good_at g n y a b s e) kk c)
