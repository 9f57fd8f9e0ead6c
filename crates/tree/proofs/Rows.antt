-- Rows of entries, of a leaf and of an inner node: how far they reach, and how they are cut in two.
use Rattle.std.proofs.Common.{◌≡◌, ℕ, zero, suc, ◌<◌, ◌≤◌, false, cond, eqb, List, [], ◌∷◌, length, take, drop, Some, None, refl, ap, ◌∙◌, arith}
use Rattle.std.proofs.lemmas.Bool.{ne_eqb, cond-false}
use Rattle.tree.specs.Node.{Entry, entry, lookup, last_key}
use Rattle.tree.specs.Tree.{Order, Key, Leaf, Inner, Kids}

pub kids_take : (P : ℕ → Type 0) (i : ℕ) (es : List Entry) → Kids P es → Kids P (take i es)
kids_take P zero es h = tt
kids_take P (suc i) [] h = tt
kids_take P (suc i) (entry k c ∷ es) h = (h.0, kids_take P i es h.1)

pub kids_drop : (P : ℕ → Type 0) (i : ℕ) (es : List Entry) → Kids P es → Kids P (drop i es)
kids_drop P zero es h = h
kids_drop P (suc i) [] h = tt
kids_drop P (suc i) (entry k c ∷ es) h = kids_drop P i es h.1

module _ (o : Order) where
  pub leaf_span : (es : List Entry) (lo hi : ℕ) → Leaf o lo hi es → lo ≤ hi
  leaf_span [] lo hi r = r
  leaf_span (entry k v ∷ es) lo hi r = let h = leaf_span es (suc (o.rank k)) hi r.2 in omega arith

  pub inner_span : (C : ℕ → ℕ → Type 0) (es : List Entry) (lo hi h : ℕ) → Inner o C lo hi h es → lo < hi
  inner_span C [] lo hi h r = absurd r
  inner_span C (entry k c ∷ []) lo hi h r = r.2
  inner_span C (entry k c ∷ (f ∷ es)) lo hi h r = let l = inner_span C (f ∷ es) (suc (o.rank k)) hi h r.3 in omega arith

  pub inner_map : (C D : ℕ → ℕ → Type 0) → ((lo c : ℕ) → C lo c → D lo c) → (es : List Entry) (lo hi h : ℕ) → Inner o C lo hi h es → Inner o D lo hi h es
  inner_map C D f [] lo hi h r = r
  inner_map C D f (entry k c ∷ []) lo hi h r = (f lo c r.0, r.1, r.2)
  inner_map C D f (entry k c ∷ (e ∷ es)) lo hi h r = (f lo c r.0, r.1, r.2, inner_map C D f (e ∷ es) (suc (o.rank k)) hi h r.3)

  pub inner_kids : (C : ℕ → ℕ → Type 0) (P : ℕ → Type 0) → ((lo c : ℕ) → C lo c → P c) → (es : List Entry) (lo hi h : ℕ) → Inner o C lo hi h es → Kids P es
  inner_kids C P f [] lo hi h r = tt
  inner_kids C P f (entry k c ∷ []) lo hi h r = (f lo c r.0, tt)
  inner_kids C P f (entry k c ∷ (e ∷ es)) lo hi h r = (f lo c r.0, inner_kids C P f (e ∷ es) (suc (o.rank k)) hi h r.3)

  -- the cut at m
  pub record Cut (R : ℕ → ℕ → List Entry → Type 0) (S : ℕ → ℕ → List Entry → Type 0) (lo hi m : ℕ) (es fs : List Entry) : Type 0 where
    pub key : Key o m
    pub from : lo ≤ o.rank m
    pub to : suc (o.rank m) < hi
    pub left : R lo (suc (o.rank m)) es
    pub right : S (suc (o.rank m)) hi fs

  cut_leaf₁ : (i : ℕ) (es : List Entry) (lo hi : ℕ) → suc i < length es → Leaf o lo hi es
      → Cut (Leaf o) (Leaf o) lo hi (last_key (take (suc i) es)) (take (suc i) es) (drop (suc i) es)
  cut_leaf₁ i [] lo hi l r = absurd (omega arith)
  cut_leaf₁ zero (entry k v ∷ []) lo hi l r = absurd (omega arith)
  cut_leaf₁ (suc i) (entry k v ∷ []) lo hi l r = absurd (omega arith)
  cut_leaf₁ zero (entry k v ∷ (entry f w ∷ es)) lo hi l r =
      let h = leaf_span es (suc (o.rank f)) hi r.2.2 in
      record { key = r.0; from = r.1; to = omega arith; left = (r.0, r.1, omega arith); right = r.2 }
  cut_leaf₁ (suc i) (entry k v ∷ (f ∷ es)) lo hi l r =
      let c = cut_leaf₁ i (f ∷ es) (suc (o.rank k)) hi (omega arith) r.2 in
      record { key = c.key; from = omega arith; to = c.to; left = (r.0, r.1, c.left); right = c.right }

  pub cut_leaf : (i : ℕ) (es : List Entry) (lo hi : ℕ) → 0 < i → i < length es → Leaf o lo hi es → Cut (Leaf o) (Leaf o) lo hi (last_key (take i es)) (take i es) (drop i es)
  cut_leaf zero es lo hi p l r = absurd (omega arith)
  cut_leaf (suc i) es lo hi p l r = cut_leaf₁ i es lo hi l r

  cut_inner₁ : (C : ℕ → ℕ → Type 0) (h i : ℕ) (es : List Entry) (lo hi : ℕ) → suc i < length es → Inner o C lo hi h es
      → Cut (λ a b. Inner o C a b (last_key (take (suc i) es))) (λ a b. Inner o C a b h) lo hi (last_key (take (suc i) es)) (take (suc i) es) (drop (suc i) es)
  cut_inner₁ C h i [] lo hi l r = absurd r
  cut_inner₁ C h zero (entry k v ∷ []) lo hi l r = absurd (omega arith)
  cut_inner₁ C h (suc i) (entry k v ∷ []) lo hi l r = absurd (omega arith)
  cut_inner₁ C h zero (entry k v ∷ (f ∷ es)) lo hi l r =
      record { key = r.1; from = r.2; to = inner_span C (f ∷ es) (suc (o.rank k)) hi h r.3; left = (r.0, refl, omega arith); right = r.3 }
  cut_inner₁ C h (suc i) (entry k v ∷ (f ∷ es)) lo hi l r =
      let c = cut_inner₁ C h i (f ∷ es) (suc (o.rank k)) hi (omega arith) r.3 in
      record { key = c.key; from = omega arith; to = c.to; left = (r.0, r.1, r.2, c.left); right = c.right }

  pub cut_inner : (C : ℕ → ℕ → Type 0) (h i : ℕ) (es : List Entry) (lo hi : ℕ) → 0 < i → i < length es → Inner o C lo hi h es
      → Cut (λ a b. Inner o C a b (last_key (take i es))) (λ a b. Inner o C a b h) lo hi (last_key (take i es)) (take i es) (drop i es)
  cut_inner C h zero es lo hi p l r = absurd (omega arith)
  cut_inner C h (suc i) es lo hi p l r = cut_inner₁ C h i es lo hi l r

  -- what a cut leaf tells
  differ : (e k : ℕ) → (o.rank e ≡ o.rank k → ⊥) → eqb e k ≡ false
  differ e k h = ne_eqb e k (λ q. h (ap o.rank q))

  pub skip : (e v k : ℕ) (es : List Entry) → (o.rank e ≡ o.rank k → ⊥) → lookup (entry e v ∷ es) k ≡ lookup es k
  skip e v k es h = cond-false (eqb e k) (Some v) (lookup es k) (differ e k h)

  pub lookup_below : (k : ℕ) (es : List Entry) (lo hi : ℕ) → Leaf o lo hi es → o.rank k < lo → lookup es k ≡ None
  lookup_below k [] lo hi r l = refl
  lookup_below k (entry e v ∷ es) lo hi r l = skip e v k es (omega arith) ∙ lookup_below k es (suc (o.rank e)) hi r.2 (omega arith)

  lookup_left₁ : (k i : ℕ) (es : List Entry) (lo hi : ℕ) → suc i < length es → Leaf o lo hi es → o.rank k ≤ o.rank (last_key (take (suc i) es))
      → lookup es k ≡ lookup (take (suc i) es) k
  lookup_left₁ k i [] lo hi l r m = refl
  lookup_left₁ k zero (entry e v ∷ []) lo hi l r m = refl
  lookup_left₁ k (suc i) (entry e v ∷ []) lo hi l r m = refl
  lookup_left₁ k zero (entry e v ∷ (f ∷ es)) lo hi l r m = ap (cond (eqb e k) (Some v)) (lookup_below k (f ∷ es) (suc (o.rank e)) hi r.2 (omega arith))
  lookup_left₁ k (suc i) (entry e v ∷ (f ∷ es)) lo hi l r m = ap (cond (eqb e k) (Some v)) (lookup_left₁ k i (f ∷ es) (suc (o.rank e)) hi (omega arith) r.2 m)

  pub lookup_left : (k i : ℕ) (es : List Entry) (lo hi : ℕ) → 0 < i → i < length es → Leaf o lo hi es → o.rank k ≤ o.rank (last_key (take i es))
      → lookup es k ≡ lookup (take i es) k
  lookup_left k zero es lo hi p l r m = absurd (omega arith)
  lookup_left k (suc i) es lo hi p l r m = lookup_left₁ k i es lo hi l r m

  lookup_right₁ : (k i : ℕ) (es : List Entry) (lo hi : ℕ) → suc i < length es → Leaf o lo hi es → o.rank (last_key (take (suc i) es)) < o.rank k
      → lookup es k ≡ lookup (drop (suc i) es) k
  lookup_right₁ k i [] lo hi l r m = refl
  lookup_right₁ k zero (entry e v ∷ []) lo hi l r m = absurd (omega arith)
  lookup_right₁ k (suc i) (entry e v ∷ []) lo hi l r m = absurd (omega arith)
  lookup_right₁ k zero (entry e v ∷ (f ∷ es)) lo hi l r m = skip e v k (f ∷ es) (omega arith)
  lookup_right₁ k (suc i) (entry e v ∷ (f ∷ es)) lo hi l r m =
      let c = cut_leaf₁ i (f ∷ es) (suc (o.rank e)) hi (omega arith) r.2 in
      skip e v k (f ∷ es) (omega arith) ∙ lookup_right₁ k i (f ∷ es) (suc (o.rank e)) hi (omega arith) r.2 m

  pub lookup_right : (k i : ℕ) (es : List Entry) (lo hi : ℕ) → 0 < i → i < length es → Leaf o lo hi es → o.rank (last_key (take i es)) < o.rank k
      → lookup es k ≡ lookup (drop i es) k
  lookup_right k zero es lo hi p l r m = absurd (omega arith)
  lookup_right k (suc i) es lo hi p l r m = lookup_right₁ k i es lo hi l r m
