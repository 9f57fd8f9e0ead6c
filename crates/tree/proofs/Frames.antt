-- What an update leaves as it was: a node that is not touched stays good if the nodes that it names stay where they are.
use Rattle.std.proofs.Common.{◌≡◌, ℕ, zero, suc, ◌≤◌, sym, refl, ap, ◌∙◌, subst, inl, inr, ⊎_elim, arith}
use Rattle.std.proofs.lemmas.Bool.{cases_eq}
use Rattle.tree.specs.Node.{Node}
use Rattle.tree.specs.Tree.{Order, Place, free, held, Is, Held, Root, Apart, Lower, ApartFrom, Good, Fine, Sound}
use Rattle.tree.proofs.Rows.{inner_map, inner_kids}

pub except : (P : ℕ → Type 0) (x : ℕ) → P x → ((n : ℕ) → (n ≡ x → ⊥) → P n) → (n : ℕ) → P n
except P x px rest n = ⊎_elim (λ (e : n ≡ x). subst P (sym e) px) (λ (e : n ≡ x → ⊥). rest n e) (cases_eq n x)

pub except_two : (P : ℕ → Type 0) (x d : ℕ) → P x → P d → ((n : ℕ) → (n ≡ x → ⊥) → (n ≡ d → ⊥) → P n) → (n : ℕ) → P n
except_two P x d px pd rest = except P x px (λ n nx. except (λ n. (n ≡ x → ⊥) → P n) d (λ _. pd) (λ n nd nx. rest n nx nd) n nx)

pub apart_sym : (p q : Place) → Apart p q → Apart q p
apart_sym free free h = tt
apart_sym free (held z c e) h = tt
apart_sym (held y a b) free h = tt
apart_sym (held y a b) (held z c e) h = λ l. ⊎_elim (λ (i : b ≤ c). inr i) (λ (i : e ≤ a). inl i) (h (sym l))

pub apart_within : (y z : Node) (a b a' b' : ℕ) (q : Place) → z.level ≡ y.level → a ≤ a' → b' ≤ b → Apart (held y a b) q → Apart (held z a' b') q
apart_within y z a b a' b' free l m r h = tt
apart_within y z a b a' b' (held w c e) l m r h = λ k. ⊎_elim (λ (i : b ≤ c). inl (omega arith)) (λ (i : e ≤ a). inr (omega arith)) (h (sym l ∙ k))

pub lower_like : (y z : Node) (a b a' b' : ℕ) (q : Place) → z.level ≡ y.level → Lower (held y a b) q → Lower (held z a' b') q
lower_like y z a b a' b' free l h = tt
lower_like y z a b a' b' (held w c e) l h = omega arith

pub lower_under : (y z : Node) (a b a' b' : ℕ) (p : Place) → y.level ≤ z.level → Lower p (held y a b) → Lower p (held z a' b')
lower_under y z a b a' b' free l h = tt
lower_under y z a b a' b' (held w c e) l h = omega arith

pub apart_above : (y z : Node) (a b a' b' : ℕ) (p : Place) → y.level ≤ z.level → Lower p (held y a b) → Apart (held z a' b') p
apart_above y z a b a' b' free l h = tt
apart_above y z a b a' b' (held w c e) l h = λ k. absurd (omega arith)

pub taken_not_free : (g : ℕ → Place) (n d : ℕ) (y : Node) (a b : ℕ) → g n ≡ held y a b → g d ≡ free → n ≡ d → ⊥
taken_not_free g n d y a b p q e = let z : ◌≡◌ {A = ℕ} 0 1 = cc in omega arith

module _ (o : Order) where
  pub good_kept : (g g' : ℕ → Place) (y : Node) (a b : ℕ) → ((v lo c : ℕ) → Held g v lo c → Held g' v lo c) → Good o g y a b → Good o g' y a b
  good_kept g g' y a b f s = record {
    span = s.span;
    last = s.last;
    next = λ z. (let h = s.next z in (h.0, h.1, f y.level b y.link h.2));
    leaf = s.leaf;
    inner = λ v z. inner_map o (Held g v) (Held g' v) (f v) y.entries a b y.high (s.inner v z);
  }

  pub fine_kept : (g g' : ℕ → Place) (p : Place) → ((v lo c : ℕ) → Held g v lo c → Held g' v lo c) → Fine o g p → Fine o g' p
  fine_kept g g' free f s = tt
  fine_kept g g' (held y a b) f s = good_kept g g' y a b f s

  pub root_not_free : (g : ℕ → Place) (d : ℕ) → Sound o g → g d ≡ free → d ≡ 0 → ⊥
  root_not_free g d s e z = subst Root (ap g (sym z) ∙ e) s.root

  -- two places of one level that hold from one rank on are one
  overlap : (g : ℕ → Place) (v lo : ℕ) (p q : Place) → Is v lo p → Is v lo q → Fine o g p → Fine o g q → Apart p q → ⊥
  overlap g v lo free q i j f h a = i
  overlap g v lo (held y a b) free i j f h k = j
  overlap g v lo (held y a b) (held z c e) i j f h k = omega (arith, f.span, h.span, k (i.0 ∙ sym j.0))

  pub one_place : (g : ℕ → Place) (v lo c d : ℕ) → Sound o g → Held g v lo c → Held g v lo d → c ≡ d
  one_place g v lo c d s h k = ⊎_elim (λ (e : c ≡ d). e) (λ (e : c ≡ d → ⊥). absurd (overlap g v lo (g c) (g d) h.1 k.1 (s.each c) (s.each d) (s.apart c d e))) (cases_eq c d)

  -- a fresh node is no one's child
  fresh_here : (g : ℕ → Place) (d : ℕ) → g d ≡ free → (p : Place) → Fine o g p → ApartFrom d p
  fresh_here g d e free f = tt
  fresh_here g d e (held y a b) f = go y.level refl
    where
      go : (v : ℕ) → y.level ≡ v → ApartFrom d (held y a b)
      go zero z = λ n. absurd (n z)
      go (suc v) z = λ _. inner_kids o (Held g v) (λ c. c ≡ d → ⊥) (λ lo c h q. subst (Is v lo) (ap g q ∙ e) h.1) y.entries a b y.high (f.inner v z)

  pub fresh_childless : (g : ℕ → Place) (d : ℕ) → Sound o g → g d ≡ free → (n : ℕ) → ApartFrom d (g n)
  fresh_childless g d s e n = fresh_here g d e (g n) (s.each n)

  pub held_not_free : (g : ℕ → Place) (v lo c d : ℕ) → Held g v lo c → g d ≡ free → c ≡ d → ⊥
  held_not_free g v lo c d h e q = subst (Is v lo) (ap g q ∙ e) h.1
