-- Label order shows the laws.
use Rattle.std.specs.Prelude.{◌≡◌, ℕ, zero, suc, true, false, cond, ◌⊎◌, ◌==◌, ◌≢◌, refl}
use Rattle.std.proofs.Common.{sym, ◌∙◌, inl, inr, arith, eqb-true}
use Rattle.std.proofs.lemmas.Bool.{cases_order}
use Rattle.order.specs.Laws.{Ordered}
use Rattle.order.specs.Lexical.{lexical_true, lexical_rest, lexical_less}
use Rattle.order.specs.Label.{letter, rest, spells, leads, label_key, label_before}

never : (n a : ℕ) → leads n a a ≡ false
never zero a = refl
never (suc n) a = lexical_rest (letter a) (letter a) _ refl ∙ never n (rest a)

chained : (n a b c : ℕ) → leads n a b ≡ true → leads n b c ≡ true → leads n a c ≡ true
chained zero a b c p q = p
chained (suc n) a b c p q =
    elim (lexical_true (letter a) (letter b) (leads n (rest a) (rest b)) p) [
      | inl u ↦ elim (lexical_true (letter b) (letter c) (leads n (rest b) (rest c)) q) [
        | inl v ↦ lexical_rest (letter a) (letter c) _ (u.0 ∙ v.0) ∙ chained n (rest a) (rest b) (rest c) u.1 v.1
        | inr v ↦ (let e = u.0 in lexical_less (letter a) (letter c) _ (omega (arith, e, v)))
      ]
      | inr u ↦ elim (lexical_true (letter b) (letter c) (leads n (rest b) (rest c)) q) [
        | inl v ↦ (let e = v.0 in lexical_less (letter a) (letter c) _ (omega (arith, u, e)))
        | inr v ↦ lexical_less (letter a) (letter c) _ (omega (arith, u, v))
      ]
    ]

-- a label is empty, or the rest of it is a label
spelt : (n a : ℕ) → spells (suc n) a ≡ true → ((letter a ≡ 0) × (a ≡ 0)) ⊎ (spells n (rest a) ≡ true)
spelt n a =
    elim (letter a == 0) as (λ t. (letter a == 0) ≡ t → cond t (a == 0) (spells n (rest a)) ≡ true → ((letter a ≡ 0) × (a ≡ 0)) ⊎ (spells n (rest a) ≡ true))
    [ true ↦ λ e h. inl (eqb-true (letter a) 0 e, eqb-true a 0 h) | false ↦ λ e h. inr h ] refl

-- zeros spell a label of any length
empty : (n : ℕ) → spells n 0 ≡ true
empty zero = refl
empty (suc n) = refl

spelt_rest : (n a : ℕ) → spells (suc n) a ≡ true → spells n (rest a) ≡ true
spelt_rest n a h =
    elim (spelt n a h) [
      | inl u ↦ (let z : rest a ≡ 0 = (let e = u.1 in omega (arith, e)) in rw z (empty n))
      | inr k ↦ k
    ]

either : (n a b : ℕ) → spells n a ≡ true → spells n b ≡ true → (a ≢ b) → (leads n a b ≡ true) ⊎ (leads n b a ≡ true)
either zero a b x y ne = absurd (ne (eqb-true a 0 x ∙ sym (eqb-true b 0 y)))
either (suc n) a b x y ne =
    elim (cases_order (letter a) (letter b)) [
      | inl e ↦ elim (either n (rest a) (rest b) (spelt_rest n a x) (spelt_rest n b y) (λ f. ne (omega (arith, e, f)))) [
        | inl h ↦ inl (lexical_rest (letter a) (letter b) _ e ∙ h)
        | inr h ↦ inr (lexical_rest (letter b) (letter a) _ (sym e) ∙ h)
      ]
      | inr u ↦ elim u [ inl h ↦ inl (lexical_less (letter a) (letter b) _ h) | inr h ↦ inr (lexical_less (letter b) (letter a) _ h) ]
    ]

pub label_ordered : Ordered label_key label_before
label_ordered = record {
  never = λ a x. never 8 a;
  chain = λ a b c x y z p q. chained 8 a b c p q;
  total = λ a b x y ne. either 8 a b x y ne;
}
