-- Lane order shows the laws.
use Rattle.std.specs.Prelude.{◌≡◌, ℕ, ◌+◌, ◌-◌, ◌%◌, ◌<◌, true, ◌⊎◌, ◌≢◌, int_lt, nat_lt, refl}
use Rattle.std.proofs.Common.{sym, ap, ◌∙◌, inl, inr, arith, ltb-true, ltb-false, lt-ltb, le-ltb}
use Rattle.std.proofs.lemmas.Bool.{cases_Bool, cases_order, ltb_from_iff}
use Rattle.order.specs.Laws.{Ordered}
use Rattle.order.specs.Lexical.{lexical, lexical_true, lexical_rest, lexical_less}
use Rattle.order.specs.Lane.{lane_key, lane, signed, lane_before}

-- how far a number of 32 bits lies above the lowest in two's complement
abbrev raised : ℕ → ℕ
raised n = (n + 2147483648) % 4294967296

nat_lt_same : (a b c d : ℕ) → (a < b → c < d) → (c < d → a < b) → nat_lt a b ≡ nat_lt c d
nat_lt_same a b c d f g = ltb_from_iff (λ h. f (ltb-true a b h), λ h. lt-ltb a b (g h))

signed_raised : (x y : ℕ) → x < 4294967296 → y < 4294967296 → int_lt (signed x) (signed y) ≡ nat_lt (raised x) (raised y)
signed_raised x y p q =
    elim (cases_Bool (nat_lt x 2147483648)) [
      | inl h ↦ elim (cases_Bool (nat_lt y 2147483648)) [
        | inl k ↦ (let a = ltb-true x 2147483648 h in let b = ltb-true y 2147483648 k in rw (h, k) (nat_lt_same x y (raised x) (raised y) (λ l. omega arith) (λ l. omega arith)))
        | inr k ↦ (let a = ltb-true x 2147483648 h in let b = ltb-false y 2147483648 k in rw (h, k) (sym (le-ltb (raised x) (raised y) (omega arith))))
      ]
      | inr h ↦ elim (cases_Bool (nat_lt y 2147483648)) [
        | inl k ↦ (let a = ltb-false x 2147483648 h in let b = ltb-true y 2147483648 k in rw (h, k) (sym (lt-ltb (raised x) (raised y) (omega arith))))
        | inr k ↦ (let a = ltb-false x 2147483648 h in let b = ltb-false y 2147483648 k in rw (h, k) (nat_lt_same (4294967295 - y) (4294967295 - x) (raised x) (raised y) (λ l. omega arith) (λ l. omega arith)))
      ]
    ]

-- how far a key's place lies above the lowest one
abbrev height : ℕ → ℕ
height a = raised (a % 4294967296)

by_height : (a b : ℕ) → lane_before a b ≡ lexical (lane a) (lane b) (nat_lt (height a) (height b))
by_height a b = ap (lexical (lane a) (lane b)) (signed_raised (a % 4294967296) (b % 4294967296) (omega arith) (omega arith))

chained : (a b c : ℕ) → lane_before a b ≡ true → lane_before b c ≡ true → lane_before a c ≡ true
chained a b c p q =
    by_height a c ∙ elim (lexical_true (lane a) (lane b) (nat_lt (height a) (height b)) (sym (by_height a b) ∙ p)) [
      | inl u ↦ elim (lexical_true (lane b) (lane c) (nat_lt (height b) (height c)) (sym (by_height b c) ∙ q)) [
        | inl v ↦ (let h = ltb-true (height a) (height b) u.1 in let k = ltb-true (height b) (height c) v.1 in lexical_rest (lane a) (lane c) _ (u.0 ∙ v.0) ∙ lt-ltb (height a) (height c) (omega (arith, h, k)))
        | inr v ↦ (let e = u.0 in lexical_less (lane a) (lane c) _ (omega (arith, e, v)))
      ]
      | inr u ↦ elim (lexical_true (lane b) (lane c) (nat_lt (height b) (height c)) (sym (by_height b c) ∙ q)) [
        | inl v ↦ (let e = v.0 in lexical_less (lane a) (lane c) _ (omega (arith, u, e)))
        | inr v ↦ lexical_less (lane a) (lane c) _ (omega (arith, u, v))
      ]
    ]

either : (a b : ℕ) → (a ≢ b) → (lane_before a b ≡ true) ⊎ (lane_before b a ≡ true)
either a b ne =
    elim (cases_order (lane a) (lane b)) [
      | inl e ↦ elim (cases_order (height a) (height b)) [
        | inl f ↦ absurd (ne (omega (arith, e, f)))
        | inr u ↦ elim u [
          | inl h ↦ inl (by_height a b ∙ lexical_rest (lane a) (lane b) _ e ∙ lt-ltb (height a) (height b) h)
          | inr h ↦ inr (by_height b a ∙ lexical_rest (lane b) (lane a) _ (sym e) ∙ lt-ltb (height b) (height a) h)
        ]
      ]
      | inr u ↦ elim u [ inl h ↦ inl (lexical_less (lane a) (lane b) _ h) | inr h ↦ inr (lexical_less (lane b) (lane a) _ h) ]
    ]

pub lane_ordered : Ordered lane_key lane_before
lane_ordered = record {
  never = λ a x. by_height a a ∙ lexical_rest (lane a) (lane a) _ refl ∙ le-ltb (height a) (height a) (omega arith);
  chain = λ a b c x y z p q. chained a b c p q;
  total = λ a b x y ne. either a b ne;
}
