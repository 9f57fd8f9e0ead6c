-- Number order shows the laws.
use Rattle.std.specs.Prelude.{◌≡◌, ℕ, true, ◌⊎◌, ◌≢◌, nat_lt}
use Rattle.std.proofs.Common.{inl, inr, arith, ltb-true, lt-ltb, le-ltb}
use Rattle.order.specs.Laws.{Ordered}
use Rattle.std.proofs.lemmas.Bool.{cases_order}
use Rattle.order.specs.Number.{number_key, number_before}

chained : (a b c : ℕ) → nat_lt a b ≡ true → nat_lt b c ≡ true → nat_lt a c ≡ true
chained a b c p q = let h = ltb-true a b p in let k = ltb-true b c q in lt-ltb a c (omega arith)

either : (a b : ℕ) → (a ≢ b) → (nat_lt a b ≡ true) ⊎ (nat_lt b a ≡ true)
either a b ne =
    elim (cases_order a b) [
      | inl e ↦ absurd (ne e)
      | inr u ↦ elim u [ inl h ↦ inl (lt-ltb a b h) | inr h ↦ inr (lt-ltb b a h) ]
    ]

pub number_ordered : Ordered number_key number_before
number_ordered = record {
  never = λ a x. le-ltb a a (omega arith);
  chain = λ a b c x y z p q. chained a b c p q;
  total = λ a b x y ne. either a b ne;
}
