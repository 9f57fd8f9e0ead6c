-- Comparison by one number, and on equal ones by a further test.
use Rattle.std.specs.Prelude.{◌≡◌, ℕ, ◌<◌, Bool, true, false, cond, ◌⊎◌, ◌==◌, nat_lt, refl}
use Rattle.std.proofs.Common.{inl, inr, arith, ltb-true, lt-ltb, eqb-true, eq-eqb, ne_eqb}

abbrev pub lexical : ℕ → ℕ → Bool → Bool
lexical x y rest = cond (x == y) rest (nat_lt x y)

pub lexical_true : (x y : ℕ) (rest : Bool) → lexical x y rest ≡ true → ((x ≡ y) × (rest ≡ true)) ⊎ (x < y)
lexical_true x y rest =
    elim (x == y) as (λ t. (x == y) ≡ t → cond t rest (nat_lt x y) ≡ true → ((x ≡ y) × (rest ≡ true)) ⊎ (x < y))
    [ true ↦ λ e h. inl (eqb-true x y e, h) | false ↦ λ e h. inr (ltb-true x y h) ] refl

pub lexical_rest : (x y : ℕ) (rest : Bool) → x ≡ y → lexical x y rest ≡ rest
lexical_rest x y rest e = rw (eq-eqb x y e)

pub lexical_less : (x y : ℕ) (rest : Bool) → x < y → lexical x y rest ≡ true
lexical_less x y rest h = rw (ne_eqb x y (λ e. omega arith), lt-ltb x y h)
