-- The three laws that every key order shows.
use Rattle.std.specs.Prelude.{◌≡◌, ℕ, Bool, true, false, ◌⊎◌, ◌≢◌}

pub record Ordered (iskey : ℕ → Bool) (before : ℕ → ℕ → Bool) : Type 0 where
  -- no key comes before itself
  pub never : (a : ℕ) → iskey a ≡ true → before a a ≡ false
  -- if a is before b and b before c, a is before c
  pub chain : (a b c : ℕ) → iskey a ≡ true → iskey b ≡ true → iskey c ≡ true → before a b ≡ true → before b c ≡ true → before a c ≡ true
  -- of two different keys one is before the other
  pub total : (a b : ℕ) → iskey a ≡ true → iskey b ≡ true → (a ≢ b) → (before a b ≡ true) ⊎ (before b a ≡ true)
