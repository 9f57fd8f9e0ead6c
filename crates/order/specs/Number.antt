-- Number order.
use Rattle.std.specs.Prelude.{ℕ, Bool, true, nat_lt}

-- every word is a key
abbrev pub number_key : ℕ → Bool
number_key a = true

-- the smaller comes first
abbrev pub number_before : ℕ → ℕ → Bool
number_before a b = nat_lt a b
