-- Lane order: a key is a lane of 8 bits above a place of 32 bits, in millimetres and in two's complement.
use Rattle.std.specs.Prelude.{ℕ, ◌-◌, ◌/◌, ◌%◌, Bool, cond, ℤ, pos, negsuc, int_lt, nat_lt}
use Rattle.order.specs.Lexical.{lexical}

-- the upper 24 bits are 0
abbrev pub lane_key : ℕ → Bool
lane_key a = nat_lt a 1099511627776

-- the lane stands above the low 32 bits
abbrev pub lane : ℕ → ℕ
lane a = a / 4294967296

-- two's complement in 32 bits: from 2147483648 on a number stands for one that is 4294967296 less; `negsuc n` is −1 − n
abbrev pub signed : ℕ → ℤ
signed n = cond (nat_lt n 2147483648) (pos n) (negsuc (4294967295 - n))

-- the place is what the low 32 bits stand for
abbrev pub place : ℕ → ℤ
place a = signed (a % 4294967296)

-- the lower lane first, and within a lane the lower place
abbrev pub lane_before : ℕ → ℕ → Bool
lane_before a b = lexical (lane a) (lane b) (int_lt (place a) (place b))
