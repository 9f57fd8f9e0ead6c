-- Label order: a word is eight bytes, the first letter in the lowest one; a zero byte ends a label.
use Rattle.std.specs.Prelude.{ℕ, zero, suc, ◌/◌, ◌%◌, Bool, false, cond, ◌==◌}
use Rattle.order.specs.Lexical.{lexical}

-- the first letter, and the label without it
abbrev pub letter : ℕ → ℕ
letter a = a % 256

abbrev pub rest : ℕ → ℕ
rest a = a / 256

-- at most `n` letters, and only zeros after a zero byte
abbrev pub spells : ℕ → ℕ → Bool
spells zero a = a == 0
spells (suc n) a = cond (letter a == 0) (a == 0) (spells n (rest a))

-- of at most `n` letters: by the first one, as numbers, and on equal first letters by the rest; an ended label has letter 0,
-- and so comes before one that goes on
abbrev pub leads : ℕ → ℕ → ℕ → Bool
leads zero a b = false
leads (suc n) a b = lexical (letter a) (letter b) (leads n (rest a) (rest b))

abbrev pub label_key : ℕ → Bool
label_key a = spells 8 a

abbrev pub label_before : ℕ → ℕ → Bool
label_before a b = leads 8 a b
