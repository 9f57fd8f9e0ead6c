-- In which of two memories a cell of both lies.
use Rattle.std.specs.Prelude.{ℕ, ◌-◌, cond, nat_lt}
use Rattle.memory.specs.declared.joined.Place.{Place}
use Rattle.memory.specs.declared.joined.Place.TheVariants.{First, Second}

-- the first memory has `split` cells
abbrev pub placed : ℕ → ℕ → Place
placed split cell = cond (nat_lt cell split) (First cell) (Second (cell - split))
