-- What a step takes of the index, over a memory of these cells and this top word.
use Rattle.std.specs.Prelude.{ℕ, ◌/◌, List, length}
use Rattle.rules.specs.declared.access.Extent.{Extent}

abbrev pub extent_over : ℕ → List ℕ → ℕ → Extent
extent_over fan cells top = record { fan = fan; top = top; nodes = length cells / 32 }
