-- A row of cells of two, four or eight bytes each, low byte first.
use Rattle.std.specs.Prelude.{ℕ, zero, suc, ◌+◌, ◌*◌, ◌/◌, min, List, [], ◌∷◌, length, take, drop}
use Rattle.memory.specs.declared.width.Width.{Width}
use Rattle.memory.specs.declared.width.Width.TheVariants.{Two, Four, Eight}

-- the bytes of a cell
abbrev pub width_of : Width → ℕ
width_of Two = 2
width_of Four = 4
width_of Eight = 8

-- the highest number of that width
abbrev pub top_of : Width → ℕ
top_of Two = 65535
top_of Four = 4294967295
top_of Eight = 18446744073709551615

-- the number that bytes write, low byte first
abbrev pub value : List ℕ → ℕ
value [] = 0
value (b ∷ bs) = b + 256 * value bs

-- the first n cells of w bytes each
abbrev pub words : ℕ → ℕ → List ℕ → List ℕ
words w zero bs = []
words w (suc n) bs = value (take w bs) ∷ words w n (drop w bs)

-- as many cells as there are whole ones, up to 65,536
abbrev pub count_of : Width → List ℕ → ℕ
count_of width bs = min 65536 (length bs / width_of width)

abbrev pub cells_of : Width → List ℕ → List ℕ
cells_of width bs = words (width_of width) (count_of width bs) bs

-- the bytes past the row: those of cells past the last one, and left-over bytes
abbrev pub rest_of : Width → List ℕ → List ℕ
rest_of width bs = drop (count_of width bs * width_of width) bs
