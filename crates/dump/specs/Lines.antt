-- The cells of a memory as lines: rows of 32 cells, and runs of rows that are all 0.
use Rattle.std.specs.Prelude.{◌≡◌, ℕ, zero, suc, ◌+◌, ◌/◌, ◌<◌, ◌≤◌, Bool, true, false, cond, ◌&&◌, List, [], ◌∷◌, ◌++◌, length, take, drop, replicate, ◌==◌}

-- the first n rows of 32 cells each, of which the last may be shorter
abbrev pub cut : ℕ → List ℕ → List (List ℕ)
cut zero cells = []
cut (suc n) cells = take 32 cells ∷ cut n (drop 32 cells)

-- the rows that hold all cells
abbrev pub rows_of : List ℕ → List (List ℕ)
rows_of cells = cut ((length cells + 31) / 32) cells

abbrev pub all_zero : List ℕ → Bool
all_zero [] = true
all_zero (word ∷ row) = word == 0 && all_zero row

-- a line stands for the cells from `first` on: for n that are 0, or for a row
pub data Line : Type 0 where
  zeros : (first n : ℕ) → Line
  words : (first : ℕ) (row : List ℕ) → Line

-- n zeros before lines; a run of zeros that the lines begin with is joined to them
abbrev pub zeros_before : ℕ → ℕ → List Line → List Line
zeros_before first n [] = zeros first n ∷ []
zeros_before first n (zeros next m ∷ lines) = zeros first (n + m) ∷ lines
zeros_before first n (words next row ∷ lines) = zeros first n ∷ (words next row ∷ lines)

-- the lines of rows of which the first begins at cell `first`
abbrev pub lines_from : ℕ → List (List ℕ) → List Line
lines_from first [] = []
lines_from first (row ∷ rows) =
    cond (all_zero row) (zeros_before first (length row) (lines_from (first + length row) rows)) (words first row ∷ lines_from (first + length row) rows)

abbrev pub lines_of : List ℕ → List Line
lines_of cells = lines_from 0 (rows_of cells)

-- the lines do not begin with a run of zeros
abbrev pub Worded : List Line → Type 0
Worded [] = Unit {0}
Worded (zeros first n ∷ lines) = ⊥
Worded (words first row ∷ lines) = Unit {0}

-- The lines stand for the cells from `first` on: each for the next of them, and all of them together for every cell.
-- No run of zeros meets another, and a row has at most 32 cells that are not all 0
abbrev pub StandFor : ℕ → List Line → List ℕ → Type 0
StandFor first [] cells = cells ≡ []
StandFor first (zeros at n ∷ lines) cells =
    (at ≡ first) × (0 < n) × Worded lines × ((rest : List ℕ) × (cells ≡ replicate n 0 ++ rest) × StandFor (first + n) lines rest)
StandFor first (words at row ∷ lines) cells =
    (at ≡ first) × (0 < length row) × (length row ≤ 32) × (all_zero row ≡ false) × ((rest : List ℕ) × (cells ≡ row ++ rest) × StandFor (first + length row) lines rest)
