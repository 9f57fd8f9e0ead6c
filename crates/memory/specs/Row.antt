-- What the calls on a row of cells answer and leave, over any row and any top word.
use Rattle.std.specs.Prelude.{ℕ, cond, List, length, take, drop, Ok, Err, Result, ◌==◌, nat_lt, slice_index, slice_set}
use Rattle.memory.specs.declared.fault.Fault.{Fault}
use Rattle.memory.specs.declared.fault.Fault.TheVariants.{NoCell, TooWide}

-- a row stops at 65,536 cells: those that a list of words gives, and what lies past them
unfoldable pub front : List ℕ → List ℕ
front words = take 65536 words

unfoldable pub beyond : List ℕ → List ℕ
beyond words = drop 65536 words

-- a read answers the cell's word
abbrev pub read_at : List ℕ → ℕ → Result ℕ Fault
read_at row cell = cond (nat_lt cell (length row)) (Ok (slice_index row cell)) (Err NoCell)

-- a call that stores a word answers `told`, unless the cell is outside the row or, in the row, the word is above the top word
abbrev pub guarded : {A : Type 0} → List ℕ → ℕ → ℕ → ℕ → A → Result A Fault
guarded row top cell word told = cond (nat_lt cell (length row)) (cond (nat_lt top word) (Err TooWide) (Ok told)) (Err NoCell)

-- the row after a write: the cell holds the word, every other cell what it held. A word above the top word is not
-- stored, and neither is one for a cell outside the row, past which `slice_set` changes nothing
abbrev pub written : List ℕ → ℕ → ℕ → ℕ → List ℕ
written row top cell word = cond (nat_lt top word) row (slice_set row cell word)

-- the row after a swap: the word is stored only where the cell held the expected one
abbrev pub swapped : List ℕ → ℕ → ℕ → ℕ → ℕ → List ℕ
swapped row top cell expected word = cond (slice_index row cell == expected) (written row top cell word) row
