-- What a lender's own numbers are after a memory over them was used.
use Rattle.std.specs.Prelude.{ℕ, ◌-◌, cond, List, ◌++◌, length, replicate, nat_lt, slice_set}
use Rattle.memory.specs.Row.{front, beyond}

-- a word stored in a cell of the row; a cell outside the row leaves the numbers as they were
abbrev pub stored : List ℕ → ℕ → ℕ → List ℕ
stored ws cell word = cond (nat_lt cell (length (front ws))) (slice_set ws cell word) ws

-- the same by a cell of two rows joined, for the numbers under the second row: those under the first come before, and
-- the joined row stops at 65,536 cells
abbrev pub stored_second : List ℕ → List ℕ → ℕ → ℕ → List ℕ
stored_second first second cell word =
    cond (nat_lt cell (length (front first))) second
    (cond (nat_lt cell 65536) (stored second (cell - length (front first)) word) second)

-- a row with 0 in every cell
abbrev pub wiped : List ℕ → List ℕ
wiped row = replicate (length row) 0

-- the numbers with 0 in every cell of the row, and those past it as they were
abbrev pub wiped_front : List ℕ → List ℕ
wiped_front ws = wiped (front ws) ++ beyond ws
