-- An entry by its two words, and the value of one that has a key.
use Rattle.std.specs.Prelude.{ℕ, cond, List, length, Some, None, Option, ◌==◌, nat_lt, slice_index, slice_index_or}
use Rattle.rules.specs.declared.seat.Entry.{Entry}
use Rattle.rules.specs.Nodes.{entry}

abbrev pub value_at : List Entry → ℕ → ℕ → Option ℕ
value_at es i k = cond (nat_lt i (length es)) (cond ((slice_index_or es i (entry 0 0)).key == k) (Some (slice_index_or es i (entry 0 0)).value) None) None

abbrev pub pair : List ℕ → Entry
pair ws = entry (slice_index ws 0) (slice_index ws 1)
