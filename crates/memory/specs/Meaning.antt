-- What a memory means beside its cells: the bounds of its row and top word, and what lies outside its row.
use Rattle.std.specs.Prelude.{ℕ, ◌^◌, ◌<◌, ◌≤◌, List, length}

-- at most 65,536 cells, and a top word from 65,535 to 2^64 − 1
pub record Bounded (row : List ℕ) (top : ℕ) : Type 0 where
  pub short : length row ≤ 65536
  pub tall : 65535 ≤ top
  pub wide : top < 2 ^ 64

-- what no call on a memory changes. Of a memory over a loan: which loan it is, and what lies past the row.
-- Of two memories joined: the first one's length, what lies past the joined row, and what lies outside each
pub data Outside : Type 0 where
  lent : ℕ → List ℕ → Outside
  pair : ℕ → List ℕ → Outside → Outside → Outside
