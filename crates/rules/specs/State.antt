-- The state of an index.
use Rattle.std.specs.Prelude.{ℕ, zero, suc, ◌/◌, Bool, List, [], length, slice_index_or, slice_set}
use Rattle.rules.specs.Seats.{resting}
use Rattle.rules.specs.declared.access.Extent.{Extent}
use Rattle.rules.specs.declared.seat.Seat.{Seat}

-- the memory's cells and top word, the order's keys and which key comes before which, the fan (0 before format), how many
-- nodes are in use, and the seats
pub record State : Type 0 where
  pub cells : List ℕ
  pub top : ℕ
  pub iskey : ℕ → Bool
  pub before : ℕ → ℕ → Bool
  pub fan : ℕ
  pub count : ℕ
  pub seats : List Seat

-- seat `i`; past the table's end a seat with nothing in it
abbrev pub seat_at : List Seat → ℕ → Seat
seat_at ss i = slice_index_or ss i (resting [] [])

abbrev pub extent_of : State → Extent
extent_of st = record { fan = st.fan; top = st.top; nodes = length st.cells / 32 }

-- the state with another seat `i`
abbrev pub with_seat : State → ℕ → Seat → State
with_seat st i s =
    record { cells = st.cells; top = st.top; iskey = st.iskey; before = st.before; fan = st.fan; count = st.count; seats = slice_set st.seats i s }

-- the first `n` cells set to 0
abbrev pub zeroed : ℕ → List ℕ → List ℕ
zeroed zero cs = cs
zeroed (suc n) cs = slice_set (zeroed n cs) n 0
