-- The state that an index stands for.
use Rattle.std.specs.Prelude.{◌≡◌, ℕ, cond, replicate, Some, None, Option, Ok, Err, Result, nat_lt}
use Rattle.rules.specs.Seats.{idle}
use Rattle.rules.specs.State.{State}
use Rattle.rules.specs.declared.refusal.Refusal.{Refusal}
use Rattle.rules.specs.declared.refusal.Refusal.TheVariants.{NoSeat}
use Rattle.index.specs.declared.index.Index.{Index}
use Rattle.index.specs.declared.fan.Fan.{Fan}
use Rattle.memory.specs.declared.memory.Memory as memory
use Rattle.order.specs.declared.order.Order as order

-- no fan is 0, so 0 stands for an index that is not formatted
abbrev pub fan_of : Option Fan → ℕ
fan_of None = 0
fan_of (Some f) = f.entries

-- cells and top word by the memory's meaning, the keys and which comes before which by the order's
abbrev pub view : {M O : Type 0} → memory.Ghosts M → order.Ghosts O → Index M O → State
view m o x = record {
  cells = m.cells x.memory;
  top = m.top x.memory;
  iskey = o.iskey x.order;
  before = o.before x.order;
  fan = fan_of x.fan;
  count = x.count;
  seats = x.seats;
}

-- not yet formatted
pub record Fresh (st : State) : Type 0 where
  pub unformatted : st.fan ≡ 0
  pub empty : st.count ≡ 0
  pub idle : st.seats ≡ replicate 8 idle

-- where seat `i` stands in the table
abbrev pub placed : ℕ → Result ℕ Refusal
placed i = cond (nat_lt i 8) (Ok i) (Err NoSeat)
