-- What the program prints.
use Rattle.std.specs.Prelude.{ℕ, Bool, List, replicate}
use Rattle.order.specs.Number.{number_key, number_before}
use Rattle.rules.specs.Calls.{format}
use Rattle.rules.specs.Seats.{idle}
use Rattle.rules.specs.State.{State}
use Rattle.tape.specs.Lines.{lines_text}
use Rattle.tape.specs.Play.{play}

-- an index before its format
abbrev pub unformatted : List ℕ → ℕ → (ℕ → Bool) → (ℕ → ℕ → Bool) → State
unformatted cells top iskey before =
    record { cells = cells; top = top; iskey = iskey; before = before; fan = 0; count = 0; seats = replicate 8 idle }

-- 512 word cells that hold 0, in number order, formatted with at most 3 entries to a node
unfoldable pub start : State
start = (format (unformatted (replicate 512 0) 18446744073709551615 number_key number_before) 3).1

abbrev pub printed : List ℕ → List ℕ
printed tape = lines_text (play start tape).lines
