-- How records are written on a tape.
use Rattle.std.specs.Prelude.{ℕ, zero, suc, ◌/◌, ◌%◌, ◌^◌, ◌<◌, List, [], ◌∷◌, ◌++◌}
use Rattle.tape.specs.declared.reader.Record.{Record}
use Rattle.tape.specs.declared.reader.Record.TheVariants.{Find, Put, Steps, Abandon}

-- a number as so many bytes, low byte first
abbrev pub little : ℕ → ℕ → List ℕ
little zero w = []
little (suc n) w = w % 256 ∷ little n (w / 256)

-- the length of what follows it, the kind and the fields
abbrev pub bytes_of : Record → List ℕ
bytes_of (Find seat key) = little 2 11 ++ (little 2 1 ++ (little 1 seat ++ little 8 key))
bytes_of (Put seat key value) = little 2 19 ++ (little 2 2 ++ (little 1 seat ++ (little 8 key ++ little 8 value)))
bytes_of (Steps seat count) = little 2 5 ++ (little 2 3 ++ (little 1 seat ++ little 2 count))
bytes_of (Abandon seat) = little 2 3 ++ (little 2 4 ++ little 1 seat)

-- its fields have room in their bytes
abbrev pub Writable : Record → Type 0
Writable (Find seat key) = (seat < 256) × (key < 2 ^ 64)
Writable (Put seat key value) = (seat < 256) × (key < 2 ^ 64) × (value < 2 ^ 64)
Writable (Steps seat count) = (seat < 256) × (count < 2 ^ 16)
Writable (Abandon seat) = seat < 256

-- records, one after the other
abbrev pub bytes_of_all : List Record → List ℕ
bytes_of_all [] = []
bytes_of_all (r ∷ rs) = bytes_of r ++ bytes_of_all rs

abbrev pub AllWritable : List Record → Type 0
AllWritable [] = Unit {0}
AllWritable (r ∷ rs) = Writable r × AllWritable rs
