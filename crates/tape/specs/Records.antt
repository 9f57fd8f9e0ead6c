-- The records of a tape: how its bytes are read. A tape is a row of bytes, each below 256.
use Rattle.std.specs.Prelude.{ℕ, zero, suc, ◌+◌, Bool, cond, List, length, take, drop, Ok, Err, Result, ◌==◌, nat_lt, slice_index}
use Rattle.memory.specs.Bytes.{value}
use Rattle.tape.specs.declared.fault.TapeFault.{TapeFault}
use Rattle.tape.specs.declared.fault.TapeFault.TheVariants.{LongTape, CutRecord, StrangeKind, WrongLength}
use Rattle.tape.specs.declared.reader.Record.{Record}
use Rattle.tape.specs.declared.reader.Record.TheVariants.{Find, Put, Steps, Abandon}

abbrev pub tape_fault_number : TapeFault → ℕ
tape_fault_number LongTape = 32
tape_fault_number CutRecord = 33
tape_fault_number StrangeKind = 34
tape_fault_number WrongLength = 35

abbrev pub kind_of : Record → ℕ
kind_of (Find seat key) = 1
kind_of (Put seat key value) = 2
kind_of (Steps seat count) = 3
kind_of (Abandon seat) = 4

-- the number of `n` bytes from `at` on, low byte first
unfoldable pub number_at : List ℕ → ℕ → ℕ → ℕ
number_at bytes at n = value (take n (drop at bytes))

-- a record begins with its length, that of what follows, and its kind
abbrev pub length_in : List ℕ → ℕ
length_in bytes = number_at bytes 0 2

abbrev pub kind_in : List ℕ → ℕ
kind_in bytes = number_at bytes 2 2

-- then comes the seat
abbrev pub seat_in : List ℕ → ℕ
seat_in bytes = slice_index bytes 4

-- the bytes that a record takes
abbrev pub span : List ℕ → ℕ
span bytes = 2 + length_in bytes

-- a record, if its length is that of its kind
abbrev pub sized : Bool → Record → Result Record TapeFault
sized right r = cond right (Ok r) (Err WrongLength)

-- the record of this kind and length, by its bytes
abbrev pub record_of : ℕ → ℕ → List ℕ → Result Record TapeFault
record_of kind len bytes =
    cond (kind == 1) (sized (len == 11) (Find (seat_in bytes) (number_at bytes 5 8)))
    (cond (kind == 2) (sized (len == 19) (Put (seat_in bytes) (number_at bytes 5 8) (number_at bytes 13 8)))
    (cond (kind == 3) (sized (len == 5) (Steps (seat_in bytes) (number_at bytes 5 2)))
    (cond (kind == 4) (sized (len == 3) (Abandon (seat_in bytes)))
    (Err StrangeKind))))

-- the record that bytes begin with. It is cut where fewer than four bytes are left, or fewer than its length after the length
abbrev pub next_record : List ℕ → Result Record TapeFault
next_record bytes =
    cond (nat_lt (length bytes) 4) (Err CutRecord)
    (cond (nat_lt (length bytes) (span bytes)) (Err CutRecord)
    (record_of (kind_in bytes) (length_in bytes) bytes))

-- what a tape says: that it is over, that the record at this offset is faulty, or a record and what comes after it
pub data Tape : Type 0 where
  over : Tape
  faulty : TapeFault → ℕ → Tape
  then : Record → Tape → Tape

abbrev pub begun_with : Result Record TapeFault → ℕ → Tape → Tape
begun_with (Ok r) at rest = then r rest
begun_with (Err f) at rest = faulty f at

-- what bytes say whose first is at offset `at`; no more than `most` records are read
abbrev pub read_from : ℕ → ℕ → List ℕ → Tape
read_from zero at bytes = over
read_from (suc most) at bytes =
    cond (length bytes == 0) over
    (begun_with (next_record bytes) at (read_from most (at + span bytes) (drop (span bytes) bytes)))

-- what a tape of these bytes says. It has at most 4,096 of them, and fewer records than bytes
abbrev pub tape_of : List ℕ → Tape
tape_of bytes = cond (nat_lt 4096 (length bytes)) (faulty LongTape 0) (read_from (length bytes) 0 bytes)
