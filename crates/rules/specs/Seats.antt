-- A seat after a change of some of its parts, and the draft of what it will write.
use Rattle.std.specs.Prelude.{ℕ, ◌+◌, List, ◌++◌, length, take, drop, replicate, slice_set}
use Rattle.rules.specs.Nodes.{entry}
use Rattle.rules.specs.declared.report.Outcome.TheVariants as outcome
use Rattle.rules.specs.declared.seat.Entry.{Entry}
use Rattle.rules.specs.declared.seat.Phase.{Phase}
use Rattle.rules.specs.declared.seat.Phase.TheVariants as phase
use Rattle.rules.specs.declared.seat.Operation.{Operation}
use Rattle.rules.specs.declared.seat.Operation.TheVariants as operation
use Rattle.rules.specs.declared.seat.Draft.{Draft}
use Rattle.rules.specs.declared.seat.Seat.{Seat}

-- the entries of a draft that count
abbrev pub drafted : Draft → List Entry
drafted d = take d.len d.entries

-- those of them that go left, and right, in a split
abbrev pub left_entries : Draft → List Entry
left_entries d = take d.left_len (drafted d)

abbrev pub right_entries : Draft → List Entry
right_entries d = drop d.left_len (drafted d)

-- entries written over the front of others; the rest stays as it was
abbrev pub laid : List Entry → List Entry → List Entry
laid es old = es ++ drop (length es) old

-- a draft of nothing, with these entries
abbrev pub blank : List Entry → Draft
blank es =
    record { freeing = 0; level = 0; outcome = outcome.Stored; left = 0; right = 0; edge = 0; left_len = 0; len = 0; entries = es }

-- a seat at rest, with this copy and these entries in its draft
abbrev pub resting : List ℕ → List Entry → Seat
resting copied es =
    record { operation = operation.Find; phase = phase.Idle; node = 0; aim = 0; key = 0; copy = copied; draft = blank es }

-- a new seat
abbrev pub idle : Seat
idle = resting (replicate 32 0) (replicate 14 (entry 0 0))

abbrev pub in_phase : Seat → Phase → Seat
in_phase s p = record { operation = s.operation; phase = p; node = s.node; aim = s.aim; key = s.key; copy = s.copy; draft = s.draft }

-- on to look at node `n`
abbrev pub at_node : Seat → ℕ → Seat
at_node s n = record { operation = s.operation; phase = phase.Look; node = n; aim = s.aim; key = s.key; copy = s.copy; draft = s.draft }

-- with word `i` of its copy
abbrev pub with_word : Seat → ℕ → ℕ → Phase → Seat
with_word s i w p = record { operation = s.operation; phase = p; node = s.node; aim = s.aim; key = s.key; copy = slice_set s.copy i w; draft = s.draft }

abbrev pub with_draft : Seat → Draft → Phase → Seat
with_draft s d p = record { operation = s.operation; phase = p; node = s.node; aim = s.aim; key = s.key; copy = s.copy; draft = d }

-- from the root on, to the leaf for key `k`
abbrev pub starting_out : Seat → ℕ → Operation → Seat
starting_out s k t = record { operation = t; phase = phase.Look; node = 0; aim = 0; key = k; copy = s.copy; draft = s.draft }

-- from the root on, to post the edge `m` of the split whose right node is `d`, one level higher
abbrev pub posting : Seat → ℕ → ℕ → Seat
posting s m d = record { operation = operation.Post m d; phase = phase.Look; node = 0; aim = s.aim + 1; key = m; copy = s.copy; draft = s.draft }
