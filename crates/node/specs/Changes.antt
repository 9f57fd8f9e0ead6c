-- What a change makes of a node's entries.
use Rattle.std.specs.Prelude.{◌<◌, ◌≤◌, List, Some, None, Option, length, slice_index_or, slice_set}
use Rattle.std.specs.List.{insert}
use Rattle.rules.specs.declared.report.Outcome.{Outcome}
use Rattle.rules.specs.declared.report.Outcome.TheVariants.{Stored, Replaced}
use Rattle.rules.specs.declared.seat.Entry.{Entry}
use Rattle.rules.specs.Nodes.{entry}
use Rattle.node.specs.declared.change.Change.{Change}
use Rattle.node.specs.declared.change.Change.TheVariants.{Replace, Insert, Divide}

abbrev pub changed : Option Change → List Entry → List Entry
changed None es = es
changed (Some (Replace at e)) es = slice_set es at e
changed (Some (Insert at e)) es = insert es at e
changed (Some (Divide at m d)) es = insert (slice_set es at (entry (slice_index_or es at (entry 0 0)).key d)) at (entry m (slice_index_or es at (entry 0 0)).value)

-- the change is at an entry, or right behind the last
abbrev pub Within : Change → List Entry → Type 0
Within (Replace at e) es = at < length es
Within (Insert at e) es = at ≤ length es
Within (Divide at m d) es = at < length es

-- how a put ends that makes the change
abbrev pub ends_as : Option Change → List Entry → Outcome
ends_as None es = Stored
ends_as (Some (Replace at e)) es = Replaced (slice_index_or es at (entry 0 0)).value
ends_as (Some (Insert at e)) es = Stored
ends_as (Some (Divide at m d)) es = Stored
