-- What an event tells, from the call and its answer alone.
use Rattle.std.specs.Prelude.{ℕ, Bool, false, cond, ◌&&◌, [], ◌∷◌, Ok, Err, Result, ◌==◌, nat_le, nat_lt}
use Rattle.rules.specs.Histories.{Call, Format, BeginFind, BeginPut, Step, Abandon, Event, History}
use Rattle.rules.specs.Refusals.{refusal_number}
use Rattle.rules.specs.Reports.{told}
use Rattle.rules.specs.declared.refusal.Refusal.{Refusal}
use Rattle.rules.specs.declared.report.Report.{Report}

-- the number, node and word of an answer; a refusal has node and word 0
abbrev pub told_by : Result Report Refusal → ℕ × ℕ × ℕ
told_by (Ok r) = told r
told_by (Err f) = (refusal_number f, 0, 0)

abbrev pub number : Event → ℕ
number e = (told_by e.answer).0

abbrev pub node : Event → ℕ
node e = (told_by e.answer).1

abbrev pub word : Event → ℕ
word e = (told_by e.answer).2

-- refusals are numbered from 21 on
abbrev pub accepted : Event → Bool
accepted e = nat_lt (number e) 21

-- reports 6 to 14 leave the seat idle
abbrev pub ends : ℕ → Bool
ends n = nat_le 6 n && nat_le n 14

-- at a report 3 the pair of a put is in the index
abbrev pub publishes : Event → Bool
publishes e = number e == 3

-- the seat of a call; 8, which is none, for a format
abbrev pub seat_of : Call → ℕ
seat_of (Format fan) = 8
seat_of (BeginFind i k) = i
seat_of (BeginPut i k v) = i
seat_of (Step i) = i
seat_of (Abandon i) = i

abbrev pub steps : Call → ℕ → Bool
steps (Format fan) s = false
steps (BeginFind i k) s = false
steps (BeginPut i k v) s = false
steps (Step i) s = s == i
steps (Abandon i) s = false

abbrev pub restarts : Call → ℕ → Bool
restarts (Format fan) s = false
restarts (BeginFind i k) s = s == i
restarts (BeginPut i k v) s = s == i
restarts (Step i) s = false
restarts (Abandon i) s = false

abbrev pub leaves_off : Call → ℕ → Bool
leaves_off (Format fan) s = false
leaves_off (BeginFind i k) s = false
leaves_off (BeginPut i k v) s = false
leaves_off (Step i) s = false
leaves_off (Abandon i) s = s == i

-- an accepted step, an accepted begin and an accepted abandon of seat `s`
abbrev pub stepped : Event → ℕ → Bool
stepped e s = steps e.call s && accepted e

abbrev pub restarted : Event → ℕ → Bool
restarted e s = accepted e && restarts e.call s

abbrev pub left_off : Event → ℕ → Bool
left_off e s = leaves_off e.call s && accepted e

-- what a seat was begun with: nothing yet, a key to find, or a pair to put
pub data Begun : Type 0 where
  nothing : Begun
  finding : ℕ → Begun
  putting : ℕ → ℕ → Begun

abbrev pub sought : Begun → ℕ
sought nothing = 0
sought (finding k) = k
sought (putting k v) = k

abbrev pub begins : Call → ℕ → Begun → Begun
begins (Format fan) s b = b
begins (BeginFind i k) s b = cond (s == i) (finding k) b
begins (BeginPut i k v) s b = cond (s == i) (putting k v) b
begins (Step i) s b = b
begins (Abandon i) s b = b

-- the last accepted begin of seat `s`
abbrev pub begun : History → ℕ → Begun
begun [] s = nothing
begun (e ∷ h) s = cond (accepted e) (begins e.call s (begun h s)) (begun h s)
