-- The access that is due at a seat, and those that no memory can make: to a cell past the longest row.
use Rattle.std.specs.Prelude.{◌≡◌, ◌≤◌, ◌⊎◌, Some, None, Option, Ok, Err, Result, MatchResult}
use Rattle.rules.specs.Calls.{due_in}
use Rattle.rules.specs.Steps.{access_of}
use Rattle.rules.specs.declared.access.Access.{Access}
use Rattle.rules.specs.declared.access.Access.TheVariants.{Read, Write, Swap}
use Rattle.rules.specs.declared.access.Extent.{Extent}
use Rattle.rules.specs.declared.refusal.Refusal.{Refusal}
use Rattle.rules.specs.declared.refusal.Refusal.TheVariants.{NoCell}
use Rattle.rules.specs.declared.seat.Seat.{Seat}

abbrev pub Beyond : Option Access → Type 0
Beyond None = ⊥
Beyond (Some (Read c)) = 65536 ≤ c
Beyond (Some (Write c w)) = 65536 ≤ c
Beyond (Some (Swap c old w)) = 65536 ≤ c

-- what is due at a seat, as the rules have it; an access that no memory can make may be refused at once
abbrev pub Due : Extent → Seat → Result (Option Access) Refusal → Type 0
Due x s r =
    MatchResult r (λ a. due_in s.phase (access_of x s) ≡ Ok a)
    (λ f. (due_in s.phase (access_of x s) ≡ Err f) ⊎ ((f ≡ NoCell) × Beyond (access_of x s)))
