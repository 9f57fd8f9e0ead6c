-- Latch times, and which steps are looks, checks and latch steps, from the calls and their answers alone.
use Rattle.std.specs.Prelude.{◌≡◌, ℕ, suc, ◌+◌, ◌≤◌, Bool, true, false, cond, not, ◌&&◌, ◌||◌, ◌≢◌, [], ◌∷◌, drop, Some, None, Option, ◌==◌, nat_le, nat_lt}
use Rattle.rules.specs.Events.{number, node, stepped, restarted}
use Rattle.rules.specs.Histories.{History}

-- the node whose latch seat `s` holds: that of its report 2, until its next 3, 4 or 5
abbrev pub holds : History → ℕ → Option ℕ
holds [] s = None
holds (e ∷ h) s =
    cond (stepped e s)
    (cond (number e == 2) (Some (node e)) (cond (nat_le 3 (number e) && nat_le (number e) 5) None (holds h s)))
    (holds h s)

-- where a seat is in its reading of a node
pub data Place : Type 0 where
  -- not reading
  elsewhere : Place
  -- after an accepted begin or a 1: its next accepted step is a look
  starting : Place
  -- so many accepted steps after a look
  reading : ℕ → Place
  -- after a check's 0 at this node
  checked : ℕ → Place
  -- after a 3 or a 4
  released : Place

-- an accepted step with this number and node is a look: the first after an accepted begin, after a 1, after a check's 0 if at
-- another node, or after a 3 or 4 if it reports 0
abbrev pub looks : Place → ℕ → ℕ → Bool
looks elsewhere r n = false
looks starting r n = true
looks (reading k) r n = false
looks (checked q) r n = not (n == q)
looks released r n = r == 0

-- an accepted step at this node is a check, the 32nd after a look, or a latch step, the next one after a check's 0 at the same node
abbrev pub tests : Place → ℕ → Bool
tests elsewhere n = false
tests starting n = false
tests (reading k) n = k == 31
tests (checked q) n = n == q
tests released n = false

-- after a step at this node that is no look and reports 0
abbrev pub read_on : Place → ℕ → Place
read_on elsewhere n = elsewhere
read_on starting n = elsewhere
read_on (reading k) n = cond (nat_lt k 31) (reading (k + 1)) (checked n)
read_on (checked q) n = elsewhere
read_on released n = elsewhere

-- after an accepted step with this number and node
abbrev pub place_after : Place → ℕ → ℕ → Place
place_after p r n =
    cond (r == 1) starting
    (cond (r == 3 || r == 4) released
    (cond (looks p r n) (reading 0)
    (cond (r == 0) (read_on p n) elsewhere)))

abbrev pub place : History → ℕ → Place
place [] s = elsewhere
place (e ∷ h) s =
    cond (restarted e s) starting
    (cond (stepped e s) (place_after (place h s) (number e) (node e)) (place h s))

-- how many calls ago the last look of seat `s` was, that call counted
abbrev pub since_look : History → ℕ → ℕ
since_look [] s = 0
since_look (e ∷ h) s = cond (stepped e s && looks (place h s) (number e) (node e)) 1 (suc (since_look h s))

-- another seat held the latch of node `n` just before some call, from the last look of seat `s` to the call that follows, both counted
abbrev pub Disturbed : History → ℕ → ℕ → Type 0
Disturbed h s n = (j : ℕ) × (j ≤ since_look h s) × (o : ℕ) × (o ≢ s) × (holds (drop j h) o ≡ Some n)
