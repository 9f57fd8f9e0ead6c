-- The plain map: the pairs that the index holds as a history tells it, from the calls and their answers alone.
use Rattle.std.specs.Prelude.{ℕ, cond, ◌&&◌, List, [], ◌∷◌, Some, None, Option, ◌==◌}
use Rattle.rules.specs.Events.{publishes, seat_of, stepped, restarted, Begun, nothing, finding, putting, sought, begun}
use Rattle.rules.specs.Histories.{History}

-- the map that a newly formatted index starts with
abbrev pub empty_map : ℕ → Option ℕ
empty_map k = None

-- a map with the pair of a put, in place of one with its key
abbrev pub with_pair : Begun → (ℕ → Option ℕ) → ℕ → Option ℕ
with_pair nothing m k = m k
with_pair (finding q) m k = m k
with_pair (putting q v) m k = cond (k == q) (Some v) (m k)

-- over the map that the index starts with
module _ (m₀ : ℕ → Option ℕ) where
  -- at a seat's report 3 the map takes the pair that the seat was begun with, and no other call changes it
  abbrev pub plain_map : History → ℕ → Option ℕ
  plain_map [] k = m₀ k
  plain_map (e ∷ h) k = cond (publishes e) (with_pair (begun h (seat_of e.call)) (plain_map h) k) (plain_map h k)

  -- for each report 3 of seat `s` since its last accepted begin, the newest first: what the map held for its key just before
  abbrev pub publishings : History → ℕ → List (Option ℕ)
  publishings [] s = []
  publishings (e ∷ h) s =
      cond (restarted e s) []
      (cond (stepped e s && publishes e) (plain_map h (sought (begun h s)) ∷ publishings h s)
      (publishings h s))
