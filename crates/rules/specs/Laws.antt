-- The laws of an event `e` after a history `h`, for seat `s`. They speak of calls and their answers alone.
use Rattle.std.specs.Prelude.{◌≡◌, ℕ, ◌&&◌, T, ◌≢◌, ◌⊎◌, ◌↔◌, [], ◌∷◌, Some, None, Option}
use Rattle.rules.specs.Events.{number, node, word, ends, stepped, left_off, finding, putting, begun}
use Rattle.rules.specs.Histories.{Event, History}
use Rattle.rules.specs.Latches.{place, tests, Disturbed}
use Rattle.rules.specs.PlainMap.{plain_map, publishings}

-- a check or a latch step is turned back exactly when another seat held the latch of its node since the look
abbrev pub TurningLaw : History → Event → ℕ → Type 0
TurningLaw h e s = T (stepped e s && tests (place h s) (node e)) → (number e ≡ 1) ↔ Disturbed h s (node e)

-- over the map that the index starts with
module _ (m₀ : ℕ → Option ℕ) where
  -- a find that ends reports what the plain map holds: 6 with the value of its key, or 7 where it has none
  abbrev pub FindLaw : History → Event → ℕ → Type 0
  FindLaw h e s =
      (k : ℕ) → begun h s ≡ finding k → T (stepped e s && ends (number e))
      → ((number e ≡ 6) × (plain_map m₀ h k ≡ Some (word e))) ⊎ ((number e ≡ 7) × (plain_map m₀ h k ≡ None))

  -- a put that ends with 8 or 10 was published once, with a new key; with 9, once, in place of the reported value; with 11 or 12, never
  abbrev pub PutLaw : History → Event → ℕ → Type 0
  PutLaw h e s =
      (k v : ℕ) → begun h s ≡ putting k v → T (stepped e s && ends (number e))
      → (((number e ≡ 8) ⊎ (number e ≡ 10)) × (publishings m₀ h s ≡ None ∷ []))
      ⊎ (((number e ≡ 9) × (publishings m₀ h s ≡ Some (word e) ∷ []))
      ⊎ (((number e ≡ 11) ⊎ (number e ≡ 12)) × (publishings m₀ h s ≡ [])))

  -- an accepted abandon reports 14 where the operation was published, and 13 where it was not
  abbrev pub AbandonLaw : History → Event → ℕ → Type 0
  AbandonLaw h e s =
      T (left_off e s) → ((number e ≡ 14) × (publishings m₀ h s ≢ [])) ⊎ ((number e ≡ 13) × (publishings m₀ h s ≡ []))

  -- the laws hold at each event of a history, for every seat
  abbrev pub Lawful : History → Type 0
  Lawful [] = Unit {0}
  Lawful (e ∷ h) = ((s : ℕ) → FindLaw h e s × PutLaw h e s × TurningLaw h e s × AbandonLaw h e s) × Lawful h
