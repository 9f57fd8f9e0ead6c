-- One event more: what holds of the latches, the places in reading, the begins and the publishings of each seat after it.
use Rattle.std.proofs.Common.{◌≡◌, ℕ, zero, suc, ◌≤◌, true, false, cond, ◌&&◌, eqb, ltb, leb, ◌≢◌, ◌⊎◌, [], ◌∷◌, Some, None, Ok, Err, Option, refl, ◌∙◌, inl, inr, arith}
use Rattle.std.proofs.lemmas.Bool.{eq-eqb, ne_eqb, cond_both, cond-true, cond-false, and_right, and_left, le-ltb}
use Rattle.rules.specs.declared.refusal.Refusal.{Refusal}
use Rattle.rules.specs.declared.report.Report.{Report}
use Rattle.rules.specs.declared.report.Report.TheVariants.{GoneOn}
use Rattle.rules.specs.Refusals.{refusal_number}
use Rattle.rules.specs.Reports.{told}
use Rattle.rules.specs.Histories.{Call, BeginFind, BeginPut, Step, Event, History}
use Rattle.rules.specs.Events.{accepted, steps, stepped, Begun, finding, putting, begins, begun, seat_of, publishes, sought, restarts}
use Rattle.rules.specs.PlainMap.{plain_map, publishings}
use Rattle.rules.specs.Latches.{holds, starting, looks, place_after, place, since_look, Disturbed}

-- an event that is nothing to a seat
pub record Untouched (m₀ : ℕ → Option ℕ) (e : Event) (h : History) (s : ℕ) : Type 0 where
  pub holds_same : holds (e ∷ h) s ≡ holds h s
  pub place_same : place (e ∷ h) s ≡ place h s
  pub since_more : since_look (e ∷ h) s ≡ suc (since_look h s)
  pub begun_same : begun (e ∷ h) s ≡ begun h s
  pub publishings_same : publishings m₀ (e ∷ h) s ≡ publishings m₀ h s

untouched : (m₀ : ℕ → Option ℕ) → (e : Event) (h : History) (s : ℕ) → stepped e s ≡ false → (accepted e && restarts e.call s) ≡ false → begun (e ∷ h) s ≡ begun h s → Untouched m₀ e h s
untouched m₀ e h s a b c = grind arith

not_steps : (c : Call) (s : ℕ) → s ≢ seat_of c → steps c s ≡ false
not_steps c s d = grind arith

not_restarts : (c : Call) (s : ℕ) → s ≢ seat_of c → restarts c s ≡ false
not_restarts c s d = grind arith

not_begins : (c : Call) (s : ℕ) (b : Begun) → s ≢ seat_of c → begins c s b ≡ b
not_begins c s b d = grind arith

pub untouched_other : (m₀ : ℕ → Option ℕ) → (e : Event) (h : History) (s : ℕ) → s ≢ seat_of e.call → Untouched m₀ e h s
untouched_other m₀ e h s d =
    untouched m₀ e h s (and_left (steps e.call s) (accepted e) (not_steps e.call s d)) (and_right (accepted e) (restarts e.call s) (not_restarts e.call s d))
    (cond_both (accepted e) _ _ (λ b. b ≡ begun h s) (λ _. not_begins e.call s (begun h s) d) (λ _. refl))

refused_number : (f : Refusal) → 21 ≤ refusal_number f
refused_number f = grind arith

abbrev pub refused : Call → Refusal → Event
refused c f = record { call = c; answer = Err f }

pub not_accepted : (c : Call) (f : Refusal) → accepted (refused c f) ≡ false
not_accepted c f = le-ltb (refusal_number f) 21 (refused_number f)

pub not_published : (c : Call) (f : Refusal) → publishes (refused c f) ≡ false
not_published c f = ne_eqb (refusal_number f) 3 (omega (arith, refused_number f))

pub untouched_refused : (m₀ : ℕ → Option ℕ) → (c : Call) (f : Refusal) (h : History) (s : ℕ) → Untouched m₀ (refused c f) h s
untouched_refused m₀ c f h s =
    let e = refused c f in
    untouched m₀ e h s (and_right (steps c s) (accepted e) (not_accepted c f)) (and_left (accepted e) (restarts c s) (not_accepted c f)) (cond-false (accepted e) _ _ (not_accepted c f))

abbrev pub answer_of : Call → Report → Event
answer_of c r = record { call = c; answer = Ok r }

-- an accepted step of the seat itself
module _ (h : History) (s : ℕ) (r : Report) (told_of : ltb (told r).0 21 ≡ true) where
  own : stepped (answer_of (Step s) r) s ≡ true
  own = rw (eq-eqb s s refl) told_of

  pub holds_own : holds (answer_of (Step s) r ∷ h) s ≡ cond (eqb (told r).0 2) (Some (told r).1) (cond (leb 3 (told r).0 && leb (told r).0 5) None (holds h s))
  holds_own = cond-true (stepped (answer_of (Step s) r) s) _ _ own

  pub place_own : place (answer_of (Step s) r ∷ h) s ≡ place_after (place h s) (told r).0 (told r).1
  place_own = cond-false (accepted (answer_of (Step s) r) && false) _ _ (and_right (accepted (answer_of (Step s) r)) false refl) ∙ cond-true (stepped (answer_of (Step s) r) s) _ _ own

  pub since_own : since_look (answer_of (Step s) r ∷ h) s ≡ cond (looks (place h s) (told r).0 (told r).1) 1 (suc (since_look h s))
  since_own = rw own refl

  pub begun_own : begun (answer_of (Step s) r ∷ h) s ≡ begun h s
  begun_own = cond-true (accepted (answer_of (Step s) r)) _ _ told_of

  pub publishings_own : (m₀ : ℕ → Option ℕ) → publishings m₀ (answer_of (Step s) r ∷ h) s ≡ cond (eqb (told r).0 3) (plain_map m₀ h (sought (begun h s)) ∷ publishings m₀ h s) (publishings m₀ h s)
  publishings_own m₀ = cond-false (accepted (answer_of (Step s) r) && false) _ _ (and_right (accepted (answer_of (Step s) r)) false refl) ∙ rw own refl

pub record Restarted (m₀ : ℕ → Option ℕ) (e : Event) (h : History) (s : ℕ) (b : Begun) : Type 0 where
  pub holds_same : holds (e ∷ h) s ≡ holds h s
  pub place_is : place (e ∷ h) s ≡ starting
  pub begun_is : begun (e ∷ h) s ≡ b
  pub publishings_is : publishings m₀ (e ∷ h) s ≡ []

pub restarted_find : (m₀ : ℕ → Option ℕ) → (h : History) (s k : ℕ) → Restarted m₀ (answer_of (BeginFind s k) (GoneOn 0)) h s (finding k)
restarted_find m₀ h s k = record { holds_same = refl; place_is = rw (eq-eqb s s refl) refl; begun_is = rw (eq-eqb s s refl) refl; publishings_is = rw (eq-eqb s s refl) refl }

pub restarted_put : (m₀ : ℕ → Option ℕ) → (h : History) (s k v : ℕ) → Restarted m₀ (answer_of (BeginPut s k v) (GoneOn 0)) h s (putting k v)
restarted_put m₀ h s k v = record { holds_same = refl; place_is = rw (eq-eqb s s refl) refl; begun_is = rw (eq-eqb s s refl) refl; publishings_is = rw (eq-eqb s s refl) refl }

-- a seat that holds nothing is not the one that holds
pub not_me : (h : History) (s o n : ℕ) → holds h s ≡ None → holds h o ≡ Some n → o ≢ s
not_me h s o n free p z = cc

pub disturbed_later : (e : Event) (h : History) (s n : ℕ) → since_look (e ∷ h) s ≡ suc (since_look h s) → Disturbed h s n → Disturbed (e ∷ h) s n
disturbed_later e h s n more d = (suc d.0, omega (arith, more), d.2, d.3, d.4)

pub disturbed_now : (h : History) (s n o : ℕ) → o ≢ s → holds h o ≡ Some n → Disturbed h s n
disturbed_now h s n o d p = (0, omega arith, o, d, p)

pub disturbed_cases : (e : Event) (h : History) (s n : ℕ) → since_look (e ∷ h) s ≡ suc (since_look h s) → Disturbed (e ∷ h) s n
    → ((o : ℕ) × (o ≢ s) × (holds (e ∷ h) o ≡ Some n)) ⊎ Disturbed h s n
disturbed_cases e h s n more (zero, b, o, ne, p) = inl (o, ne, p)
disturbed_cases e h s n more (suc j, b, o, ne, p) = inr (j, omega (arith, more), o, ne, p)

-- right after a look
pub disturbed_looked : (e : Event) (h : History) (s n : ℕ) → since_look (e ∷ h) s ≡ 1 → Disturbed (e ∷ h) s n
    → ((o : ℕ) × (o ≢ s) × (holds (e ∷ h) o ≡ Some n)) ⊎ ((o : ℕ) × (o ≢ s) × (holds h o ≡ Some n))
disturbed_looked e h s n one (zero, b, o, ne, p) = inl (o, ne, p)
disturbed_looked e h s n one (suc zero, b, o, ne, p) = inr (o, ne, p)
disturbed_looked e h s n one (suc (suc j), b, o, ne, p) = absurd (omega (arith, one))

pub disturbed_before : (e : Event) (h : History) (s n o : ℕ) → since_look (e ∷ h) s ≡ 1 → o ≢ s → holds h o ≡ Some n → Disturbed (e ∷ h) s n
disturbed_before e h s n o one d p = (1, omega (arith, one), o, d, p)
