-- What a call of another seat may do, as a seat sees it, and that the facts of the seat's phase last through it.
use Rattle.std.proofs.Common.{◌≡◌, ℕ, ◌+◌, ◌%◌, ◌<◌, ◌≤◌, ◌≢◌, ◌⊎◌, ◌∷◌, Some, Option, sym, refl, ◌∙◌, inl, inr, ⊎_elim, arith}
use Rattle.std.proofs.lemmas.Bool.{cases_eq}
use Rattle.tree.specs.Tree as T
use Rattle.rules.specs.Seats.{with_draft}
use Rattle.rules.specs.Steps.{version, part_node}
use Rattle.rules.specs.Histories.{Event, History}
use Rattle.rules.specs.Events.{begun}
use Rattle.rules.specs.PlainMap.{publishings}
use Rattle.rules.specs.Latches.{holds}
use Rattle.rules.specs.declared.seat.Part.{Part}
use Rattle.rules.specs.declared.seat.Phase.{Phase}
use Rattle.rules.specs.declared.seat.Phase.TheVariants as phase
use Rattle.rules.specs.declared.seat.Operation.{Operation}
use Rattle.rules.specs.declared.seat.Draft.{Draft}
use Rattle.rules.specs.declared.seat.Seat.{Seat}
use Rattle.rules.proofs.Cells.{word, lock}
use Rattle.rules.proofs.Events.{Untouched, disturbed_later, disturbed_now, disturbed_cases}
use Rattle.rules.proofs.Inv.{Setting, World, Linked, Open, post_of, owed_in, Fresh, MineIn, Uses, done_in, Filled, Begins, Planned, Doing, Reading, Hold, Taken, Unwritten, SeatIn}

-- what a call of seat `a`, which makes the event `e`, may do in the eyes of a seat `y` in phase `ph`: lock words rise, content changes
-- only with them, and the nodes that `y` alone may write stay as they are
pub record Rely (σ : Setting) (W W' : World) (h : History) (e : Event) (a : ℕ) (ph : Phase) (y : Seat) : Type 0 where
  pub more : W.count ≤ W'.count
  pub opens : (q : ℕ) → Open W q → Open W' q
  pub closed : (q : ℕ) → MineIn σ.fan ph y q → ¬ (Open W q) → ¬ (Open W' q)
  pub up : (q : ℕ) → Open W q → lock W.cells q ≤ lock W'.cells q
  pub rise : (q : ℕ) → Open W q → lock W.cells q % 2 ≡ 0 → lock W'.cells q ≢ lock W.cells q → (holds (e ∷ h) a ≡ Some q) × (lock W.cells q + 2 ≤ σ.top)
  pub same : (q : ℕ) → Open W q → lock W'.cells q ≡ lock W.cells q → (i : ℕ) → W'.words q i ≡ W.words q i
  pub own : (q i : ℕ) → MineIn σ.fan ph y q → i < 32 → word W'.cells q i ≡ word W.cells q i
  pub stays : (post : Option ℕ) (k aim n : ℕ) → ((d : ℕ) → post ≡ Some d → owed_in ph y.operation ≡ Some d)
      → T.Seated σ.order W.tree post k aim n → T.Seated σ.order W'.tree post k aim n

at_linked : (σ : Setting) (k aim : ℕ) (p : T.Place) → T.At σ.order k aim p → Linked p
at_linked σ k aim p z = grind arith

pub doing_open : {σ : Setting} {W : World} {h : History} {s : ℕ} {x : Seat} → Doing σ W h s x → Open W x.node
doing_open {σ} {W} {x} d = at_linked σ x.key x.aim (W.tree x.node) d.seated.at

pub begins_same : (m₀ : ℕ → Option ℕ) → (h h' : History) (s : ℕ) (t : Operation) (k : ℕ) → begun h' s ≡ begun h s → publishings m₀ h' s ≡ publishings m₀ h s → Begins m₀ h s t k → Begins m₀ h' s t k
begins_same m₀ h h' s t k a b z = grind arith

pub part_mine : (fan : ℕ) (x : Seat) (p : Part) → Uses fan x p → (part_node p x ≡ x.node) ⊎ Fresh fan x (part_node p x)
part_mine fan x p u = grind arith

pub done_small : (p q : Part) (i : ℕ) → i ≤ 32 → done_in p i q ≤ 32
done_small p q i b = grind arith

-- a seat with a latch, in another phase or with another draft, while its lock word and its node's words stay
pub hold_as : {σ : Setting} {W W' : World} (x : Seat) (d : Draft) (p : Phase) → lock W'.cells x.node ≡ lock W.cells x.node → ((j : ℕ) → W'.words x.node j ≡ W.words x.node j) → Planned σ d x.operation x.key x.copy
    → Hold σ W x → Hold σ W' (with_draft x d p)
hold_as x d p l w q k = grind arith

module _ {σ : Setting} {W W' : World} {h : History} {e : Event} {a s : ℕ} (other : a ≢ s) (odd : (t q : ℕ) → holds (e ∷ h) t ≡ Some q → lock W'.cells q % 2 ≡ 1) (u : Untouched σ.start e h s) {ph : Phase} (y : Seat) (ρ : Rely σ W W' h e a ph y) where
  doing_lasts : owed_in ph y.operation ≡ post_of y.operation → Doing σ W h s y → Doing σ W' (e ∷ h) s y
  doing_lasts w d =
      record {
        seated = ρ.stays (post_of y.operation) y.key y.aim y.node (λ _ z. w ∙ z) d.seated;
        begins = begins_same σ.start h (e ∷ h) s y.operation y.key u.begun_same u.publishings_same d.begins;
      }

  reading_lasts : (i : ℕ) → Open W y.node → Reading σ W h s y i → Reading σ W' (e ∷ h) s y i
  reading_lasts i seen r =
      let n = y.node in
      let v = version y in
      record {
        even = r.even;
        old = omega (arith, ρ.up n seen, r.old);
        front = λ q j b c d.
            let l : lock W.cells n ≡ v = omega (arith, ρ.up n seen, r.old) in
            r.front l j b c d ∙ sym (ρ.same n seen (q ∙ sym l) j);
        calm = λ q d.
            let l : lock W.cells n ≡ v = omega (arith, ρ.up n seen, r.old) in
            ⊎_elim (λ k. omega (arith, odd k.0 n k.2, r.even)) (r.calm l) (disturbed_cases e h s n u.since_more d);
        loud = λ q.
            ⊎_elim
            (λ l. let k = ρ.rise n seen (omega (arith, r.even)) (λ z. q (z ∙ l)) in (disturbed_now (e ∷ h) s n a other k.0, omega (arith, k.1)))
            (λ l. let k = r.loud l in (disturbed_later e h s n u.since_more k.0, k.1))
            (cases_eq (lock W.cells n) v);
      }

  hold_lasts : Open W y.node → MineIn σ.fan ph y y.node → Hold σ W y → Hold σ W' y
  hold_lasts seen m k = let l = ρ.own y.node 0 m (omega arith) in hold_as y y.draft y.phase l (ρ.same y.node seen l) k.planned k

  unwritten_lasts : Open W y.node → MineIn σ.fan ph y y.node → Unwritten σ W y → Unwritten σ W' y
  unwritten_lasts seen m k = grind arith

  taken_lasts : ((q : ℕ) → Fresh σ.fan y q → MineIn σ.fan ph y q) → Taken σ W y → Taken σ W' y
  taken_lasts m k =
      record {
        inside = λ q z. omega (arith, k.inside q z, ρ.more);
        hidden = λ q z. ρ.closed q (m q z) (k.hidden q z);
        two = k.two;
        level_is = k.level_is;
      }

  filled_lasts : ((q : ℕ) → (q ≡ y.node) ⊎ Fresh σ.fan y q → MineIn σ.fan ph y q) → (d : Part → ℕ) → ((p : Part) → d p ≤ 32) → Filled σ.fan W.cells y d → Filled σ.fan W'.cells y d
  filled_lasts m d small k p z w b c = grind arith

pub lasts : {σ : Setting} {W W' : World} {h : History} {e : Event} {a s : ℕ} → a ≢ s → ((t q : ℕ) → holds (e ∷ h) t ≡ Some q → lock W'.cells q % 2 ≡ 1) → Untouched σ.start e h s
    → (ph : Phase) (y : Seat) → Rely σ W W' h e a ph y → SeatIn σ W h s ph y → SeatIn σ W' (e ∷ h) s ph y
lasts d o u phase.Idle y ρ k = tt
lasts d o u phase.Look y ρ k = (doing_lasts d o u y ρ refl k.0, rw u.place_same k.1, rw u.place_same k.2)
lasts d o u (phase.Copy i) y ρ k =
    (doing_lasts d o u y ρ refl k.0, reading_lasts d o u y ρ i (doing_open k.0) k.1, k.2, (k.3.0, k.3.1, u.place_same ∙ k.3.2))
lasts d o u phase.Check y ρ k = (doing_lasts d o u y ρ refl k.0, reading_lasts d o u y ρ 32 (doing_open k.0) k.1, u.place_same ∙ k.2)
lasts d o u phase.Latch y ρ k = (doing_lasts d o u y ρ refl k.0, reading_lasts d o u y ρ 32 (doing_open k.0) k.1, u.place_same ∙ k.2, k.3, k.4, k.5)
lasts d o u phase.Take y ρ k =
    let seen = doing_open k.0 in
    (doing_lasts d o u y ρ refl k.0, hold_lasts d o u y ρ seen refl k.1, u.place_same ∙ k.2, unwritten_lasts d o u y ρ seen refl k.3, k.4, k.5)
lasts d o u (phase.Fill p i) y ρ k = (
  doing_lasts d o u y ρ refl k.0,
  hold_lasts d o u y ρ (doing_open k.0) (inl refl) k.1,
  u.place_same ∙ k.2,
  taken_lasts d o u y ρ (λ q z. inr z) k.3,
  filled_lasts d o u y ρ (λ q z. z) (done_in p i) (λ q. done_small p q i (omega (arith, k.6))) k.4,
  k.5,
  k.6,
  k.7,
)
lasts d o u phase.Release y ρ k = (
  doing_lasts d o u y ρ refl k.0,
  hold_lasts d o u y ρ (doing_open k.0) (inl refl) k.1,
  u.place_same ∙ k.2,
  taken_lasts d o u y ρ (λ q z. inr z) k.3,
  filled_lasts d o u y ρ (λ q z. z) (λ _. 32) (λ q. omega arith) k.4,
)
lasts d o u phase.Undo y ρ k =
    let seen = doing_open k.0 in
    (doing_lasts d o u y ρ refl k.0, hold_lasts d o u y ρ seen refl k.1, u.place_same ∙ k.2, unwritten_lasts d o u y ρ seen refl k.3)
lasts {h} {e} {s} d o u (phase.End r) y ρ k = (((k.0.0.0, k.0.0.1, u.begun_same ∙ k.0.0.2), u.publishings_same ∙ k.0.1), rw u.place_same k.1)
