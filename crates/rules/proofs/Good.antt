-- One call of one seat: what is to be shown of it, and that this gives the invariant after the call. The laws of a call that is no test.
use Rattle.std.proofs.Common.{◌≡◌, ℕ, ◌+◌, ◌*◌, ◌%◌, ◌<◌, ◌≤◌, false, ◌≢◌, ◌⊎◌, List, ◌∷◌, length, Some, Option, sym, refl, ◌∙◌, inl, inr, arith}
use Rattle.std.proofs.lemmas.Bool.{cases_eq, and_right}
use Rattle.tree.specs.Tree as T
use Rattle.rules.specs.Histories.{Event, History}
use Rattle.rules.specs.Events.{number, node, ends, stepped, seat_of}
use Rattle.rules.specs.PlainMap.{plain_map}
use Rattle.rules.specs.Latches.{holds, place, tests}
use Rattle.rules.specs.Laws.{FindLaw, PutLaw, TurningLaw, AbandonLaw}
use Rattle.rules.specs.declared.seat.Phase.{Phase}
use Rattle.rules.specs.declared.seat.Seat.{Seat}
use Rattle.rules.proofs.Basics.{fails}
use Rattle.rules.proofs.Cells.{word, lock}
use Rattle.rules.proofs.Events.{Untouched, untouched_other}
use Rattle.rules.proofs.Inv.{Setting, World, Open, holding_in, owed_in, MineIn, SeatIn, Coded, Inv}
use Rattle.rules.proofs.Rely.{Rely, lasts}

abbrev pub holding : Seat → Option ℕ
holding x = holding_in x.phase x.node

abbrev pub owed : Seat → Option ℕ
owed x = owed_in x.phase x.operation

abbrev pub Mine : ℕ → Seat → ℕ → Type 0
Mine fan x q = MineIn fan x.phase x q

-- a seat that holds a latch holds it of a node whose lock word is odd, and may still rise
pub holder_locks : (σ : Setting) (W : World) (h : History) (s : ℕ) (ph : Phase) (x : Seat) (q : ℕ) → SeatIn σ W h s ph x → holding_in ph x.node ≡ Some q → (lock W.cells q % 2 ≡ 1) × (lock W.cells q + 1 ≤ σ.top)
holder_locks σ W h s ph x q k e = grind arith

pub holder_mine : (fan : ℕ) (ph : Phase) (x : Seat) (q : ℕ) → holding_in ph x.node ≡ Some q → MineIn fan ph x q
holder_mine fan ph x q e = grind arith

-- a call of seat `s`, which makes the event `e` and leaves the seat `x'`, leads from the world `W` to `W'` as it may
pub record Good (σ : Setting) (W W' : World) (f : ℕ → Seat) (h : History) (e : Event) (s : ℕ) (x' : Seat) : Type 0 where
  pub room : 32 * W'.count ≤ length W'.cells
  pub below : (q : ℕ) → Open W' q → q < W'.count
  pub latched : (q : ℕ) → Open W' q → lock W'.cells q % 2 ≡ 1 → (holding x' ≡ Some q) ⊎ ((t : ℕ) × (t ≢ s) × (holding (f t) ≡ Some q))
  pub same : (q : ℕ) → Open W' q → lock W'.cells q % 2 ≡ 0 → (i : ℕ) → 0 < i → i < 32 → word W'.cells q i ≡ W'.words q i
  pub sound : T.Sound σ.order W'.tree
  pub coded : (q : ℕ) → Coded σ W' (W'.words q) (W'.tree q)
  pub answers : T.Answers σ.order W'.tree (plain_map σ.start (e ∷ h))
  pub mine : SeatIn σ W' (e ∷ h) s x'.phase x'
  pub held_now : holds (e ∷ h) s ≡ holding x'
  pub others : (t : ℕ) → t ≢ s → Rely σ W W' h e s (f t).phase (f t)
  pub apart : (t : ℕ) → t ≢ s → (q : ℕ) → Mine σ.fan x' q → Mine σ.fan (f t) q → ⊥
  pub owes : (t : ℕ) → t ≢ s → (d : ℕ) → owed x' ≡ Some d → owed (f t) ≡ Some d → ⊥
  pub size : s < 8 → length x'.copy ≡ 32

-- the table is put back together
module _ {σ : Setting} {W W' : World} {f : ℕ → Seat} {h : History} {e : Event} {s : ℕ} {x' : Seat} (ι : Inv σ W f h) (g : Good σ W W' f h e s x') (whose : seat_of e.call ≡ s) where
  un : (t : ℕ) → t ≢ s → Untouched σ.start e h t
  un t d = untouched_other σ.start e h t (λ z. d (z ∙ whose))

  held_other : (t : ℕ) → t ≢ s → holds (e ∷ h) t ≡ holding (f t)
  held_other t d = (un t d).holds_same ∙ ι.held_by t

  odd_after : (t q : ℕ) → holds (e ∷ h) t ≡ Some q → lock W'.cells q % 2 ≡ 1
  odd_after t q p =
      elim (cases_eq t s) [
        | inl z ↦ (holder_locks σ W' (e ∷ h) s x'.phase x' q g.mine (sym g.held_now ∙ rw z at p)).0
        | inr d ↦
            (let w : holding (f t) ≡ Some q = sym (held_other t d) ∙ p in
            let same = (g.others t d).own q 0 (holder_mine σ.fan (f t).phase (f t) q w) (omega arith) in
            rw same (holder_locks σ W h t (f t).phase (f t) q (ι.seats t) w).0)
      ]

  module _ (f' : ℕ → Seat) (here : f' s ≡ x') (other : (t : ℕ) → t ≢ s → f' t ≡ f t) where
    each : (P : ℕ → Seat → Type 0) → P s x' → ((t : ℕ) → t ≢ s → P t (f t)) → (t : ℕ) → P t (f' t)
    each P mine rest t = elim (cases_eq t s) [ inl z ↦ rw (z, here) mine | inr d ↦ rw (other t d) (rest t d) ]

    -- what holds of `x'` with each other seat, and of the others, holds of any two
    pairs : (P : Seat → Seat → Type 0) → ((x y : Seat) → P x y → P y x) → ((t : ℕ) → t ≢ s → P x' (f t)) → ((a b : ℕ) → b ≢ a → P (f a) (f b)) → (a b : ℕ) → b ≢ a → P (f' a) (f' b)
    pairs P turn mine rest = grind arith

    pub next : Inv σ W' f' (e ∷ h)
    next =
        record {
          nodes = record {
            room = g.room;
            below = g.below;
            latched = λ q o l. elim (g.latched q o l) [
              | inl z ↦ (s, rw here z)
              | inr z ↦ (z.0, rw (other z.0 z.1) z.2)
            ];
            same = g.same;
            sound = g.sound;
            coded = g.coded;
            answers = g.answers;
          };
          seats = each (λ t x. SeatIn σ W' (e ∷ h) t x.phase x) g.mine (λ t d. lasts (λ z. d (sym z)) odd_after (un t d) (f t).phase (f t) (g.others t d) (ι.seats t));
          held_by = each (λ t x. holds (e ∷ h) t ≡ holding x) g.held_now held_other;
          apart = pairs (λ x y. (q : ℕ) → Mine σ.fan x q → Mine σ.fan y q → ⊥) (λ x y p q a b. p q b a) g.apart ι.apart;
          owes = pairs (λ x y. (q : ℕ) → owed x ≡ Some q → owed y ≡ Some q → ⊥) (λ x y p q a b. p q b a) g.owes ι.owes;
          sizes = each (λ t x. t < 8 → length x.copy ≡ 32) g.size (λ t _. ι.sizes t);
        }

-- the laws of one event, and those of them that speak of steps
abbrev pub LawsAt : (m₀ : ℕ → Option ℕ) → History → Event → ℕ → Type 0
LawsAt m₀ h e s = FindLaw m₀ h e s × PutLaw m₀ h e s × TurningLaw h e s × AbandonLaw m₀ h e s

abbrev pub StepLaws : (m₀ : ℕ → Option ℕ) → History → Event → ℕ → Type 0
StepLaws m₀ h e s = FindLaw m₀ h e s × PutLaw m₀ h e s × TurningLaw h e s

pub with_abandon : (m₀ : ℕ → Option ℕ) (h : History) (e : Event) (s : ℕ) → StepLaws m₀ h e s → AbandonLaw m₀ h e s → LawsAt m₀ h e s
with_abandon m₀ h e s l a = (l.0, l.1, l.2, a)

pub laws_unstepped : (m₀ : ℕ → Option ℕ) → (h : History) (e : Event) (s : ℕ) → stepped e s ≡ false → StepLaws m₀ h e s
laws_unstepped m₀ h e s z = grind arith

pub laws_test : (m₀ : ℕ → Option ℕ) → (h : History) (e : Event) (s : ℕ) → ends (number e) ≡ false → TurningLaw h e s → StepLaws m₀ h e s
laws_test m₀ h e s a b = (λ k _. fails _ (and_right (stepped e s) (ends (number e)) a), λ k v _. fails _ (and_right (stepped e s) (ends (number e)) a), b)

-- a step that tests nothing
pub untested : (h : History) (e : Event) (s : ℕ) → tests (place h s) (node e) ≡ false → TurningLaw h e s
untested h e s b = fails _ (and_right (stepped e s) (tests (place h s) (node e)) b)

pub laws_plain : (m₀ : ℕ → Option ℕ) → (h : History) (e : Event) (s : ℕ) → ends (number e) ≡ false → tests (place h s) (node e) ≡ false → StepLaws m₀ h e s
laws_plain m₀ h e s a b = laws_test m₀ h e s a (untested h e s b)

-- a call that writes cells and leaves the tree
pub record Writing (σ : Setting) (W : World) (f : ℕ → Seat) (h : History) (e : Event) (s : ℕ) (m' : List ℕ) (c' : ℕ) : Type 0 where
  pub len : length m' ≡ length W.cells
  pub more : W.count ≤ c'
  pub fits : 32 * c' ≤ length W.cells
  pub up : (q : ℕ) → Open W q → lock W.cells q ≤ lock m' q
  pub rise : (q : ℕ) → Open W q → lock W.cells q % 2 ≡ 0 → lock m' q ≢ lock W.cells q → (holds (e ∷ h) s ≡ Some q) × (lock W.cells q + 2 ≤ σ.top)
  pub same : (q : ℕ) → Open W q → lock m' q % 2 ≡ 0 → (i : ℕ) → 0 < i → i < 32 → word m' q i ≡ W.words q i
  pub own : (t : ℕ) → t ≢ s → (q i : ℕ) → Mine σ.fan (f t) q → i < 32 → word m' q i ≡ word W.cells q i

abbrev pub with_cells : World → List ℕ → ℕ → World
with_cells W m c = record { cells = m; count = c; words = W.words; tree = W.tree }

pub tells_same : (o : T.Order) (w w' : ℕ → Option ℕ) (k : ℕ) (p : T.Place) → w' k ≡ w k → T.Tells o w k p → T.Tells o w' k p
tells_same o w w' k p e t = grind arith

module _ {σ : Setting} {W : World} {f : ℕ → Seat} {h : History} (ι : Inv σ W f h) (e : Event) (s : ℕ) (x' : Seat) where
  pub good_write : (m' : List ℕ) (c' : ℕ) → Writing σ W f h e s m' c'
      → ((q : ℕ) → Open W q → lock m' q % 2 ≡ 1 → (holding x' ≡ Some q) ⊎ ((t : ℕ) × (t ≢ s) × (holding (f t) ≡ Some q)))
      → ((k : ℕ) → plain_map σ.start (e ∷ h) k ≡ plain_map σ.start h k)
      → SeatIn σ (with_cells W m' c') (e ∷ h) s x'.phase x'
      → holds (e ∷ h) s ≡ holding x'
      → ((t : ℕ) → t ≢ s → (q : ℕ) → Mine σ.fan x' q → Mine σ.fan (f t) q → ⊥)
      → ((t : ℕ) → t ≢ s → (d : ℕ) → owed x' ≡ Some d → owed (f t) ≡ Some d → ⊥)
      → (s < 8 → length x'.copy ≡ 32)
      → Good σ W (with_cells W m' c') f h e s x'
  good_write m' c' w l p k u a d z =
      record {
        room = omega (arith, w.len, w.fits);
        below = λ q o. omega (arith, ι.nodes.below q o, w.more);
        latched = l;
        same = w.same;
        sound = ι.nodes.sound;
        coded = ι.nodes.coded;
        answers = λ n y c. tells_same σ.order (plain_map σ.start h) (plain_map σ.start (e ∷ h)) y (W.tree n) (p y) (ι.nodes.answers n y c);
        mine = k;
        held_now = u;
        others = λ t b. record {
          more = w.more;
          opens = λ q o. o;
          closed = λ q _ o. o;
          up = w.up;
          rise = w.rise;
          same = λ q _ _ i. refl;
          own = w.own t b;
          stays = λ post y aim n _ r. r;
        };
        apart = a;
        owes = d;
        size = z;
      }

  -- the cells stay too
  pub writing_none : (c' : ℕ) → W.count ≤ c' → 32 * c' ≤ length W.cells → Writing σ W f h e s W.cells c'
  writing_none c' a b = grind arith

  pub latched_none : holding x' ≡ holding (f s) → (q : ℕ) → Open W q → lock W.cells q % 2 ≡ 1 → (holding x' ≡ Some q) ⊎ ((t : ℕ) × (t ≢ s) × (holding (f t) ≡ Some q))
  latched_none e q o l =
      let k = ι.nodes.latched q o l in
      elim (cases_eq k.0 s) [ inl z ↦ inl (e ∙ rw z at k.1) | inr d ↦ inr (k.0, d, k.1) ]

  -- a call that changes a seat alone
  pub good_calm : holding x' ≡ holding (f s) → ((q : ℕ) → Mine σ.fan x' q → Mine σ.fan (f s) q) → ((d : ℕ) → owed x' ≡ Some d → owed (f s) ≡ Some d)
      → ((k : ℕ) → plain_map σ.start (e ∷ h) k ≡ plain_map σ.start h k)
      → SeatIn σ W (e ∷ h) s x'.phase x'
      → holds (e ∷ h) s ≡ holds h s
      → (s < 8 → length x'.copy ≡ 32)
      → Good σ W (with_cells W W.cells W.count) f h e s x'
  good_calm hx m d p k u z =
      good_write W.cells W.count (writing_none W.count (omega arith) ι.nodes.room) (latched_none hx) p k (u ∙ ι.held_by s ∙ sym hx)
      (λ t b q a c. ι.apart s t b q (m q a) c) (λ t b q a c. ι.owes s t b q (d q a) c) z
