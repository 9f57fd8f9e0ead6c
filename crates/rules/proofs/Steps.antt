-- A step of a seat: what is to be shown of it, and what is common to steps that neither latch nor free.
use Rattle.std.proofs.Common.{◌≡◌, ℕ, suc, ◌%◌, ◌<◌, ◌≤◌, true, false, ◌&&◌, eqb, ltb, leb, List, ◌∷◌, length, get_or, Some, Option, sym, refl, ◌∙◌, ⊎_elim, arith}
use Rattle.std.proofs.lemmas.Bool.{cond-false}
use Rattle.tree.specs.Node as N
use Rattle.tree.specs.Tree as T
use Rattle.tree.proofs.Stands.{tree_stands}
use Rattle.tree.proofs.Walks.{good_at}
use Rattle.rules.specs.Nodes.{entries, covers, found}
use Rattle.rules.specs.Reports.{told}
use Rattle.rules.specs.Seats.{in_phase}
use Rattle.rules.specs.Steps.{answered}
use Rattle.rules.specs.Histories.{History, Step}
use Rattle.rules.specs.PlainMap.{publishings, plain_map}
use Rattle.rules.specs.Latches.{holds, place, looks, since_look}
use Rattle.rules.specs.declared.report.Outcome.{Outcome}
use Rattle.rules.specs.declared.seat.Phase.{Phase}
use Rattle.rules.specs.declared.report.Report.{Report}
use Rattle.rules.specs.declared.report.Report.TheVariants.{GoneOn, TurnedBack, Ended}
use Rattle.rules.specs.declared.seat.Seat.{Seat}
use Rattle.rules.proofs.Cells.{lock}
use Rattle.rules.proofs.Entries.{row, found_is}
use Rattle.rules.proofs.Words.{encodes_same, Shows, covers_shown, shows}
use Rattle.rules.proofs.Events.{answer_of, since_own, begun_own, publishings_own, disturbed_later, disturbed_cases}
use Rattle.rules.proofs.Inv.{Setting, World, Linked, Open, Begins, Doing, Reading, SeatIn, Coded, Inv}
use Rattle.rules.proofs.Rely.{begins_same}
use Rattle.rules.proofs.Good.{holding, owed, Mine, Good, StepLaws, with_cells, good_calm, holder_locks}

-- a step of seat `s` with the report `r`: it leads to a world as it may, and the laws of steps hold of it
pub record Stepped (σ : Setting) (W : World) (f : ℕ → Seat) (h : History) (s : ℕ) (m' : List ℕ) (x' : Seat) (c' : ℕ) (r : Report) : Type 0 where
  pub words : ℕ → ℕ → ℕ
  pub tree : ℕ → T.Place
  pub good : Good σ W (record { cells = m'; count = c'; words = words; tree = tree }) f h (answer_of (Step s) r) s x'
  pub laws : StepLaws σ.start h (answer_of (Step s) r) s

-- a report that neither latches nor frees
pub record Quiet (r : Report) : Type 0 where
  pub told_of : ltb (told r).0 21 ≡ true
  pub two : eqb (told r).0 2 ≡ false
  pub three : eqb (told r).0 3 ≡ false
  pub five : (leb 3 (told r).0 && leb (told r).0 5) ≡ false

pub quiet_gone : (n : ℕ) → Quiet (GoneOn n)
quiet_gone n = record { told_of = refl; two = refl; three = refl; five = refl }

pub quiet_turned : (n : ℕ) → Quiet (TurnedBack n)
quiet_turned n = record { told_of = refl; two = refl; three = refl; five = refl }

pub quiet_answered : (n : ℕ) (o : Option ℕ) → Quiet (answered n o)
quiet_answered n o = grind arith

pub quiet_ended : (n : ℕ) (o : Outcome) → Quiet (Ended n o)
quiet_ended n o = grind arith

module _ (h : History) (s : ℕ) (r : Report) where
  module _ (u : Quiet r) where
    pub holds_quiet : (t : ℕ) → holds (answer_of (Step s) r ∷ h) t ≡ holds h t
    holds_quiet t = grind arith

    pub plain_quiet : (m₀ : ℕ → Option ℕ) → (k : ℕ) → plain_map m₀ (answer_of (Step s) r ∷ h) k ≡ plain_map m₀ h k
    plain_quiet m₀ k = cond-false (eqb (told r).0 3) _ _ u.three

    pub publishings_quiet : (m₀ : ℕ → Option ℕ) → publishings m₀ (answer_of (Step s) r ∷ h) s ≡ publishings m₀ h s
    publishings_quiet m₀ = publishings_own h s r u.told_of m₀ ∙ cond-false (eqb (told r).0 3) _ _ u.three

    pub since_quiet : looks (place h s) (told r).0 (told r).1 ≡ false → since_look (answer_of (Step s) r ∷ h) s ≡ suc (since_look h s)
    since_quiet e = since_own h s r u.told_of ∙ cond-false (looks (place h s) (told r).0 (told r).1) _ _ e

-- facts of a seat in another phase
module _ {σ : Setting} {W : World} where
  -- a step that leaves the content of the tree
  pub stepped_as : {f : ℕ → Seat} {h : History} {s : ℕ} {m' : List ℕ} {x' : Seat} {c' : ℕ} {r : Report} → Good σ W (with_cells W m' c') f h (answer_of (Step s) r) s x' → StepLaws σ.start h (answer_of (Step s) r) s → Stepped σ W f h s m' x' c' r
  stepped_as g l = record { words = W.words; tree = W.tree; good = g; laws = l }

  pub reading_in : {h : History} {s : ℕ} (x : Seat) (i : ℕ) (p : Phase) → Reading σ W h s x i → Reading σ W h s (in_phase x p) i
  reading_in x i p r = record { even = r.even; old = r.old; front = r.front; calm = r.calm; loud = r.loud }

-- what an up-to-date copy shows of its node
pub record Seen (σ : Setting) (W : World) (x : Seat) : Type 0 where
  pub node_is : N.Node
  pub from : ℕ
  pub to : ℕ
  pub at_is : W.tree x.node ≡ T.held node_is from to
  pub shown : Shows x.copy node_is
  pub few : length node_is.entries ≤ σ.fan

module _ {σ : Setting} {W : World} {f : ℕ → Seat} {h : History} (ι : Inv σ W f h) (s : ℕ) (b8 : s < 8) where
  pub odd_now : (t q : ℕ) → holds h t ≡ Some q → lock W.cells q % 2 ≡ 1
  odd_now t q p = (holder_locks σ W h t (f t).phase (f t) q (ι.seats t) (sym (ι.held_by t) ∙ p)).0

  pub doing_quiet : (r : Report) → Quiet r → (x : Seat) → Doing σ W h s x → Begins σ.start (answer_of (Step s) r ∷ h) s x.operation x.key
  doing_quiet r u x d = begins_same σ.start h (answer_of (Step s) r ∷ h) s x.operation x.key (begun_own h s r u.told_of) (publishings_quiet h s r u σ.start) d.begins

  pub doing_in : (r : Report) → Quiet r → (x : Seat) (p : Phase) → Doing σ W h s x → Doing σ W (answer_of (Step s) r ∷ h) s (in_phase x p)
  doing_in r u x p d = record { seated = d.seated; begins = doing_quiet r u x d }

  pub reading_own : (r : Report) → Quiet r → looks (place h s) (told r).0 (told r).1 ≡ false → (x : Seat) (i : ℕ) → Reading σ W h s x i → Reading σ W (answer_of (Step s) r ∷ h) s x i
  reading_own r u e x i k =
      let ev = answer_of (Step s) r in
      record {
        even = k.even;
        old = k.old;
        front = k.front;
        calm = λ q d. ⊎_elim (λ z. omega (arith, odd_now z.0 x.node (sym (holds_quiet h s r u z.0) ∙ z.2), k.even)) (k.calm q) (disturbed_cases ev h s x.node (since_quiet h s r u e) d);
        loud = λ q. (disturbed_later ev h s x.node (since_quiet h s r u e) (k.loud q).0, (k.loud q).1);
      }

  pub stepped_calm : (x' : Seat) (r : Report) → Quiet r → holding x' ≡ holding (f s) → ((q : ℕ) → Mine σ.fan x' q → Mine σ.fan (f s) q) → ((d : ℕ) → owed x' ≡ Some d → owed (f s) ≡ Some d)
      → SeatIn σ W (answer_of (Step s) r ∷ h) s x'.phase x' → length x'.copy ≡ 32 → StepLaws σ.start h (answer_of (Step s) r) s → Stepped σ W f h s W.cells x' W.count r
  stepped_calm x' r u a m d k l = stepped_as (good_calm ι (answer_of (Step s) r) s x' a m d (plain_quiet h s r u σ.start) k (holds_quiet h s r u s) (λ _. l))

  opened : (p : T.Place) → Linked p → (y : N.Node) × (a : ℕ) × (b : ℕ) × (p ≡ T.held y a b)
  opened p z = grind arith

  pub seen : (x : Seat) → Open W x.node → length x.copy ≡ 32 → ((j : ℕ) → 0 < j → j < 32 → get_or x.copy j 0 ≡ W.words x.node j) → Seen σ W x
  seen x o l same =
      let p = opened (W.tree x.node) o in
      let c : Coded σ W (W.words x.node) (T.held p.0 p.1 p.2) = rw p.3 at (ι.nodes.coded x.node) in
      record {
        node_is = p.0;
        from = p.1;
        to = p.2;
        at_is = p.3;
        shown = shows x.copy p.0 l (encodes_same (W.words x.node) (λ i. get_or x.copy i 0) p.0 same c.0);
        few = c.1;
      }

  -- a leaf that covers the key answers it as the plain map
  pub leaf_found : (x : Seat) (y : Seen σ W x) → T.Key σ.order x.key → T.At σ.order x.key 0 (W.tree x.node) → y.node_is.level ≡ 0 → covers σ.order.before x.copy x.key ≡ true
      → plain_map σ.start h x.key ≡ found σ.order.before x.key (entries x.copy)
  leaf_found x y key at level c =
      let n = y.node_is in
      let good = good_at σ.order W.tree x.node n y.from y.to ι.nodes.sound y.at_is in
      let leaf : T.Leaf σ.order y.from y.to (row (entries x.copy)) = rw y.shown.row_is (good.leaf level) in
      (tree_stands σ.order).leaf_answers W.tree (plain_map σ.start h) x.node n y.from y.to x.key ι.nodes.sound ι.nodes.answers y.at_is key at level (sym (covers_shown σ.order.before x.copy n x.key y.shown) ∙ c)
      ∙ rw (sym y.shown.row_is) (sym (found_is σ.order x.key y.from y.to (entries x.copy) key leaf))
