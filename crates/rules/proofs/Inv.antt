-- The invariant: what holds between two calls of the cells, the linked nodes, the history and each seat in its phase.
use Rattle.std.proofs.Common.{◌≡◌, ℕ, suc, ◌+◌, ◌*◌, ◌%◌, ◌<◌, ◌≤◌, true, false, cond, ◌≢◌, ◌⊎◌, List, [], ◌∷◌, length, get_or, Some, None, Option}
use Rattle.tree.specs.Tree as T
use Rattle.rules.specs.Nodes.{level, entries, covers}
use Rattle.rules.specs.Seats.{drafted}
use Rattle.rules.specs.Steps.{version, is_root, splits, left_count, split_key, part_node, fill_word, content_by, finished}
use Rattle.rules.specs.Histories.{History}
use Rattle.rules.specs.Events.{begun, finding, putting}
use Rattle.rules.specs.PlainMap.{publishings, plain_map}
use Rattle.rules.specs.Latches.{holds, place, elsewhere, reading, checked, looks, tests, Disturbed}
use Rattle.rules.specs.declared.seat.Part.{Part}
use Rattle.rules.specs.declared.seat.Part.TheVariants.{Left, Right, Own}
use Rattle.rules.specs.declared.seat.Phase.{Phase}
use Rattle.rules.specs.declared.seat.Phase.TheVariants as phase
use Rattle.rules.specs.declared.seat.Operation.{Operation}
use Rattle.rules.specs.declared.seat.Operation.TheVariants as operation
use Rattle.rules.specs.declared.report.Outcome.{Outcome}
use Rattle.rules.specs.declared.report.Outcome.TheVariants as outcome
use Rattle.rules.specs.declared.seat.Draft.{Draft}
use Rattle.rules.specs.declared.seat.Seat.{Seat}
use Rattle.rules.proofs.Cells.{word, lock}
use Rattle.rules.proofs.Words.{Encodes}

-- what stays through a run
pub record Setting : Type 0 where
  pub order : T.Order
  pub top : ℕ
  pub fan : ℕ
  pub start : ℕ → Option ℕ
  pub least : 3 ≤ fan
  pub most : fan ≤ 13

-- the cells and the count, with what the linked nodes hold: their words, which change at a release alone, and their places in the tree
pub record World : Type 0 where
  pub cells : List ℕ
  pub count : ℕ
  pub words : ℕ → ℕ → ℕ
  pub tree : ℕ → T.Place

-- a node that is linked, as the root and what releases have linked are
abbrev pub Linked : T.Place → Type 0
Linked T.free = ⊥
Linked (T.held y a b) = Unit {0}

abbrev pub Open : World → ℕ → Type 0
Open W q = Linked (W.tree q)

-- the node whose latch a seat holds in this phase
abbrev pub holding_in : Phase → ℕ → Option ℕ
holding_in phase.Idle n = None
holding_in phase.Look n = None
holding_in (phase.Copy i) n = None
holding_in phase.Check n = None
holding_in phase.Latch n = None
holding_in phase.Take n = Some n
holding_in (phase.Fill p i) n = Some n
holding_in phase.Release n = Some n
holding_in phase.Undo n = Some n
holding_in (phase.End r) n = None

-- the node that a seat posts
abbrev pub post_of : Operation → Option ℕ
post_of operation.Find = None
post_of (operation.Put v) = None
post_of (operation.Post m d) = Some d

-- the node that a seat has yet to post in this phase
abbrev pub owed_in : Phase → Operation → Option ℕ
owed_in phase.Idle t = None
owed_in phase.Look t = post_of t
owed_in (phase.Copy i) t = post_of t
owed_in phase.Check t = post_of t
owed_in phase.Latch t = post_of t
owed_in phase.Take t = post_of t
owed_in (phase.Fill p i) t = post_of t
owed_in phase.Release t = post_of t
owed_in phase.Undo t = post_of t
owed_in (phase.End r) t = None

-- a node that a seat took for its split
abbrev pub Fresh : ℕ → Seat → ℕ → Type 0
Fresh fan x q = (splits fan x.draft ≡ true) × ((q ≡ x.draft.right) ⊎ ((is_root x ≡ true) × (q ≡ x.draft.left)))

-- the nodes that a seat alone may write
abbrev pub MineIn : ℕ → Phase → Seat → ℕ → Type 0
MineIn fan phase.Idle x q = ⊥
MineIn fan phase.Look x q = ⊥
MineIn fan (phase.Copy i) x q = ⊥
MineIn fan phase.Check x q = ⊥
MineIn fan phase.Latch x q = ⊥
MineIn fan phase.Take x q = q ≡ x.node
MineIn fan (phase.Fill p i) x q = (q ≡ x.node) ⊎ Fresh fan x q
MineIn fan phase.Release x q = (q ≡ x.node) ⊎ Fresh fan x q
MineIn fan phase.Undo x q = q ≡ x.node
MineIn fan (phase.End r) x q = ⊥

-- the parts that a seat fills
abbrev pub Uses : ℕ → Seat → Part → Type 0
Uses fan x Left = (splits fan x.draft ≡ true) × (is_root x ≡ true)
Uses fan x Right = splits fan x.draft ≡ true
Uses fan x Own = Unit {0}

-- the first word that a fill of a part writes: the latched node keeps its lock word
abbrev pub first : Part → ℕ
first Left = 0
first Right = 0
first Own = 1

-- how many words of each part are filled before word `i` of a part is
abbrev pub done_in : Part → ℕ → Part → ℕ
done_in Left i Left = i
done_in Left i Right = 0
done_in Left i Own = 1
done_in Right i Left = 32
done_in Right i Right = i
done_in Right i Own = 1
done_in Own i Left = 32
done_in Own i Right = 32
done_in Own i Own = i

-- so many words of each part are as drafted
abbrev pub Filled : ℕ → List ℕ → Seat → (Part → ℕ) → Type 0
Filled fan m x d = (p : Part) → Uses fan x p → (w : ℕ) → first p ≤ w → w < d p → word m (part_node p x) w ≡ fill_word fan x p w

-- an operation that latches
abbrev pub Writes : Operation → Type 0
Writes operation.Find = ⊥
Writes (operation.Put v) = Unit {0}
Writes (operation.Post m d) = Unit {0}

-- a seat's operation is what it was begun with, and a posting comes after the publishing of a new key
abbrev pub Begins : (m₀ : ℕ → Option ℕ) → History → ℕ → Operation → ℕ → Type 0
Begins m₀ h s operation.Find k = (begun h s ≡ finding k) × (publishings m₀ h s ≡ [])
Begins m₀ h s (operation.Put v) k = (begun h s ≡ putting k v) × (publishings m₀ h s ≡ [])
Begins m₀ h s (operation.Post m d) k = ((q : ℕ) × (v : ℕ) × (begun h s ≡ putting q v)) × (publishings m₀ h s ≡ None ∷ []) × (k ≡ m)

-- what was published by a put that ends so
abbrev pub paid : Outcome → List (Option ℕ)
paid outcome.Stored = None ∷ []
paid (outcome.Replaced v) = Some v ∷ []
paid outcome.Untold = None ∷ []
paid outcome.Full = []
paid outcome.Worn = []

abbrev pub Paid : (m₀ : ℕ → Option ℕ) → History → ℕ → Outcome → Type 0
Paid m₀ h s r = ((q : ℕ) × (v : ℕ) × (begun h s ≡ putting q v)) × (publishings m₀ h s ≡ paid r)

-- a draft is what an operation for key `k` makes of a copy of a node's words
pub record Planned (σ : Setting) (d : Draft) (t : Operation) (k : ℕ) (ws : List ℕ) : Type 0 where
  pub frees : d.freeing ≡ get_or ws 0 0 + 2
  pub rows_are : drafted d ≡ content_by σ.order.before t k (entries ws)
  pub len_is : d.len ≡ length (content_by σ.order.before t k (entries ws))
  pub left_is : d.left_len ≡ left_count σ.fan
  pub edge_is : d.edge ≡ split_key σ.fan (content_by σ.order.before t k (entries ws))
  pub outcome_is : d.outcome ≡ finished σ.order.before t k (entries ws)

module _ (σ : Setting) (W : World) where
  -- a seat stands in the tree as it should, with the operation that it was begun with
  pub record Doing (h : History) (s : ℕ) (x : Seat) : Type 0 where
    pub seated : T.Seated σ.order W.tree (post_of x.operation) x.key x.aim x.node
    pub begins : Begins σ.start h s x.operation x.key

  -- a copy of which the words below `i` are read. While the lock word is the version, they are the node's, and nobody has held the
  -- latch since the look; once it is not, somebody has
  pub record Reading (h : History) (s : ℕ) (x : Seat) (i : ℕ) : Type 0 where
    pub even : version x % 2 ≡ 0
    pub old : version x ≤ lock W.cells x.node
    pub front : lock W.cells x.node ≡ version x → (j : ℕ) → 0 < j → j < i → j < 32 → get_or x.copy j 0 ≡ W.words x.node j
    pub calm : lock W.cells x.node ≡ version x → ¬ (Disturbed h s x.node)
    pub loud : lock W.cells x.node ≢ version x → Disturbed h s x.node × (version x + 2 ≤ σ.top)

  -- a seat with a latch: its copy is what the node holds, and its draft what the node will hold
  pub record Hold (x : Seat) : Type 0 where
    pub even : version x % 2 ≡ 0
    pub mine : lock W.cells x.node ≡ suc (version x)
    pub low : version x + 2 ≤ σ.top
    pub kept : (j : ℕ) → 0 < j → j < 32 → get_or x.copy j 0 ≡ W.words x.node j
    pub there : level x.copy ≡ x.aim
    pub covered : covers σ.order.before x.copy x.key ≡ true
    pub planned : Planned σ x.draft x.operation x.key x.copy
    pub writes : Writes x.operation

  -- the taken nodes are in use, not linked, and two
  pub record Taken (x : Seat) : Type 0 where
    pub inside : (q : ℕ) → Fresh σ.fan x q → q < W.count
    pub hidden : (q : ℕ) → Fresh σ.fan x q → ¬ (Open W q)
    pub two : Uses σ.fan x Left → x.draft.left ≢ x.draft.right
    pub level_is : x.draft.level ≡ cond (splits σ.fan x.draft) (cond (is_root x) (level x.copy + 1) (level x.copy)) (level x.copy)

  -- the latched node's words are still the old ones
  abbrev pub Unwritten : Seat → Type 0
  Unwritten x = (j : ℕ) → 0 < j → j < 32 → word W.cells x.node j ≡ W.words x.node j

  -- what holds of seat `s` in its phase
  abbrev pub SeatIn : History → ℕ → Phase → Seat → Type 0
  SeatIn h s phase.Idle x = Unit {0}
  SeatIn h s phase.Look x = Doing h s x × (looks (place h s) 0 x.node ≡ true) × (tests (place h s) x.node ≡ false)
  SeatIn h s (phase.Copy i) x = Doing h s x × Reading h s x i × (i ≤ 31) × ((k : ℕ) × (i ≡ suc k) × (place h s ≡ reading k))
  SeatIn h s phase.Check x = Doing h s x × Reading h s x 32 × (place h s ≡ reading 31)
  SeatIn h s phase.Latch x =
      Doing h s x × Reading h s x 32 × (place h s ≡ checked x.node) × (level x.copy ≡ x.aim) × (covers σ.order.before x.copy x.key ≡ true) × Writes x.operation
  SeatIn h s phase.Take x = Doing h s x × Hold x × (place h s ≡ elsewhere) × Unwritten x × (splits σ.fan x.draft ≡ true) × (x.draft.level ≡ level x.copy)
  SeatIn h s (phase.Fill p i) x = Doing h s x × Hold x × (place h s ≡ elsewhere) × Taken x × Filled σ.fan W.cells x (done_in p i) × (first p ≤ i) × (i ≤ 31) × Uses σ.fan x p
  SeatIn h s phase.Release x = Doing h s x × Hold x × (place h s ≡ elsewhere) × Taken x × Filled σ.fan W.cells x (λ _. 32)
  SeatIn h s phase.Undo x = Doing h s x × Hold x × (place h s ≡ elsewhere) × Unwritten x
  SeatIn h s (phase.End r) x = Paid σ.start h s r × (tests (place h s) x.node ≡ false)

  -- the words of a place's node
  abbrev pub Coded : (ℕ → ℕ) → T.Place → Type 0
  Coded w T.free = Unit {0}
  Coded w (T.held y a b) = Encodes w y × (length y.entries ≤ σ.fan)

  -- the linked nodes are in use; one with an odd lock word is latched by a seat, and the cells of any other are its content; the tree is
  -- sound, each content is encoded in its words, and the leaves answer as the plain map
  pub record Nodes (f : ℕ → Seat) (h : History) : Type 0 where
    pub room : 32 * W.count ≤ length W.cells
    pub below : (q : ℕ) → Open W q → q < W.count
    pub latched : (q : ℕ) → Open W q → lock W.cells q % 2 ≡ 1 → (s : ℕ) × (holding_in (f s).phase (f s).node ≡ Some q)
    pub same : (q : ℕ) → Open W q → lock W.cells q % 2 ≡ 0 → (i : ℕ) → 0 < i → i < 32 → word W.cells q i ≡ W.words q i
    pub sound : T.Sound σ.order W.tree
    pub coded : (q : ℕ) → Coded (W.words q) (W.tree q)
    pub answers : T.Answers σ.order W.tree (plain_map σ.start h)

  -- all seats together: the latches are those that the history tells, and no two seats write one node or post one split
  pub record Inv (f : ℕ → Seat) (h : History) : Type 0 where
    pub nodes : Nodes f h
    pub seats : (s : ℕ) → SeatIn h s (f s).phase (f s)
    pub held_by : (s : ℕ) → holds h s ≡ holding_in (f s).phase (f s).node
    pub apart : (s t : ℕ) → t ≢ s → (q : ℕ) → MineIn σ.fan (f s).phase (f s) q → MineIn σ.fan (f t).phase (f t) q → ⊥
    pub owes : (s t : ℕ) → t ≢ s → (d : ℕ) → owed_in (f s).phase (f s).operation ≡ Some d → owed_in (f t).phase (f t).operation ≡ Some d → ⊥
    pub sizes : (s : ℕ) → s < 8 → length (f s).copy ≡ 32
