-- The theorems on the tree: a walk finds what it seeks, and every update that a release can make keeps the tree.
use Rattle.std.specs.Prelude.{◌≡◌, ℕ, suc, ◌<◌, ◌≤◌, Bool, true, false, ◌&&◌, List, length, take, Some, None, Option, ◌≢◌, nat_lt}
use Rattle.order.specs.Laws.{Ordered}
use Rattle.tree.specs.Node.{Entry, Node, lookup, last_key, covers, child, insert, posted}
use Rattle.tree.specs.Tree.{Order, Place, free, held, Held, Key, Sound, Answers, At, Pending, Seated, GoesOn, Formatted}
use Rattle.tree.specs.Updates.{Rewrites, Splits, Rises, Overflows, Grows, Takes, Kept, rewritten, overflowed, grew, taken, Fits, half, Small, Words}

-- each lawful order has ranks on the words below a limit
abbrev pub LawfulHasRanks : Type 0
LawfulHasRanks = (limit : ℕ) (is_key : ℕ → Bool) (before : ℕ → ℕ → Bool) → Ordered is_key before
    → (o : Order) × (o.before ≡ before) × ((k : ℕ) → o.is_key k ≡ (is_key k && nat_lt k limit))

module _ (o : Order) where
  -- a newly formatted tree is sound and holds nothing
  abbrev pub FormattedSound : Type 0
  FormattedSound = (g : ℕ → Place) → Formatted o g → Sound o g × Answers o g (λ _. None)

  -- a seat goes right from a node that does not cover its key, and down from one above its aim
  abbrev pub MovesRight : Type 0
  MovesRight = (g : ℕ → Place) (n : ℕ) (y : Node) (a b k aim : ℕ) → Sound o g → g n ≡ held y a b → Key o k → At o k aim (g n)
      → covers o.before y k ≡ false → At o k aim (g y.link)

  abbrev pub MovesDown : Type 0
  MovesDown = (g : ℕ → Place) (n : ℕ) (y : Node) (a b k aim : ℕ) → Sound o g → g n ≡ held y a b → Key o k → At o k aim (g n)
      → aim < y.level → At o k aim (g (child o.before y.entries k))

  -- a covering leaf has what the map has
  abbrev pub LeafAnswers : Type 0
  LeafAnswers = (g : ℕ → Place) (w : ℕ → Option ℕ) (n : ℕ) (y : Node) (a b k : ℕ) → Sound o g → Answers o g w → g n ≡ held y a b → Key o k → At o k 0 (g n)
      → y.level ≡ 0 → covers o.before y k ≡ true → w k ≡ lookup y.entries k

  -- a seat may start at the root
  abbrev pub Starts : Type 0
  Starts = (g : ℕ → Place) → Sound o g → ((k : ℕ) → At o k 0 (g 0)) × ((v m d : ℕ) → Pending o g v m d → At o m (suc v) (g 0))

  abbrev pub SeatsStart : Type 0
  SeatsStart = (g : ℕ → Place) → Sound o g → ((k : ℕ) → Key o k → Seated o g None k 0 0) × ((v m d : ℕ) → Pending o g v m d → Seated o g (Some d) m (suc v) 0)

  -- a seat stays seated through another seat's update, which does not post what this one has to post
  abbrev pub SeatsStay : Type 0
  SeatsStay = (g g' : ℕ → Place) (settled : Option ℕ) → Kept o g g' settled → (post : Option ℕ) (k aim n : ℕ) → ((d : ℕ) → post ≡ Some d → settled ≢ Some d)
      → Seated o g post k aim n → Seated o g' post k aim n

  -- a seat goes on from its node
  abbrev pub SeatsGoOn : Type 0
  SeatsGoOn = (g : ℕ → Place) (n : ℕ) (y : Node) (a b : ℕ) (post : Option ℕ) (k aim : ℕ) → Sound o g → g n ≡ held y a b → Seated o g post k aim n → GoesOn o g y a b post k aim

  -- the single updates: storing a pair in a leaf, posting a split in an inner node, splitting a node, and the root's rise
  abbrev pub StoringKeeps : Type 0
  StoringKeeps = (g g' : ℕ → Place) (x : ℕ) (y : Node) (a b k v : ℕ) → Key o k → Rewrites o g g' x y (insert o.before y.entries k v) a b → Sound o g
      → At o k 0 (g x) → y.level ≡ 0 → covers o.before y k ≡ true
      → Kept o g g' None × ((w w' : ℕ → Option ℕ) → Takes o w w' k v → Answers o g w → Answers o g' w')

  abbrev pub PostingKeeps : Type 0
  PostingKeeps = (g g' : ℕ → Place) (x : ℕ) (y : Node) (a b m d v : ℕ) → Pending o g v m d → Rewrites o g g' x y (posted o.before y.entries m d) a b → Sound o g
      → At o m (suc v) (g x) → y.level ≡ suc v → covers o.before y m ≡ true
      → Kept o g g' (Some d) × ((w : ℕ → Option ℕ) → Answers o g w → Answers o g' w)

  abbrev pub SplittingKeeps : Type 0
  SplittingKeeps = (g g' : ℕ → Place) (x d i : ℕ) (y : Node) (a b : ℕ) → Splits o g g' x d i y a b → Sound o g
      → Kept o g g' None × Pending o g' y.level (last_key (take i y.entries)) d × ((w : ℕ → Option ℕ) → Answers o g w → Answers o g' w)

  abbrev pub RisingKeeps : Type 0
  RisingKeeps = (g g' : ℕ → Place) (d : ℕ) (y : Node) (a b : ℕ) → Rises o g g' d y a b → Sound o g
      → Kept o g g' None × ((w : ℕ → Option ℕ) → Answers o g w → Answers o g' w)

  -- what a release that publishes may be beside storing in place, from a leaf that covers the key
  abbrev pub StoringOverflows : Type 0
  StoringOverflows = (g g' : ℕ → Place) (x d i : ℕ) (y : Node) (a b k v : ℕ) → Key o k → Overflows o g g' x d i y (insert o.before y.entries k v) a b → Sound o g
      → At o k 0 (g x) → y.level ≡ 0 → covers o.before y k ≡ true
      → Kept o g g' None × Pending o g' y.level (last_key (take i (insert o.before y.entries k v))) d
      × ((w w' : ℕ → Option ℕ) → Takes o w w' k v → Answers o g w → Answers o g' w')

  abbrev pub StoringGrows : Type 0
  StoringGrows = (g g' : ℕ → Place) (d e i : ℕ) (y : Node) (a b k v : ℕ) → Key o k → Grows o g g' d e i y (insert o.before y.entries k v) a b → Sound o g
      → At o k 0 (g 0) → y.level ≡ 0 → covers o.before y k ≡ true
      → Kept o g g' None × ((w w' : ℕ → Option ℕ) → Takes o w w' k v → Answers o g w → Answers o g' w')

  -- what a release that posts may be beside posting in place
  abbrev pub PostingOverflows : Type 0
  PostingOverflows = (g g' : ℕ → Place) (x e i : ℕ) (y : Node) (a b m d v : ℕ) → Pending o g v m d → Overflows o g g' x e i y (posted o.before y.entries m d) a b → Sound o g
      → At o m (suc v) (g x) → y.level ≡ suc v → covers o.before y m ≡ true
      → Kept o g g' (Some d) × Pending o g' y.level (last_key (take i (posted o.before y.entries m d))) e × ((w : ℕ → Option ℕ) → Answers o g w → Answers o g' w)

  abbrev pub PostingGrows : Type 0
  PostingGrows = (g g' : ℕ → Place) (p e i : ℕ) (y : Node) (a b m d v : ℕ) → Pending o g v m d → Grows o g g' p e i y (posted o.before y.entries m d) a b → Sound o g
      → At o m (suc v) (g 0) → y.level ≡ suc v → covers o.before y m ≡ true
      → Kept o g g' (Some d) × ((w : ℕ → Option ℕ) → Answers o g w → Answers o g' w)

  -- the updates can be made
  pub record Made : Type 0 where
    pub rewrites : (g : ℕ → Place) (x : ℕ) (y : Node) (es : List Entry) (a b : ℕ) → g x ≡ held y a b → Rewrites o g (rewritten o g x y es a b) x y es a b
    pub overflows : (g : ℕ → Place) (x d i : ℕ) (y : Node) (es : List Entry) (a b : ℕ) → g x ≡ held y a b → g d ≡ free → (x ≢ 0) → 0 < i → i < length es
        → Overflows o g (overflowed o g x d i y es a b) x d i y es a b
    pub grows : (g : ℕ → Place) (d e i : ℕ) (y : Node) (es : List Entry) (a b : ℕ) → g 0 ≡ held y a b → g d ≡ free → g e ≡ free → (e ≢ d) → 0 < i → i < length es
        → Grows o g (grew o g d e i y es a b) d e i y es a b
    pub takes : (w : ℕ → Option ℕ) (k v : ℕ) → Takes o w (taken o w k v) k v

-- no update leaves a node with more entries than the fan
pub record UpdatesFit (o : Order) : Type 0 where
  pub rewrites : (fan : ℕ) (g g' : ℕ → Place) (x : ℕ) (y : Node) (es : List Entry) (a b : ℕ) → Rewrites o g g' x y es a b → length es ≤ fan
      → ((n : ℕ) → Fits fan (g n)) → (n : ℕ) → Fits fan (g' n)
  pub overflows : (fan : ℕ) (g g' : ℕ → Place) (x d : ℕ) (y : Node) (es : List Entry) (a b : ℕ) → 3 ≤ fan → length es ≡ suc fan → Overflows o g g' x d (half fan) y es a b
      → ((n : ℕ) → Fits fan (g n)) → (n : ℕ) → Fits fan (g' n)
  pub grows : (fan : ℕ) (g g' : ℕ → Place) (d e : ℕ) (y : Node) (es : List Entry) (a b : ℕ) → 3 ≤ fan → length es ≡ suc fan → Grows o g g' d e (half fan) y es a b
      → ((n : ℕ) → Fits fan (g n)) → (n : ℕ) → Fits fan (g' n)
  pub inserted : (es : List Entry) (k v : ℕ) → length (insert o.before es k v) ≤ suc (length es)
  pub one_more : (es : List Entry) (m d : ℕ) → length (posted o.before es m d) ≤ suc (length es)
  pub halves : (fan : ℕ) → 3 ≤ fan → (0 < half fan) × (half fan < suc fan)

-- no update writes a word above the top word
pub record UpdatesSmall (o : Order) : Type 0 where
  pub rewrites : (top : ℕ) (g g' : ℕ → Place) (x : ℕ) (y : Node) (es : List Entry) (a b : ℕ) → Rewrites o g g' x y es a b → Small top es
      → ((n : ℕ) → Words top (g n)) → (n : ℕ) → Words top (g' n)
  pub overflows : (top : ℕ) (g g' : ℕ → Place) (x d i : ℕ) (y : Node) (es : List Entry) (a b : ℕ) → Overflows o g g' x d i y es a b → Small top es → d ≤ top
      → ((n : ℕ) → Words top (g n)) → (n : ℕ) → Words top (g' n)
  pub grows : (top : ℕ) (g g' : ℕ → Place) (d e i : ℕ) (y : Node) (es : List Entry) (a b : ℕ) → Grows o g g' d e i y es a b → Small top es → d ≤ top → e ≤ top
      → ((n : ℕ) → Words top (g n)) → (n : ℕ) → Words top (g' n)
  pub inserted : (top : ℕ) (es : List Entry) (k v : ℕ) → k ≤ top → v ≤ top → Small top es → Small top (insert o.before es k v)
  pub one_more : (top : ℕ) (es : List Entry) (m d : ℕ) → m ≤ top → d ≤ top → Small top es → Small top (posted o.before es m d)
  pub last : (top : ℕ) (i : ℕ) (es : List Entry) → Small top es → last_key (take i es) ≤ top

-- where the nodes in use are those below `count`, a seat stands on one, and so do links and children
abbrev pub InUse : Order → Type 0
InUse o = (g : ℕ → Place) (count : ℕ) → ((n : ℕ) → count ≤ n → g n ≡ free)
    → ((k aim n : ℕ) → At o k aim (g n) → n < count) × ((v lo c : ℕ) → Held g v lo c → c < count)

-- all that holds of the tree
pub record Stands (o : Order) : Type 0 where
  pub moves_right : MovesRight o
  pub moves_down : MovesDown o
  pub leaf_answers : LeafAnswers o
  pub starts : Starts o
  pub seats_start : SeatsStart o
  pub seats_stay : SeatsStay o
  pub seats_go_on : SeatsGoOn o
  pub formatted : FormattedSound o
  pub stores : StoringKeeps o
  pub stores_overflows : StoringOverflows o
  pub stores_grows : StoringGrows o
  pub posts : PostingKeeps o
  pub posts_overflows : PostingOverflows o
  pub posts_grows : PostingGrows o
  pub fits : UpdatesFit o
  pub small : UpdatesSmall o
  pub in_use : InUse o
  pub made : Made o
  pub splits : SplittingKeeps o
  pub rises : RisingKeeps o

abbrev pub TreeStands : Type 0
TreeStands = (o : Order) → Stands o
