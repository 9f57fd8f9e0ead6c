-- The tree that the linked nodes make: what holds of it between two updates, and where a seat may stand in it.
use Rattle.std.specs.Prelude.{◌≡◌, ℕ, zero, suc, ◌<◌, ◌≤◌, Bool, true, false, ◌⊎◌, List, [], ◌∷◌, Some, None, Option, ◌≢◌, nat_lt}
use Rattle.tree.specs.Node.{Entry, entry, Node, lookup, covers, child}

-- a key order in which each key has a rank, below `room` with one to spare: how many keys come before it
pub record Order : Type 0 where
  pub is_key : ℕ → Bool
  pub before : ℕ → ℕ → Bool
  pub rank : ℕ → ℕ
  pub room : ℕ
  pub before_is : (a b : ℕ) → is_key a ≡ true → is_key b ≡ true → before a b ≡ nat_lt (rank a) (rank b)
  pub rank_one : (a b : ℕ) → is_key a ≡ true → is_key b ≡ true → rank a ≡ rank b → a ≡ b
  pub rank_in : (a : ℕ) → is_key a ≡ true → suc (rank a) < room
  pub some_room : 0 < room

-- a node's place in the tree: not linked, or linked with its content, for the keys whose rank is at least the first number, its
-- lower edge, and below the second
pub data Place : Type 0 where
  free : Place
  held : Node → ℕ → ℕ → Place

-- linked at level `v`, with the lower edge `lo`
abbrev pub Is : ℕ → ℕ → Place → Type 0
Is v lo free = ⊥
Is v lo (held y a b) = (y.level ≡ v) × (a ≡ lo)

-- node `c`, which is not the root, is so linked
abbrev pub Held : (ℕ → Place) → ℕ → ℕ → ℕ → Type 0
Held g v lo c = (c ≢ 0) × Is v lo (g c)

-- the root has no link, and its lower edge is 0
abbrev pub Root : Place → Type 0
Root free = ⊥
Root (held y a b) = (y.link ≡ 0) × (a ≡ 0)

-- two linked nodes of one level have no key in common
abbrev pub Apart : Place → Place → Type 0
Apart free q = Unit {0}
Apart (held y a b) free = Unit {0}
Apart (held y a b) (held z c e) = y.level ≡ z.level → (b ≤ c) ⊎ (e ≤ a)

abbrev pub Lower : Place → Place → Type 0
Lower free q = Unit {0}
Lower (held y a b) free = Unit {0}
Lower (held y a b) (held z c e) = y.level < z.level

-- something holds of each child
abbrev pub Kids : (ℕ → Type 0) → List Entry → Type 0
Kids P [] = Unit {0}
Kids P (entry k c ∷ es) = P c × Kids P es

-- `d` is no child of an inner node here
abbrev pub ApartFrom : ℕ → Place → Type 0
ApartFrom d free = Unit {0}
ApartFrom d (held y a b) = (y.level ≢ 0) → Kids (λ c. c ≢ d) y.entries

module _ (o : Order) where
  abbrev pub Key : ℕ → Type 0
  Key k = o.is_key k ≡ true

  -- a leaf's entries: keys that ascend, from rank `lo` on and below `hi`
  abbrev pub Leaf : ℕ → ℕ → List Entry → Type 0
  Leaf lo hi [] = lo ≤ hi
  Leaf lo hi (entry k v ∷ es) = Key k × (lo ≤ o.rank k) × Leaf (suc (o.rank k)) hi es

  -- an inner node's entries: each child's lower edge is where the entry before it ends; the last entry ends at `hi`, and its key word is `h`
  abbrev pub Inner : (ℕ → ℕ → Type 0) → ℕ → ℕ → ℕ → List Entry → Type 0
  Inner C lo hi h [] = ⊥
  Inner C lo hi h (entry k c ∷ []) = C lo c × (k ≡ h) × (lo < hi)
  Inner C lo hi h (entry k c ∷ (f ∷ es)) = C lo c × Key k × (lo ≤ o.rank k) × Inner C (suc (o.rank k)) hi h (f ∷ es)

  -- a linked node is as it should be: with no link it goes up to the last key, else to its high key, and its neighbour goes on from
  -- there on the same level; its entries are a leaf's, or each child is linked one level lower
  pub record Good (g : ℕ → Place) (y : Node) (a b : ℕ) : Type 0 where
    pub span : a < b
    pub last : y.link ≡ 0 → (y.high ≡ 0) × (b ≡ o.room)
    pub next : (y.link ≢ 0) → Key y.high × (b ≡ suc (o.rank y.high)) × Held g y.level b y.link
    pub leaf : y.level ≡ 0 → Leaf a b y.entries
    pub inner : (v : ℕ) → y.level ≡ suc v → Inner (Held g v) a b y.high y.entries

  abbrev pub Fine : (ℕ → Place) → Place → Type 0
  Fine g free = Unit {0}
  Fine g (held y a b) = Good g y a b

  -- the tree is sound
  pub record Sound (g : ℕ → Place) : Type 0 where
    pub root : Root (g 0)
    pub each : (n : ℕ) → Fine g (g n)
    pub apart : (n p : ℕ) → (n ≢ p) → Apart (g n) (g p)
    pub below : (n : ℕ) → (n ≢ 0) → Lower (g n) (g 0)

  -- what a leaf here has for a key in its range is what the map has
  abbrev pub Tells : (ℕ → Option ℕ) → ℕ → Place → Type 0
  Tells m k free = Unit {0}
  Tells m k (held y a b) = y.level ≡ 0 → a ≤ o.rank k → o.rank k < b → m k ≡ lookup y.entries k

  -- the leaves answer as the map does
  abbrev pub Answers : (ℕ → Place) → (ℕ → Option ℕ) → Type 0
  Answers g m = (n k : ℕ) → Key k → Tells m k (g n)

  -- a seat that seeks key `k` at level `aim` may stand here: no higher than the node's level, and not left of its lower edge
  abbrev pub At : ℕ → ℕ → Place → Type 0
  At k aim free = ⊥
  At k aim (held y a b) = (aim ≤ y.level) × (a ≤ o.rank k)

  -- `d`, at level `v`, is the right part of a split that is not posted yet: its keys come after `m`, and it is no one's child
  pub record Pending (g : ℕ → Place) (v m d : ℕ) : Type 0 where
    pub key : Key m
    pub place : Held g v (suc (o.rank m)) d
    pub none_has : (n : ℕ) → ApartFrom d (g n)

  -- a seat that has nothing to post aims at the leaves; one that posts `d` aims at the level above it
  abbrev pub Aims : (ℕ → Place) → Option ℕ → ℕ → ℕ → Type 0
  Aims g None k aim = aim ≡ 0
  Aims g (Some d) k zero = ⊥
  Aims g (Some d) k (suc v) = Pending g v k d

  -- a seat stands at node `n` as it should
  pub record Seated (g : ℕ → Place) (post : Option ℕ) (k aim n : ℕ) : Type 0 where
    pub key : Key k
    pub at : At k aim (g n)
    pub aims : Aims g post k aim

  -- where a seat may stand after it has seen the content of its node
  pub record GoesOn (g : ℕ → Place) (y : Node) (a b : ℕ) (post : Option ℕ) (k aim : ℕ) : Type 0 where
    pub right : covers o.before y k ≡ false → Seated g post k aim y.link
    pub down : covers o.before y k ≡ true → nat_lt aim y.level ≡ true → Seated g post k aim (child o.before y.entries k)
    pub there : covers o.before y k ≡ true → nat_lt aim y.level ≡ false → (y.level ≡ aim) × (a ≤ o.rank k) × (o.rank k < b)

  -- the tree of a newly formatted index: an empty leaf
  pub record Formatted (g : ℕ → Place) : Type 0 where
    pub now : g 0 ≡ held (record { level = 0; link = 0; high = 0; entries = [] }) 0 o.room
    pub same : (n : ℕ) → (n ≢ 0) → g n ≡ free
