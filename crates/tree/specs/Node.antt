-- A node's content, and what is computed from it on the way down and at an update.
use Rattle.std.specs.Prelude.{ℕ, suc, Bool, cond, not, ◌||◌, List, [], ◌∷◌, take, drop, Some, None, Option, ◌==◌}

-- a key with its value in a leaf, or with its child in an inner node
pub data Entry : Type 0 where
  entry : ℕ → ℕ → Entry

pub record Node : Type 0 where
  pub level : ℕ
  pub link : ℕ
  pub high : ℕ
  pub entries : List Entry

-- the value of a key in a leaf
abbrev pub lookup : List Entry → ℕ → Option ℕ
lookup [] k = None
lookup (entry e v ∷ es) k = cond (e == k) (Some v) (lookup es k)

abbrev pub last_key : List Entry → ℕ
last_key [] = 0
last_key (entry k v ∷ []) = k
last_key (entry k v ∷ (f ∷ es)) = last_key (f ∷ es)

module _ (before : ℕ → ℕ → Bool) where
  -- a node covers a key if it has no link, or the key isn't after its high key
  abbrev pub covers : Node → ℕ → Bool
  covers n k = n.link == 0 || not (before n.high k)

  -- the child for a key: that of the first entry, the last one apart, whose key isn't before it, or else the last child
  abbrev pub child : List Entry → ℕ → ℕ
  child [] k = 0
  child (entry e c ∷ []) k = c
  child (entry e c ∷ (f ∷ es)) k = cond (before e k) (child (f ∷ es) k) c

  -- a leaf's entries with a pair stored
  abbrev pub insert : List Entry → ℕ → ℕ → List Entry
  insert [] k v = entry k v ∷ []
  insert (entry e w ∷ es) k v = cond (e == k) (entry k v ∷ es) (cond (before e k) (entry e w ∷ insert es k v) (entry k v ∷ (entry e w ∷ es)))

  -- an inner node's entries with a split posted, whose last left key is `m` and whose right node is `d`
  abbrev pub posted : List Entry → ℕ → ℕ → List Entry
  posted [] m d = []
  posted (entry e c ∷ []) m d = entry m c ∷ (entry e d ∷ [])
  posted (entry e c ∷ (f ∷ es)) m d = cond (before e m) (entry e c ∷ posted (f ∷ es) m d) (entry m c ∷ (entry e d ∷ (f ∷ es)))

-- a node with other entries
abbrev pub with_entries : Node → List Entry → Node
with_entries y es = record { level = y.level; link = y.link; high = y.high; entries = es }

-- the two parts of a split at entry `i`: the left one links to `d`, and its high key is its last key
abbrev pub left_part : Node → ℕ → ℕ → Node
left_part y i d = record { level = y.level; link = d; high = last_key (take i y.entries); entries = take i y.entries }

abbrev pub right_part : Node → ℕ → Node
right_part y i = record { level = y.level; link = y.link; high = y.high; entries = drop i y.entries }

-- the root one level higher, with the one child `d`
abbrev pub risen : Node → ℕ → Node
risen y d = record { level = suc y.level; link = 0; high = 0; entries = entry 0 d ∷ [] }

-- the root one level higher, over the two nodes `d` and `e` that part at `m`
abbrev pub grown : Node → ℕ → ℕ → ℕ → Node
grown y m d e = record { level = suc y.level; link = 0; high = 0; entries = entry m d ∷ (entry 0 e ∷ []) }
