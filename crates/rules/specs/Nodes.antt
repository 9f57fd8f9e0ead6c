-- A node: its 32 words, what they mean, and its entries.
-- Word 0 is the lock word, 1 the level, 2 the number of entries, 3 the link to the right neighbour, 4 the high key, and
-- 5 is 0. From word 6 on each entry has a key and a value, in an inner node a child.
use Rattle.std.specs.Prelude.{ℕ, ◌+◌, ◌-◌, ◌*◌, ◌/◌, ◌%◌, min, Bool, cond, not, ◌||◌, List, [], ◌∷◌, length, take, drop, Some, None, Option, ◌==◌, nat_lt, slice_index, slice_index_or}
use Rattle.rules.specs.declared.seat.Entry.{Entry}

-- the cell of word `i` of node `n`
abbrev pub cell_of : ℕ → ℕ → ℕ
cell_of n i = 32 * n + i

abbrev pub entry : ℕ → ℕ → Entry
entry k v = record { key = k; value = v }

abbrev pub level : List ℕ → ℕ
level ws = slice_index ws 1

-- no node has more than thirteen entries, whatever its word says
abbrev pub size : List ℕ → ℕ
size ws = min (slice_index ws 2) 13

abbrev pub link : List ℕ → ℕ
link ws = slice_index ws 3

abbrev pub high : List ℕ → ℕ
high ws = slice_index ws 4

-- the words two by two
abbrev pub paired : List ℕ → List Entry
paired [] = []
paired (k ∷ []) = []
paired (k ∷ (v ∷ ws)) = entry k v ∷ paired ws

abbrev pub entries : List ℕ → List Entry
entries ws = take (size ws) (paired (drop 6 ws))

module _ (before : ℕ → ℕ → Bool) where
  -- how many entries stand before the first one whose key isn't before `k`
  abbrev pub rank : ℕ → List Entry → ℕ
  rank k [] = 0
  rank k (e ∷ es) = cond (before e.key k) (1 + rank k es) 0

  -- a node covers a key if it has no link, or the key isn't after its high key
  abbrev pub covers : List ℕ → ℕ → Bool
  covers ws k = link ws == 0 || not (before (high ws) k)

  -- the child for a key: that of the first entry, the last one apart, whose key isn't before it, or else the last child; 0 if there is none
  abbrev pub child : ℕ → List Entry → ℕ
  child k [] = 0
  child k (e ∷ []) = e.value
  child k (e ∷ (f ∷ es)) = cond (before e.key k) (child k (f ∷ es)) e.value

  -- the value at the first entry whose key isn't before `k`, if that key is `k`
  abbrev pub found : ℕ → List Entry → Option ℕ
  found k [] = None
  found k (e ∷ es) = cond (before e.key k) (found k es) (cond (e.key == k) (Some e.value) None)

  -- a leaf's entries with a pair stored: in place of the one with its key, or else in order
  abbrev pub put_in : ℕ → ℕ → List Entry → List Entry
  put_in k v [] = entry k v ∷ []
  put_in k v (e ∷ es) =
      cond (before e.key k) (e ∷ put_in k v es) (cond (e.key == k) (entry k v ∷ es) (entry k v ∷ (e ∷ es)))

  -- an inner node's entries with a split posted: the entry chosen for the edge `m`, as for a child, keeps its key and gets
  -- the child `d`, and directly before it goes a new one of the edge and the former child
  abbrev pub post_in : ℕ → ℕ → List Entry → List Entry
  post_in m d [] = []
  post_in m d (e ∷ []) = entry m e.value ∷ (entry e.key d ∷ [])
  post_in m d (e ∷ (f ∷ es)) =
      cond (before e.key m) (e ∷ post_in m d (f ∷ es)) (entry m e.value ∷ (entry e.key d ∷ (f ∷ es)))

-- the key of an entry at an even word, the value at an odd one
abbrev pub half : ℕ → Entry → ℕ
half w e = cond (w % 2 == 0) e.key e.value

-- word `w` of a node of `n` entries, of which `e` is the one that the word belongs to; words 0 and 5 are 0
abbrev pub word_of : ℕ → ℕ → ℕ → ℕ → Entry → ℕ → ℕ
word_of lvl n lnk hi e w =
    cond (w == 1) lvl (cond (w == 2) n (cond (w == 3) lnk (cond (w == 4) hi (cond (nat_lt w 6) 0 (half w e)))))

-- word `w` of a node with this level, link and high key and these entries; the words of unused entries are 0
abbrev pub node_word : ℕ → ℕ → ℕ → List Entry → ℕ → ℕ
node_word lvl lnk hi es w = word_of lvl (length es) lnk hi (slice_index_or es ((w - 6) / 2) (entry 0 0)) w
