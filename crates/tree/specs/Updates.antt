-- The updates of the tree, as relations between the tree before and after, and what each of them keeps.
use Rattle.std.specs.Prelude.{◌≡◌, ℕ, suc, ◌+◌, ◌/◌, ◌<◌, ◌≤◌, cond, List, [], ◌∷◌, length, take, Some, Option, ◌==◌, ◌≢◌}
use Rattle.tree.specs.Node.{Entry, entry, Node, last_key, with_entries, left_part, right_part, risen, grown}
use Rattle.tree.specs.Tree.{Order, Place, free, held, Held, Sound, At, Pending}

-- the tree `g` with another place of node `n`
abbrev pub put : ℕ → Place → (ℕ → Place) → ℕ → Place
put n p g q = cond (q == n) p (g q)

module _ (o : Order) where
  -- node `x` gets other entries
  pub record Rewrites (g g' : ℕ → Place) (x : ℕ) (y : Node) (es : List Entry) (a b : ℕ) : Type 0 where
    pub was : g x ≡ held y a b
    pub now : g' x ≡ held (with_entries y es) a b
    pub same : (n : ℕ) → (n ≢ x) → g' n ≡ g n

  -- node `x`, other than the root, is split at its entry `i` into `x` and the unused node `d`
  pub record Splits (g g' : ℕ → Place) (x d i : ℕ) (y : Node) (a b : ℕ) : Type 0 where
    pub was : g x ≡ held y a b
    pub fresh : g d ≡ free
    pub inside : x ≡ 0 → ⊥
    pub some_left : 0 < i
    pub some_right : i < length y.entries
    pub left : g' x ≡ held (left_part y i d) a (suc (o.rank (last_key (take i y.entries))))
    pub right : g' d ≡ held (right_part y i) (suc (o.rank (last_key (take i y.entries)))) b
    pub same : (n : ℕ) → (n ≢ x) → (n ≢ d) → g' n ≡ g n

  -- the root's content moves to the unused node `d`, and the root rises with `d` as its one child
  pub record Rises (g g' : ℕ → Place) (d : ℕ) (y : Node) (a b : ℕ) : Type 0 where
    pub was : g 0 ≡ held y a b
    pub fresh : g d ≡ free
    pub now : g' 0 ≡ held (risen y d) a b
    pub moved : g' d ≡ held y a b
    pub same : (n : ℕ) → (n ≢ 0) → (n ≢ d) → g' n ≡ g n

  -- node `x`, other than the root, gets the entries `es`, too many for one node, and is split at entry `i` into `x` and the unused node `d`
  pub record Overflows (g g' : ℕ → Place) (x d i : ℕ) (y : Node) (es : List Entry) (a b : ℕ) : Type 0 where
    pub was : g x ≡ held y a b
    pub fresh : g d ≡ free
    pub inside : x ≡ 0 → ⊥
    pub some_left : 0 < i
    pub some_right : i < length es
    pub left : g' x ≡ held (left_part (with_entries y es) i d) a (suc (o.rank (last_key (take i es))))
    pub right : g' d ≡ held (right_part (with_entries y es) i) (suc (o.rank (last_key (take i es)))) b
    pub same : (n : ℕ) → (n ≢ x) → (n ≢ d) → g' n ≡ g n

  -- the root gets the entries `es`, too many for one node: they go to the unused nodes `d` and `e`, and the root rises over these
  pub record Grows (g g' : ℕ → Place) (d e i : ℕ) (y : Node) (es : List Entry) (a b : ℕ) : Type 0 where
    pub was : g 0 ≡ held y a b
    pub fresh : g d ≡ free
    pub fresh_too : g e ≡ free
    pub two : e ≡ d → ⊥
    pub some_left : 0 < i
    pub some_right : i < length es
    pub now : g' 0 ≡ held (grown y (last_key (take i es)) d e) a b
    pub left : g' d ≡ held (left_part (with_entries y es) i e) a (suc (o.rank (last_key (take i es))))
    pub right : g' e ≡ held (right_part (with_entries y es) i) (suc (o.rank (last_key (take i es)))) b
    pub same : (n : ℕ) → (n ≢ 0) → (n ≢ d) → (n ≢ e) → g' n ≡ g n

  -- the map takes the pair `k`, `v`
  pub record Takes (w w' : ℕ → Option ℕ) (k v : ℕ) : Type 0 where
    pub now : w' k ≡ Some v
    pub same : (q : ℕ) → (q ≢ k) → w' q ≡ w q

  -- an update keeps the tree sound, each seat where it may stand, each linked node but the root at its level with its lower edge,
  -- and each split that is not posted yet, but for the one that the update posts
  pub record Kept (g g' : ℕ → Place) (settled : Option ℕ) : Type 0 where
    pub sound : Sound o g'
    pub stays : (k aim n : ℕ) → At o k aim (g n) → At o k aim (g' n)
    pub keeps : (v lo c : ℕ) → Held g v lo c → Held g' v lo c
    pub pending : (v m d : ℕ) → (settled ≢ Some d) → Pending o g v m d → Pending o g' v m d

  -- the updates as functions
  abbrev pub rewritten : (ℕ → Place) → ℕ → Node → List Entry → ℕ → ℕ → ℕ → Place
  rewritten g x y es a b = put x (held (with_entries y es) a b) g

  abbrev pub overflowed : (ℕ → Place) → (x d i : ℕ) → Node → List Entry → ℕ → ℕ → ℕ → Place
  overflowed g x d i y es a b = put x (held (left_part (with_entries y es) i d) a (suc (o.rank (last_key (take i es)))))
      (put d (held (right_part (with_entries y es) i) (suc (o.rank (last_key (take i es)))) b) g)

  abbrev pub grew : (ℕ → Place) → (d e i : ℕ) → Node → List Entry → ℕ → ℕ → ℕ → Place
  grew g d e i y es a b = put 0 (held (grown y (last_key (take i es)) d e) a b)
      (put d (held (left_part (with_entries y es) i e) a (suc (o.rank (last_key (take i es)))))
      (put e (held (right_part (with_entries y es) i) (suc (o.rank (last_key (take i es)))) b) g))

  abbrev pub taken : (ℕ → Option ℕ) → ℕ → ℕ → ℕ → Option ℕ
  taken w k v q = cond (q == k) (Some v) (w q)

-- a node has at most `fan` entries
abbrev pub Fits : ℕ → Place → Type 0
Fits fan free = Unit {0}
Fits fan (held y a b) = length y.entries ≤ fan

-- so many of a split's entries go left
abbrev pub half : ℕ → ℕ
half fan = (fan + 2) / 2

-- the words of a node, its level apart, are at most `top`
abbrev pub Small : ℕ → List Entry → Type 0
Small top [] = Unit {0}
Small top (entry k c ∷ es) = (k ≤ top) × (c ≤ top) × Small top es

abbrev pub Words : ℕ → Place → Type 0
Words top free = Unit {0}
Words top (held y a b) = (y.link ≤ top) × (y.high ≤ top) × Small top y.entries
