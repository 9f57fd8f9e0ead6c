-- A node's entries are those of the tree: choosing a child, finding, storing and posting agree on both sides.
use Rattle.std.proofs.Common.{◌≡◌, ℕ, zero, suc, ◌<◌, Bool, false, cond, List, [], ◌∷◌, map, length, get_or, take, None, refl, ap, arith}
use Rattle.std.proofs.lemmas.Bool.Decides.{nat_tests}
use Rattle.tree.specs.Node as N
use Rattle.tree.specs.Tree as T
use Rattle.rules.specs.Nodes.{entry, child, found, put_in, post_in}
use Rattle.rules.specs.declared.seat.Entry.{Entry}

abbrev pub as_entry : Entry → N.Entry
as_entry e = N.entry e.key e.value

abbrev pub row : List Entry → List N.Entry
row es = map as_entry es

pub get_or_row : (es : List Entry) (j : ℕ) → get_or (row es) j (N.entry 0 0) ≡ N.entry (get_or es j (entry 0 0)).key (get_or es j (entry 0 0)).value
get_or_row [] j = refl
get_or_row (e ∷ es) zero = refl
get_or_row (e ∷ es) (suc j) = get_or_row es j

pub last_is : (i : ℕ) (es : List Entry) → i < length es → N.last_key (take (suc i) (row es)) ≡ (get_or es i (entry 0 0)).key
last_is i [] q = absurd (omega arith)
last_is zero (e ∷ es) q = refl
last_is (suc i) (e ∷ []) q = absurd (omega arith)
last_is (suc i) (e ∷ (f ∷ es)) q = last_is i (f ∷ es) (omega arith)

module _ (before : ℕ → ℕ → Bool) where
  pub row_child : (k : ℕ) (es : List Entry) → child before k es ≡ N.child before (row es) k
  row_child k [] = refl
  row_child k (e ∷ []) = refl
  row_child k (e ∷ (f ∷ es)) = ap (λ z. cond (before e.key k) z e.value) (row_child k (f ∷ es))

  pub row_post : (m d : ℕ) (es : List Entry) → row (post_in before m d es) ≡ N.posted before (row es) m d
  row_post m d [] = refl
  row_post m d (e ∷ []) = refl
  row_post m d (e ∷ (f ∷ es)) = grind (arith, row_post m d (f ∷ es))

  -- the rules ask `before` first, the tree asks for the same key first
  pub row_put : (k v : ℕ) → before k k ≡ false → (es : List Entry) → row (put_in before k v es) ≡ N.insert before (row es) k v
  row_put k v never [] = refl
  row_put k v never (e ∷ es) = grind (arith, nat_tests, row_put k v never es)

  -- a put that makes the row longer put a new key
  pub found_new : (k v : ℕ) (es : List Entry) → length es < length (put_in before k v es) → found before k es ≡ None
  found_new k v [] h = refl
  found_new k v (e ∷ es) h = grind (arith, nat_tests, found_new k v es)

module _ (o : T.Order) where
  past : (k lo hi : ℕ) (es : List N.Entry) → T.Key o k → o.rank k < lo → T.Leaf o lo hi es → N.lookup es k ≡ None
  past k lo hi [] κ b l = refl
  past k lo hi (N.entry e v ∷ es) κ b l = grind (arith, nat_tests, past k (suc (o.rank e)) hi es κ)

  pub found_is : (k lo hi : ℕ) (es : List Entry) → T.Key o k → T.Leaf o lo hi (row es) → found o.before k es ≡ N.lookup (row es) k
  found_is k lo hi [] κ l = refl
  found_is k lo hi (e ∷ es) κ l = grind (arith, nat_tests, o.before_is e.key k l.0 κ, past k (suc (o.rank e.key)) hi (row es) κ, found_is k (suc (o.rank e.key)) hi es κ l.2)
