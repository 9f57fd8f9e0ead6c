-- A split of a node other than the root keeps the tree; its right part waits to be posted, and is found through the link.
use Rattle.std.proofs.Common.{◌≡◌, ℕ, zero, suc, ◌<◌, ◌≤◌, take, drop, Option, sym, refl, ◌∙◌, subst, inl, arith}
use Rattle.tree.specs.Node.{Node, last_key, left_part, right_part}
use Rattle.tree.specs.Tree.{Order, Place, held, Is, Held, Root, Apart, Lower, ApartFrom, Key, Leaf, Inner, Good, Fine, Sound, Tells, Answers, At}
use Rattle.tree.specs.Updates.{Splits}
use Rattle.tree.specs.Stands.{SplittingKeeps}
use Rattle.tree.proofs.Rows.{Cut, cut_leaf, cut_inner, inner_map, kids_take, kids_drop, lookup_left, lookup_right}
use Rattle.tree.proofs.Walks.{good_at}
use Rattle.tree.proofs.Frames.{except_two, apart_sym, apart_within, lower_like, fine_kept, root_not_free, fresh_childless}

module _ (o : Order) (g g' : ℕ → Place) (x d i : ℕ) (y : Node) (a b : ℕ) (u : Splits o g g' x d i y a b) (s : Sound o g) where
  good : Good o g y a b
  good = good_at o g x y a b s u.was

  leafs : y.level ≡ 0 → Cut o (Leaf o) (Leaf o) a b (last_key (take i y.entries)) (take i y.entries) (drop i y.entries)
  leafs z = cut_leaf o i y.entries a b u.some_left u.some_right (good.leaf z)

  inners : (v : ℕ) → y.level ≡ suc v → Cut o (λ a b. Inner o (Held g v) a b (last_key (take i y.entries))) (λ a b. Inner o (Held g v) a b y.high) a b (last_key (take i y.entries)) (take i y.entries) (drop i y.entries)
  inners v z = cut_inner o (Held g v) y.high i y.entries a b u.some_left u.some_right (good.inner v z)

  pub record Middle : Type 0 where
    pub key : Key o (last_key (take i y.entries))
    pub from : a ≤ o.rank (last_key (take i y.entries))
    pub to : suc (o.rank (last_key (take i y.entries))) < b

  pub middle : Middle
  middle = go y.level refl
    where
      go : (v : ℕ) → y.level ≡ v → Middle
      go zero z = let c = leafs z in record { key = c.key; from = c.from; to = c.to }
      go (suc v) z = let c = inners v z in record { key = c.key; from = c.from; to = c.to }

  d_not_root : d ≡ 0 → ⊥
  d_not_root = root_not_free o g d s u.fresh

  keeps : (v lo c : ℕ) → Held g v lo c → Held g' v lo c
  keeps v lo c h = (
    h.0,
    except_two (λ n. Is v lo (g n) → Is v lo (g' n)) x d
        (λ q. subst (Is v lo) (sym u.left) (subst (Is v lo) u.was q))
        (λ q. absurd (subst (Is v lo) u.fresh q))
        (λ n nx nd q. subst (Is v lo) (sym (u.same n nx nd)) q) c h.1,
  )

  pub stays : (k aim n : ℕ) → At o k aim (g n) → At o k aim (g' n)
  stays k aim = except_two (λ n. At o k aim (g n) → At o k aim (g' n)) x d
      (λ q. subst (At o k aim) (sym u.left) (subst (At o k aim) u.was q))
      (λ q. absurd (subst (At o k aim) u.fresh q))
      (λ n nx nd q. subst (At o k aim) (sym (u.same n nx nd)) q)

  good_left : Good o g' (left_part y i d) a (suc (o.rank (last_key (take i y.entries))))
  good_left = let c = middle in record {
    span = omega (arith, c.from);
    last = λ z. absurd (d_not_root z);
    next = λ _. (c.key, refl, (d_not_root, subst (Is y.level (suc (o.rank (last_key (take i y.entries))))) (sym u.right) (refl, refl)));
    leaf = λ z. (leafs z).left;
    inner = λ v z. inner_map o (Held g v) (Held g' v) (keeps v) (take i y.entries) a (suc (o.rank (last_key (take i y.entries)))) (last_key (take i y.entries)) (inners v z).left;
  }

  good_right : Good o g' (right_part y i) (suc (o.rank (last_key (take i y.entries)))) b
  good_right = let c = middle in record {
    span = c.to;
    last = good.last;
    next = λ z. (let h = good.next z in (h.0, h.1, keeps y.level b y.link h.2));
    leaf = λ z. (leafs z).right;
    inner = λ v z. inner_map o (Held g v) (Held g' v) (keeps v) (drop i y.entries) (suc (o.rank (last_key (take i y.entries)))) b y.high (inners v z).right;
  }

  x_d : Apart (g' x) (g' d)
  x_d = rw (u.left, u.right) (λ _. inl (omega arith))

  x_other : (n : ℕ) → (n ≡ x → ⊥) → (n ≡ d → ⊥) → Apart (g' x) (g' n)
  x_other n nx nd = rw (u.left, u.same n nx nd)
      (apart_within y (left_part y i d) a b a (suc (o.rank (last_key (take i y.entries)))) (g n) refl (omega arith) (omega (arith, middle.to))
      (subst (λ p. Apart p (g n)) u.was (s.apart x n (λ e. nx (sym e)))))

  d_other : (n : ℕ) → (n ≡ x → ⊥) → (n ≡ d → ⊥) → Apart (g' d) (g' n)
  d_other n nx nd = rw (u.right, u.same n nx nd)
      (apart_within y (right_part y i) a b (suc (o.rank (last_key (take i y.entries)))) b (g n) refl (omega (arith, middle.from)) (omega arith)
      (subst (λ p. Apart p (g n)) u.was (s.apart x n (λ e. nx (sym e)))))

  aparts : (n p : ℕ) → (n ≡ p → ⊥) → Apart (g' n) (g' p)
  aparts = except_two (λ n. (p : ℕ) → (n ≡ p → ⊥) → Apart (g' n) (g' p)) x d
      (except_two (λ p. (x ≡ p → ⊥) → Apart (g' x) (g' p)) x d (λ e. absurd (e refl)) (λ _. x_d) (λ n nx nd _. x_other n nx nd))
      (except_two (λ p. (d ≡ p → ⊥) → Apart (g' d) (g' p)) x d (λ _. apart_sym (g' x) (g' d) x_d) (λ e. absurd (e refl)) (λ n nx nd _. d_other n nx nd))
      (λ n nx nd. except_two (λ p. (n ≡ p → ⊥) → Apart (g' n) (g' p)) x d
      (λ _. apart_sym (g' x) (g' n) (x_other n nx nd)) (λ _. apart_sym (g' d) (g' n) (d_other n nx nd))
      (λ p px pd e. rw (u.same n nx nd, u.same p px pd) (s.apart n p e)))

  root_same : g' 0 ≡ g 0
  root_same = u.same 0 (λ e. u.inside (sym e)) (λ e. d_not_root (sym e))

  x_lower : Lower (held y a b) (g 0)
  x_lower = subst (λ p. Lower p (g 0)) u.was (s.below x u.inside)

  pub sound : Sound o g'
  sound = record {
    root = subst Root (sym root_same) s.root;
    each = except_two (λ n. Fine o g' (g' n)) x d (subst (Fine o g') (sym u.left) good_left) (subst (Fine o g') (sym u.right) good_right)
        (λ n nx nd. subst (Fine o g') (sym (u.same n nx nd)) (fine_kept o g g' (g n) keeps (s.each n)));
    apart = aparts;
    below = λ n nz. subst (Lower (g' n)) (sym root_same) (except_two (λ n. (n ≡ 0 → ⊥) → Lower (g' n) (g 0)) x d
        (λ _. subst (λ p. Lower p (g 0)) (sym u.left) (lower_like y (left_part y i d) a b a (suc (o.rank (last_key (take i y.entries)))) (g 0) refl x_lower))
        (λ _. subst (λ p. Lower p (g 0)) (sym u.right) (lower_like y (right_part y i) a b (suc (o.rank (last_key (take i y.entries)))) b (g 0) refl x_lower))
        (λ n nx nd nz. subst (λ p. Lower p (g 0)) (sym (u.same n nx nd)) (s.below n nz)) n nz);
  }

  pub answers : (w : ℕ → Option ℕ) → Answers o g w → Answers o g' w
  answers w t = except_two (λ n. (k : ℕ) → Key o k → Tells o w k (g' n)) x d
      (λ k kk. subst (Tells o w k) (sym u.left) (λ z l h. subst (Tells o w k) u.was (t x k kk) z l (omega (arith, middle.to)) ∙ lookup_left o k i y.entries a b u.some_left u.some_right (good.leaf z) (omega arith)))
      (λ k kk. subst (Tells o w k) (sym u.right) (λ z l h. subst (Tells o w k) u.was (t x k kk) z (omega (arith, middle.from)) h ∙ lookup_right o k i y.entries a b u.some_left u.some_right (good.leaf z) (omega arith)))
      (λ n nx nd k kk. subst (Tells o w k) (sym (u.same n nx nd)) (t n k kk))

  pub childless : (e : ℕ) → ((n : ℕ) → ApartFrom e (g n)) → (n : ℕ) → ApartFrom e (g' n)
  childless e h = except_two (λ n. ApartFrom e (g' n)) x d
      (subst (ApartFrom e) (sym u.left) (λ z. kids_take (λ c. c ≡ e → ⊥) i y.entries (subst (ApartFrom e) u.was (h x) z)))
      (subst (ApartFrom e) (sym u.right) (λ z. kids_drop (λ c. c ≡ e → ⊥) i y.entries (subst (ApartFrom e) u.was (h x) z)))
      (λ n nx nd. subst (ApartFrom e) (sym (u.same n nx nd)) (h n))

pub splitting_keeps : (o : Order) → SplittingKeeps o
splitting_keeps o g g' x d i y a b u s = (
  record {
    sound = sound o g g' x d i y a b u s;
    stays = stays o g g' x d i y a b u s;
    keeps = keeps o g g' x d i y a b u s;
    pending = λ v m e _ p. record { key = p.key; place = keeps o g g' x d i y a b u s v (suc (o.rank m)) e p.place; none_has = childless o g g' x d i y a b u s e p.none_has };
  },
  record {
    key = (middle o g g' x d i y a b u s).key;
    place = (root_not_free o g d s u.fresh, subst (Is y.level (suc (o.rank (last_key (take i y.entries))))) (sym u.right) (refl, refl));
    none_has = childless o g g' x d i y a b u s d (fresh_childless o g d s u.fresh);
  },
  answers o g g' x d i y a b u s,
)
