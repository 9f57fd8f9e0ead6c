-- Storing a pair in the leaf that covers its key keeps the tree, and the leaves then answer as the map with the pair.
use Rattle.std.proofs.Common.{◌≡◌, ℕ, suc, ◌<◌, ◌≤◌, cond, eqb, List, [], ◌∷◌, Some, None, Option, sym, refl, ap, ◌∙◌, subst, arith}
use Rattle.std.proofs.lemmas.Bool.{eqb-true, eqb-false, eq-eqb, ne_eqb, cond-true, cond-false, cond_both}
use Rattle.tree.specs.Node.{Entry, entry, Node, lookup, insert, with_entries}
use Rattle.tree.specs.Tree.{Order, Place, free, held, Apart, Key, Leaf, Good, Sound, Tells, Answers, At}
use Rattle.tree.specs.Updates.{Rewrites, Kept, Takes}
use Rattle.tree.specs.Stands.{StoringKeeps}
use Rattle.tree.proofs.Walks.{good_at, covered, before_true, before_false}
use Rattle.tree.proofs.Frames.{except}
use Rattle.tree.proofs.Rewriting as rewriting

module _ (o : Order) (k v : ℕ) where
  insert_leaf : Key o k → (es : List Entry) (lo hi : ℕ) → Leaf o lo hi es → lo ≤ o.rank k → o.rank k < hi → Leaf o lo hi (insert o.before es k v)
  insert_leaf kk [] lo hi r l h = (kk, l, h)
  insert_leaf kk (entry e w ∷ es) lo hi r l h =
      let rest = insert_leaf kk es (suc (o.rank e)) hi r.2 in
      cond_both (eqb e k) (entry k v ∷ es) (cond (o.before e k) (entry e w ∷ insert o.before es k v) (entry k v ∷ (entry e w ∷ es))) (Leaf o lo hi)
      (λ t. (kk, l, subst (λ q. Leaf o (suc (o.rank q)) hi es) (eqb-true e k t) r.2))
      (λ f. cond_both (o.before e k) (entry e w ∷ insert o.before es k v) (entry k v ∷ (entry e w ∷ es)) (Leaf o lo hi)
      (λ t. (r.0, r.1, rest (before_true o e k r.0 kk t) h))
      (λ n. let ne : o.rank e ≡ o.rank k → ⊥ = (λ q. eqb-false e k f (o.rank_one e k r.0 kk q)) in
      let le = before_false o e k r.0 kk n in (kk, l, (r.0, omega arith, r.2))))

  hit : (es : List Entry) → lookup (entry k v ∷ es) k ≡ Some v
  hit es = cond-true (eqb k k) (Some v) (lookup es k) (eq-eqb k k refl)

  pass : (e w q : ℕ) (es : List Entry) → (e ≡ q → ⊥) → lookup (entry e w ∷ es) q ≡ lookup es q
  pass e w q es h = cond-false (eqb e q) (Some w) (lookup es q) (ne_eqb e q h)

  insert_same : (es : List Entry) → lookup (insert o.before es k v) k ≡ Some v
  insert_same [] = hit []
  insert_same (entry e w ∷ es) =
      let rest = insert_same es in
      cond_both (eqb e k) (entry k v ∷ es) (cond (o.before e k) (entry e w ∷ insert o.before es k v) (entry k v ∷ (entry e w ∷ es))) (λ l. lookup l k ≡ Some v)
      (λ t. hit es)
      (λ f. cond_both (o.before e k) (entry e w ∷ insert o.before es k v) (entry k v ∷ (entry e w ∷ es)) (λ l. lookup l k ≡ Some v)
      (λ t. pass e w k (insert o.before es k v) (eqb-false e k f) ∙ rest)
      (λ n. hit (entry e w ∷ es)))

  insert_other : (q : ℕ) → (q ≡ k → ⊥) → (es : List Entry) → lookup (insert o.before es k v) q ≡ lookup es q
  insert_other q ne [] = pass k v q [] (λ e. ne (sym e))
  insert_other q ne (entry e w ∷ es) =
      let rest = insert_other q ne es in
      cond_both (eqb e k) (entry k v ∷ es) (cond (o.before e k) (entry e w ∷ insert o.before es k v) (entry k v ∷ (entry e w ∷ es))) (λ l. lookup l q ≡ lookup (entry e w ∷ es) q)
      (λ t. pass k v q es (λ z. ne (sym z)) ∙ sym (pass e w q es (λ z. ne (sym z ∙ eqb-true e k t))))
      (λ f. cond_both (o.before e k) (entry e w ∷ insert o.before es k v) (entry k v ∷ (entry e w ∷ es)) (λ l. lookup l q ≡ lookup (entry e w ∷ es) q)
      (λ t. ap (cond (eqb e q) (Some w)) rest)
      (λ n. pass k v q (entry e w ∷ es) (λ z. ne (sym z))))

  tells_same : (w w' : ℕ → Option ℕ) (q : ℕ) (p : Place) → w' q ≡ w q → Tells o w q p → Tells o w' q p
  tells_same w w' q free e h = tt
  tells_same w w' q (held z c d) e h = λ l i j. e ∙ h l i j

  tells_away : (w' : ℕ → Option ℕ) (y : Node) (a b : ℕ) (p : Place) → y.level ≡ 0 → a ≤ o.rank k → o.rank k < b → Apart (held y a b) p → Tells o w' k p
  tells_away w' y a b free z l h n = tt
  tells_away w' y a b (held q c d) z l h n = λ i j m. absurd (omega (arith, n (z ∙ sym i)))

module _ (o : Order) (g g' : ℕ → Place) (x : ℕ) (y : Node) (a b k v : ℕ) (kk : Key o k) (u : Rewrites o g g' x y (insert o.before y.entries k v) a b) (s : Sound o g)
    (z : y.level ≡ 0) (from : a ≤ o.rank k) (to : o.rank k < b) where
  new_good : Good o g (with_entries y (insert o.before y.entries k v)) a b
  new_good = let old = good_at o g x y a b s u.was in record {
    span = old.span;
    last = old.last;
    next = old.next;
    leaf = λ _. insert_leaf o k v kk y.entries a b (old.leaf z) from to;
    inner = λ q e. absurd (omega arith);
  }

  told : (w w' : ℕ → Option ℕ) → Takes o w w' k v → Answers o g w → Answers o g' w'
  told w w' t h = except (λ n. (q : ℕ) → Key o q → Tells o w' q (g' n)) x
      (λ q kq. subst (Tells o w' q) (sym u.now) (λ _ l i. except (λ q. (Key o q) → a ≤ o.rank q → o.rank q < b → w' q ≡ lookup (insert o.before y.entries k v) q) k
      (λ _ _ _. t.now ∙ sym (insert_same o k v y.entries))
      (λ q ne kq l i. t.same q ne ∙ subst (Tells o w q) u.was (h x q kq) z l i ∙ sym (insert_other o k v q ne y.entries)) q kq l i))
      (λ n nx. except (λ q. Key o q → Tells o w' q (g' n)) k
      (λ _. subst (Tells o w' k) (sym (u.same n nx)) (tells_away o k v w' y a b (g n) z from to (subst (λ p. Apart p (g n)) u.was (s.apart x n (λ e. nx (sym e))))))
      (λ q ne kq. subst (Tells o w' q) (sym (u.same n nx)) (tells_same o k v w w' q (g n) (t.same q ne) (h n q kq))))

  pub kept : Kept o g g' None
  kept = record {
    sound = rewriting.sound o g g' x y (insert o.before y.entries k v) a b u s new_good;
    stays = rewriting.stays o g g' x y (insert o.before y.entries k v) a b u s;
    keeps = rewriting.keeps o g g' x y (insert o.before y.entries k v) a b u s;
    pending = λ v' m e _ p. record {
      key = p.key;
      place = rewriting.keeps o g g' x y (insert o.before y.entries k v) a b u s v' (suc (o.rank m)) e p.place;
      none_has = rewriting.childless o g g' x y (insert o.before y.entries k v) a b u s e (λ n. absurd (n z)) p.none_has;
    };
  }

pub storing_keeps : (o : Order) → StoringKeeps o
storing_keeps o g g' x y a b k v kk u s at z c =
    let from = (subst (At o k 0) u.was at).1 in let to = covered o g y a b k (good_at o g x y a b s u.was) kk c in
    (kept o g g' x y a b k v kk u s z from to, told o g g' x y a b k v kk u s z from to)
