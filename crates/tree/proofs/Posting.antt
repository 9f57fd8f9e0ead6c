-- A posting keeps the tree: the right part of a split becomes a child of the node above, and no key is lost or doubled.
use Rattle.std.proofs.Common.{◌≡◌, ℕ, suc, ◌<◌, ◌≤◌, Bool, List, [], ◌∷◌, Some, sym, ap, subst, ⊎_elim, arith}
use Rattle.std.proofs.lemmas.Bool.{cond_both, cases_eq}
use Rattle.tree.specs.Node.{Entry, entry, Node, posted, with_entries}
use Rattle.tree.specs.Tree.{Order, Place, free, held, Is, Held, ApartFrom, Key, Inner, Good, Fine, Sound, Tells, At, Kids, Pending}
use Rattle.tree.specs.Stands.{PostingKeeps}
use Rattle.tree.proofs.Walks.{good_at, covered, before_true, before_false}
use Rattle.tree.proofs.Frames.{except, one_place}
use Rattle.tree.proofs.Rewriting as rewriting

kids_map : (P Q : ℕ → Type 0) → ((c : ℕ) → P c → Q c) → (es : List Entry) → Kids P es → Kids Q es
kids_map P Q f [] h = tt
kids_map P Q f (entry k c ∷ es) h = (f c h.0, kids_map P Q f es h.1)

kids_posted : (before : ℕ → ℕ → Bool) (P : ℕ → Type 0) (m d : ℕ) → P d → (es : List Entry) → Kids P es → Kids P (posted before es m d)
kids_posted before P m d pd [] h = tt
kids_posted before P m d pd (entry e c ∷ []) h = (h.0, (pd, tt))
kids_posted before P m d pd (entry e c ∷ (f ∷ es)) h =
    let rest = kids_posted before P m d pd (f ∷ es) h.1 in
    cond_both (before e m) (entry e c ∷ posted before (f ∷ es) m d) (entry m c ∷ (entry e d ∷ (f ∷ es))) (Kids P) (λ _. (h.0, rest)) (λ _. (h.0, (pd, h.1)))

module _ (o : Order) (C : ℕ → ℕ → Type 0) where
  inner_cons : (e c : ℕ) (es : List Entry) (lo hi h : ℕ) → C lo c → Key o e → lo ≤ o.rank e → Inner o C (suc (o.rank e)) hi h es → Inner o C lo hi h (entry e c ∷ es)
  inner_cons e c [] lo hi h x k l r = absurd r
  inner_cons e c (f ∷ es) lo hi h x k l r = (x, k, l, r)

  first : (P : ℕ → Type 0) (es : List Entry) (lo hi h : ℕ) → Inner o C lo hi h es → Kids P es → (c : ℕ) × C lo c × P c
  first P [] lo hi h r q = absurd r
  first P (entry k c ∷ []) lo hi h r q = (c, r.0, q.0)
  first P (entry k c ∷ (f ∷ es)) lo hi h r q = (c, r.0, q.0)

  posted_inner : (m d : ℕ) → Key o m → C (suc (o.rank m)) d → (es : List Entry) (lo hi h : ℕ) → Inner o C lo hi h es → lo ≤ o.rank m → suc (o.rank m) < hi
      → Kids (λ c. C (suc (o.rank m)) c → ⊥) es → Inner o C lo hi h (posted o.before es m d)
  posted_inner m d km cd [] lo hi h r l t q = absurd r
  posted_inner m d km cd (entry e c ∷ []) lo hi h r l t q = (r.0, km, l, (cd, r.1, t))
  posted_inner m d km cd (entry e c ∷ (f ∷ es)) lo hi h r l t q =
      let rest = posted_inner m d km cd (f ∷ es) (suc (o.rank e)) hi h r.3 in
      cond_both (o.before e m) (entry e c ∷ posted o.before (f ∷ es) m d) (entry m c ∷ (entry e d ∷ (f ∷ es))) (Inner o C lo hi h)
      (λ i. inner_cons e c (posted o.before (f ∷ es) m d) lo hi h r.0 r.1 r.2 (rest (before_true o e m r.1 km i) t q.1))
      (λ i. let le = before_false o e m r.1 km i in
      let ne : o.rank e ≡ o.rank m → ⊥ = (λ z. let c' = first (λ c. C (suc (o.rank m)) c → ⊥) (f ∷ es) (suc (o.rank e)) hi h r.3 q.1 in
      c'.2 (subst (λ n. C (suc n) c'.0) z c'.1)) in
      (r.0, km, l, (cd, r.1, omega arith, r.3)))

module _ (o : Order) (g : ℕ → Place) (s : Sound o g) where
  -- the first child of a linked inner node
  first_child : (v lo d : ℕ) (p : Place) → Is (suc v) lo p → Fine o g p → ApartFrom d p → (c : ℕ) × Held g v lo c × (c ≡ d → ⊥)
  first_child v lo d free i f h = absurd i
  first_child v lo d (held z c e) i f h =
      let q = first o (Held g v) (λ c. c ≡ d → ⊥) z.entries c e z.high (f.inner v i.0) (h (λ n. absurd (omega arith))) in
      (q.0, subst (λ n. Held g v n q.0) i.1 q.1, q.2)

  module _ (v m d : ℕ) (p : Pending o g v m d) where
    strange : (c : ℕ) → (c ≡ d → ⊥) → Held g v (suc (o.rank m)) c → ⊥
    strange c ne h = ne (one_place o g v (suc (o.rank m)) c d s h p.place)

    -- m is no key of the node, its high key included
    not_high : (y : Node) (a b : ℕ) → Good o g y a b → y.level ≡ suc v → o.rank m < b → suc (o.rank m) < b
    not_high y a b f z l = ⊎_elim
        (λ (e : y.link ≡ 0). omega (arith, f.last e, o.rank_in m p.key))
        (λ (e : y.link ≡ 0 → ⊥).
        let h = f.next e in
        let ne : b ≡ suc (o.rank m) → ⊥ = (λ q.
        let c = first_child v b d (g y.link) (subst (λ n. Is n b (g y.link)) z h.2.1) (s.each y.link) (p.none_has y.link) in
        strange c.0 c.2 (subst (λ n. Held g v n c.0) q c.1)) in
        omega arith)
        (cases_eq y.link 0)

    new_good : (y : Node) (a b : ℕ) → Good o g y a b → y.level ≡ suc v → a ≤ o.rank m → o.rank m < b → (Kids (λ c. c ≡ d → ⊥) y.entries)
        → Good o g (with_entries y (posted o.before y.entries m d)) a b
    new_good y a b f z from to k = record {
      span = f.span;
      last = f.last;
      next = f.next;
      leaf = λ e. absurd (omega arith);
      inner = λ v' e. (let same : v ≡ v' = omega arith in subst (λ n. Inner o (Held g n) a b y.high (posted o.before y.entries m d)) same
          (posted_inner o (Held g v) m d p.key p.place y.entries a b y.high (f.inner v z) from (not_high y a b f z to)
          (kids_map (λ c. c ≡ d → ⊥) (λ c. Held g v (suc (o.rank m)) c → ⊥) strange y.entries k)));
    }

pub posting_keeps : (o : Order) → PostingKeeps o
posting_keeps o g g' x y a b m d v p u s at z c =
    let es = posted o.before y.entries m d in
    let old = good_at o g x y a b s u.was in
    let from = (subst (At o m (suc v)) u.was at).1 in
    let to = covered o g y a b m old p.key c in
    let inner : y.level ≡ 0 → ⊥ = (λ e. absurd (omega arith)) in
    let kids = subst (ApartFrom d) u.was (p.none_has x) inner in (
      record {
        sound = rewriting.sound o g g' x y es a b u s (new_good o g s v m d p y a b old z from to kids);
        stays = rewriting.stays o g g' x y es a b u s;
        keeps = rewriting.keeps o g g' x y es a b u s;
        pending = λ v' m' e ne q. record {
          key = q.key;
          place = rewriting.keeps o g g' x y es a b u s v' (suc (o.rank m')) e q.place;
          none_has = rewriting.childless o g g' x y es a b u s e
              (λ i. kids_posted o.before (λ c. c ≡ e → ⊥) m d (λ h. ne (ap Some h)) y.entries (subst (ApartFrom e) u.was (q.none_has x) i)) q.none_has;
        };
      },
      (λ w h. except (λ n. (k : ℕ) → Key o k → Tells o w k (g' n)) x (λ k kk. subst (Tells o w k) (sym u.now) (λ e. absurd (inner e)))
          (λ n nx k kk. subst (Tells o w k) (sym (u.same n nx)) (h n k kk))),
    )
