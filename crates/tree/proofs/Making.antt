-- The updates as functions: in place, a split, and the growth of the root can be made of any tree with unused nodes.
use Rattle.std.proofs.Common.{◌≡◌, ℕ, suc, eqb, take, Some, sym, refl, ◌∙◌}
use Rattle.std.proofs.lemmas.Bool.{eq-eqb, ne_eqb, cond-true, cond-false}
use Rattle.tree.specs.Node.{last_key, with_entries, left_part, right_part, grown}
use Rattle.tree.specs.Tree.{Order, Place, held}
use Rattle.tree.specs.Updates.{put}
use Rattle.tree.specs.Stands.{Made}
use Rattle.tree.proofs.Frames.{taken_not_free}

pub put_same : (n : ℕ) (p : Place) (g : ℕ → Place) → put n p g n ≡ p
put_same n p g = cond-true (eqb n n) p (g n) (eq-eqb n n refl)

pub put_other : (n : ℕ) (p : Place) (g : ℕ → Place) (m : ℕ) → (m ≡ n → ⊥) → put n p g m ≡ g m
put_other n p g m ne = cond-false (eqb m n) p (g m) (ne_eqb m n ne)

pub made : (o : Order) → Made o
made o = record {
  rewrites = λ g x y es a b w. record { was = w; now = put_same x (held (with_entries y es) a b) g; same = put_other x (held (with_entries y es) a b) g };
  overflows = λ g x d i y es a b w f nz l r. (
      let left = held (left_part (with_entries y es) i d) a (suc (o.rank (last_key (take i es)))) in
      let right = held (right_part (with_entries y es) i) (suc (o.rank (last_key (take i es)))) b in
      let dx : d ≡ x → ⊥ = (λ e. taken_not_free g x d y a b w f (sym e)) in
      record {
        was = w;
        fresh = f;
        inside = nz;
        some_left = l;
        some_right = r;
        left = put_same x left (put d right g);
        right = put_other x left (put d right g) d dx ∙ put_same d right g;
        same = λ n nx nd. put_other x left (put d right g) n nx ∙ put_other d right g n nd;
      });
  grows = λ g d e i y es a b w f h t l r. (
      let root = held (grown y (last_key (take i es)) d e) a b in
      let left = held (left_part (with_entries y es) i e) a (suc (o.rank (last_key (take i es)))) in
      let right = held (right_part (with_entries y es) i) (suc (o.rank (last_key (take i es)))) b in
      let d0 : d ≡ 0 → ⊥ = (λ z. taken_not_free g 0 d y a b w f (sym z)) in
      let e0 : e ≡ 0 → ⊥ = (λ z. taken_not_free g 0 e y a b w h (sym z)) in
      record {
        was = w;
        fresh = f;
        fresh_too = h;
        two = t;
        some_left = l;
        some_right = r;
        now = put_same 0 root (put d left (put e right g));
        left = put_other 0 root (put d left (put e right g)) d d0 ∙ put_same d left (put e right g);
        right = put_other 0 root (put d left (put e right g)) e e0 ∙ put_other d left (put e right g) e t ∙ put_same e right g;
        same = λ n nz nd ne. put_other 0 root (put d left (put e right g)) n nz ∙ put_other d left (put e right g) n nd ∙ put_other e right g n ne;
      });
  takes = λ w k v. record { now = cond-true (eqb k k) (Some v) (w k) (eq-eqb k k refl); same = λ q ne. cond-false (eqb q k) (Some v) (w q) (ne_eqb q k ne) };
}
