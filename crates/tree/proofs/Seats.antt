-- A seat that stands as it should starts at the root, goes on from a node that it has read, and stays through the updates of others.
use Rattle.std.proofs.Common.{◌≡◌, ℕ, zero, suc, Some, None, Option, refl, subst, arith}
use Rattle.std.proofs.lemmas.Bool.{ltb-true, ltb-false}
use Rattle.tree.specs.Tree.{Order, Place, At, Aims}
use Rattle.tree.specs.Updates.{Kept}
use Rattle.tree.specs.Stands.{SeatsStart, SeatsStay, SeatsGoOn}
use Rattle.tree.proofs.Walks.{good_at, covered, move_right, move_down}
use Rattle.tree.proofs.Starting.{starts}

module _ (o : Order) where
  pub seats_start : SeatsStart o
  seats_start g s = ((λ k kk. record { key = kk; at = (starts o g s).0 k; aims = refl }), (λ v m d p. record { key = p.key; at = (starts o g s).1 v m d p; aims = p }))

  aims_stay : (g g' : ℕ → Place) (settled : Option ℕ) → Kept o g g' settled → (post : Option ℕ) (k aim : ℕ) → ((d : ℕ) → post ≡ Some d → settled ≡ Some d → ⊥) → Aims o g post k aim → Aims o g' post k aim
  aims_stay g g' settled u None k aim f h = h
  aims_stay g g' settled u (Some d) k zero f h = h
  aims_stay g g' settled u (Some d) k (suc v) f h = u.pending v k d (f d refl) h

  pub seats_stay : SeatsStay o
  seats_stay g g' settled u post k aim n f s = record { key = s.key; at = u.stays k aim n s.at; aims = aims_stay g g' settled u post k aim f s.aims }

  pub seats_go_on : SeatsGoOn o
  seats_go_on g n y a b post k aim s e z =
      let h = subst (At o k aim) e z.at in
      record {
        right = λ c. record { key = z.key; at = move_right o g n y a b k aim s e z.key z.at c; aims = z.aims };
        down = λ c t. record { key = z.key; at = move_down o g n y a b k aim s e z.key z.at (ltb-true aim y.level t); aims = z.aims };
        there = λ c t. (let l = ltb-false aim y.level t in (omega arith, h.1, covered o g y a b k (good_at o g n y a b s e) z.key c));
      }
