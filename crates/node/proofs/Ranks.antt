-- A key's rank, as the place of the first pair whose key isn't before it.
use Rattle.std.proofs.Common.{◌≡◌, ℕ, ◌+◌, Bool, true, false, cond, not, List, [], ◌∷◌, Option, length, get_or, map, refl, ap, ◌∙◌, inl, inr, arith}
use Rattle.std.proofs.lemmas.Bool.{cases_lt, le-ltb, lt-ltb}
use Rattle.std.proofs.lemmas.List.Sums.{prefix_len-le-length}
use Rattle.std.specs.List.{position, position_or_len}
use Rattle.std.specs.Option.{unwrap_or}
use Rattle.rules.specs.Nodes.{rank}
use Rattle.rules.specs.declared.seat.Entry.{Entry}
use Rattle.node.specs.Values.{pair}

module _ (before : ℕ → ℕ → Bool) (k : ℕ) where
  -- a pair whose key isn't before `k`
  abbrev pub stops : List ℕ → Bool
  stops ws = not (before (get_or ws 0 0) k)

  first_is : (xs : List (List ℕ)) → position_or_len stops xs ≡ rank before k (map pair xs)
  first_is [] = refl
  first_is (x ∷ xs) = elim (before (get_or x 0 0) k) as (λ b. cond (not (not b)) (1 + position_or_len stops xs) 0 ≡ cond b (1 + rank before k (map pair xs)) 0)
      [ true ↦ ap (λ (n : ℕ). 1 + n) (first_is xs) | false ↦ refl ]

  rank_is : (xs : List (List ℕ)) → unwrap_or (position stops xs) (length xs) ≡ rank before k (map pair xs)
  rank_is xs =
      let le = prefix_len-le-length (λ x. not (stops x)) xs in
      elim (cases_lt (position_or_len stops xs) (length xs)) [
        | inl h ↦ rw (lt-ltb _ _ h) (first_is xs)
        | inr h ↦ (let e : length xs ≡ position_or_len stops xs = omega (arith, le, h) in rw (le-ltb _ _ h) (e ∙ first_is xs))
      ]

  pub ranked : (xs : List (List ℕ)) (es : List Entry) (at : Option ℕ) (n r : ℕ) → at ≡ position stops xs → n ≡ length xs → r ≡ unwrap_or at n → map pair xs ≡ es
      → r ≡ rank before k es
  ranked xs es at n r p l u e = u ∙ rw (p, l) (rank_is xs) ∙ ap (rank before k) e
