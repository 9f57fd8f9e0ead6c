-- Where a node's entries stand among its words.
use Rattle.std.proofs.Common.{◌≡◌, ℕ, zero, suc, ◌*◌, ◌/◌, ◌≤◌, List, [], ◌∷◌, length, map, take, drop, sym, refl, ap, ◌∙◌, arith, length-drop, length-take, take_all}
use Rattle.std.proofs.lemmas.List.{take-map, take-take}
use Rattle.std.specs.Simd.{first_chunks}
use Rattle.rules.specs.declared.seat.Entry.{Entry}
use Rattle.rules.specs.Nodes.{entry, paired, entries, size}
use Rattle.node.specs.Values.{pair}

pub paired_long : (ws : List ℕ) (n : ℕ) → 2 * n ≤ length ws → n ≤ length (paired ws)
paired_long ws zero h = omega arith
paired_long [] (suc n) h = absurd (omega arith)
paired_long (k ∷ []) (suc n) h = absurd (omega arith)
paired_long (k ∷ (v ∷ ws)) (suc n) h = let t : n ≤ length (paired ws) = paired_long ws n (omega arith) in omega arith

paired_chunks : (n : ℕ) (ws : List ℕ) → 2 * n ≤ length ws → map pair (first_chunks 2 n ws) ≡ take n (paired ws)
paired_chunks zero ws h = refl
paired_chunks (suc n) [] h = absurd (omega arith)
paired_chunks (suc n) (k ∷ []) h = absurd (omega arith)
paired_chunks (suc n) (k ∷ (v ∷ ws)) h = ap {B = List Entry} (λ t. entry k v ∷ t) (paired_chunks n ws (omega arith))

module _ (ws : List ℕ) (full : length ws ≡ 32) where
  behind : length (drop 6 ws) ≡ 26
  behind = length-drop 6 ws ∙ omega arith

  pub entries_long : length (entries ws) ≡ size ws
  entries_long =
      let d = behind in
      let p : 13 ≤ length (paired (drop 6 ws)) = paired_long (drop 6 ws) 13 (omega arith) in
      rw length-take (omega arith)

  chunks_are : map pair (first_chunks 2 (length (drop 6 ws) / 2) (drop 6 ws)) ≡ take 13 (paired (drop 6 ws))
  chunks_are =
      let k : length (drop 6 ws) / 2 ≡ 13 = rw behind in
      rw k (paired_chunks 13 (drop 6 ws) (rw behind (omega arith)))

  -- the words from word 6 on as pairs, as many as there are entries
  pub pairs_are : (s : List ℕ) (xs : List (List ℕ)) (n : ℕ) → s ≡ take 26 (drop 6 ws) → xs ≡ first_chunks 2 (length s / 2) s → n ≡ length (entries ws)
      → map pair (take n xs) ≡ entries ws
  pairs_are s xs n e c l =
      let s_is : s ≡ drop 6 ws = e ∙ take_all 26 (drop 6 ws) (rw behind (omega arith)) in
      let m : map pair xs ≡ take 13 (paired (drop 6 ws)) = rw (c, s_is) chunks_are in
      let n_is : n ≡ size ws = l ∙ entries_long in
      rw (sym (take-map pair n xs), m, n_is) (take-take (size ws) 13 (paired (drop 6 ws)) (omega arith))
