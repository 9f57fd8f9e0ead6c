-- A lawful order on the words below a limit has ranks: the rank of a key is how many keys come before it.
use Rattle.std.proofs.Common.{◌≡◌, ℕ, zero, suc, ◌<◌, ◌≤◌, Bool, true, false, cond, ◌&&◌, ltb, sym, refl, ◌∙◌, subst, ⊎_elim, arith}
use Rattle.std.proofs.lemmas.Bool.{lt-ltb, le-ltb, ltb-true, and_parts, and_from, and_right, cases_Bool, cases_eq, cond-true, cond-false, both_ways}
use Rattle.order.specs.Laws.{Ordered}
use Rattle.tree.specs.Tree.{Order}
use Rattle.tree.specs.Stands.{LawfulHasRanks}

counted : (ℕ → Bool) → ℕ → ℕ
counted p zero = 0
counted p (suc n) = cond (p n) (suc (counted p n)) (counted p n)

counted_yes : (p : ℕ → Bool) (n : ℕ) → p n ≡ true → counted p (suc n) ≡ suc (counted p n)
unfolding counted
counted_yes p n e = cond-true (p n) (suc (counted p n)) (counted p n) e

counted_no : (p : ℕ → Bool) (n : ℕ) → p n ≡ false → counted p (suc n) ≡ counted p n
unfolding counted
counted_no p n e = cond-false (p n) (suc (counted p n)) (counted p n) e

counted_none : (p : ℕ → Bool) → counted p 0 ≡ 0
unfolding counted
counted_none p = refl

counted_up : (p : ℕ → Bool) (n : ℕ) → (counted p n ≤ counted p (suc n)) × (counted p (suc n) ≤ suc (counted p n))
counted_up p n = ⊎_elim (λ (e : p n ≡ true). omega (arith, counted_yes p n e)) (λ (e : p n ≡ false). omega (arith, counted_no p n e)) (cases_Bool (p n))

counted_most : (p : ℕ → Bool) (n : ℕ) → counted p n ≤ n
counted_most p zero = omega (arith, counted_none p)
counted_most p (suc n) = let h = counted_most p n in omega (arith, counted_up p n)

module _ (p q : ℕ → Bool) (more : (k : ℕ) → p k ≡ true → q k ≡ true) where
  counted_le : (n : ℕ) → counted p n ≤ counted q n
  counted_le zero = omega (arith, counted_none p)
  counted_le (suc n) = let h = counted_le n in
      ⊎_elim (λ (e : p n ≡ true). omega (arith, counted_yes p n e, counted_yes q n (more n e))) (λ (e : p n ≡ false). omega (arith, counted_no p n e, counted_up q n)) (cases_Bool (p n))

  counted_lt : (j n : ℕ) → j < n → p j ≡ false → q j ≡ true → counted p n < counted q n
  counted_lt j zero l e f = absurd (omega arith)
  counted_lt j (suc n) l e f =
      let rest = counted_lt j n in
      ⊎_elim
      (λ (i : j ≡ n). let le = counted_le n in omega (arith, counted_no p n (subst (λ k. p k ≡ false) i e), counted_yes q n (subst (λ k. q k ≡ true) i f)))
      (λ (i : j ≡ n → ⊥). let h = rest (omega arith) e f in
      ⊎_elim (λ (t : p n ≡ true). omega (arith, counted_yes p n t, counted_yes q n (more n t))) (λ (t : p n ≡ false). omega (arith, counted_no p n t, counted_up q n)) (cases_Bool (p n)))
      (cases_eq j n)

module _ (limit : ℕ) (is_key : ℕ → Bool) (before : ℕ → ℕ → Bool) (laws : Ordered is_key before) where
  word_key : ℕ → Bool
  word_key k = is_key k && ltb k limit

  earlier : ℕ → ℕ → Bool
  earlier a k = is_key k && before k a

  rank : ℕ → ℕ
  rank a = counted (earlier a) limit

  rank_up : (a b : ℕ) → is_key a ≡ true → a < limit → is_key b ≡ true → before a b ≡ true → rank a < rank b
  unfolding rank earlier
  rank_up a b ka la kb t = counted_lt (earlier a) (earlier b)
      (λ k e. let h = and_parts (is_key k) (before k a) e in and_from (is_key k) (before k b) h.0 (laws.chain k a b h.0 ka kb h.1 t))
      a limit la (and_right (is_key a) (before a a) (laws.never a ka)) (and_from (is_key a) (before a b) ka t)

  not_both : (a b : ℕ) → is_key a ≡ true → is_key b ≡ true → before a b ≡ true → before b a ≡ false
  not_both a b ka kb t = ⊎_elim (λ (e : before b a ≡ true). absurd (both_ways (before a a) (laws.never a ka) (laws.chain a b a ka kb ka t e))) (λ (e : before b a ≡ false). e) (cases_Bool (before b a))

  key_word : (a : ℕ) → word_key a ≡ true → (is_key a ≡ true) × (a < limit)
  unfolding word_key
  key_word a e = let h = and_parts (is_key a) (ltb a limit) e in (h.0, ltb-true a limit h.1)

  rank_is : (a b : ℕ) → word_key a ≡ true → word_key b ≡ true → before a b ≡ ltb (rank a) (rank b)
  rank_is a b ka kb =
      let (ha, la) = key_word a ka in let (hb, lb) = key_word b kb in
      ⊎_elim (λ (e : a ≡ b). subst (λ c. before a c ≡ ltb (rank a) (rank c)) e (laws.never a ha ∙ sym (le-ltb (rank a) (rank a) (omega arith))))
      (λ (ne : a ≡ b → ⊥). ⊎_elim
      (λ (t : before a b ≡ true). t ∙ sym (lt-ltb (rank a) (rank b) (rank_up a b ha la hb t)))
      (λ (t : before b a ≡ true). let l = rank_up b a hb lb ha t in not_both b a hb ha t ∙ sym (le-ltb (rank a) (rank b) (omega arith)))
      (laws.total a b ha hb ne))
      (cases_eq a b)

  rank_same : (a b : ℕ) → word_key a ≡ true → word_key b ≡ true → rank a ≡ rank b → a ≡ b
  rank_same a b ka kb q =
      let (ha, la) = key_word a ka in let (hb, lb) = key_word b kb in
      ⊎_elim (λ (e : a ≡ b). e)
      (λ (ne : a ≡ b → ⊥). ⊎_elim
      (λ (t : before a b ≡ true). let l = rank_up a b ha la hb t in absurd (omega arith))
      (λ (t : before b a ≡ true). let l = rank_up b a hb lb ha t in absurd (omega arith))
      (laws.total a b ha hb ne))
      (cases_eq a b)

  rank_most : (a : ℕ) → rank a ≤ limit
  unfolding rank
  rank_most a = counted_most (earlier a) limit

  ranked : Order
  ranked = record {
    is_key = word_key;
    before = before;
    rank = rank;
    room = suc (suc limit);
    before_is = rank_is;
    rank_one = rank_same;
    rank_in = λ a _. omega (arith, rank_most a);
    some_room = omega arith;
  }

pub lawful_has_ranks : LawfulHasRanks
unfolding ranked word_key
lawful_has_ranks limit is_key before laws = (ranked limit is_key before laws, refl, λ k. refl)
