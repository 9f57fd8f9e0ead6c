-- An operation's new content as one change of the entries.
use Rattle.std.proofs.Common.{◌≡◌, ℕ, zero, suc, ◌+◌, ◌-◌, ◌<◌, ◌≤◌, min, Bool, true, false, cond, eqb, ltb, List, [], ◌∷◌, length, get_or, set, is_some, Some, None, Option, sym, refl, ap, ◌∙◌, one-add, arith}
use native.Mathlib.Nat.{min-zero, zero-min, suc-min-suc}
use Rattle.std.proofs.lemmas.Bool.{true≢false, false≢true}
use Rattle.std.specs.List.{insert}
use Rattle.rules.specs.declared.seat.Entry.{Entry}
use Rattle.node.specs.Values.{value_at}
use Rattle.node.proofs.Finds.{found_value}
use Rattle.rules.specs.Steps.{stored}
use Rattle.rules.specs.declared.report.Outcome.TheVariants.{Stored, Replaced}
use Rattle.rules.specs.Nodes.{entry, rank, found, put_in, post_in}

-- how a put ends whose key has a value, and has none
ends_some : (a b : Bool) (v : ℕ) → is_some (cond a (cond b (Some v) None) None) ≡ true → Replaced v ≡ stored (cond a (cond b (Some v) None) None)
ends_some true true v h = refl
ends_some true false v h = absurd (false≢true h)
ends_some false b v h = absurd (false≢true h)

ends_none : (o : Option ℕ) → is_some o ≡ false → Stored ≡ stored o
ends_none None h = refl
ends_none (Some v) h = absurd (true≢false h)

module _ (before : ℕ → ℕ → Bool) where
  rank_within : (k : ℕ) (es : List Entry) → rank before k es ≤ length es
  rank_within k [] = omega arith
  rank_within k (e ∷ es) =
      let r = rank_within k es in
      elim (before e.key k) as (λ b. cond b (1 + rank before k es) 0 ≤ suc (length es)) [ true ↦ omega arith | false ↦ omega arith ]

  found_within : (k : ℕ) (es : List Entry) → is_some (found before k es) ≡ true → rank before k es < length es
  found_within k [] = λ h. absurd (false≢true h)
  found_within k (e ∷ es) =
      elim (before e.key k) as (λ b. is_some (cond b (found before k es) (cond (eqb e.key k) (Some e.value) None)) ≡ true → cond b (1 + rank before k es) 0 < suc (length es))
      [ true ↦ λ h. let r = found_within k es h in omega arith | false ↦ λ h. omega arith ]

  put_held : (k v : ℕ) (es : List Entry) → is_some (found before k es) ≡ true → put_in before k v es ≡ set es (rank before k es) (entry k v)
  put_held k v [] = λ h. absurd (false≢true h)
  put_held k v (e ∷ es) =
      elim (before e.key k) as (λ b.
      is_some (cond b (found before k es) (cond (eqb e.key k) (Some e.value) None)) ≡ true →
      cond b (e ∷ put_in before k v es) (cond (eqb e.key k) (entry k v ∷ es) (entry k v ∷ (e ∷ es))) ≡ set (e ∷ es) (cond b (1 + rank before k es) 0) (entry k v)) [
        | true ↦ λ h. rw one-add (ap {B = List Entry} (λ t. e ∷ t) (put_held k v es h))
        | false ↦ elim (eqb e.key k) as (λ q. is_some (cond q (Some e.value) None) ≡ true → cond q (entry k v ∷ es) (entry k v ∷ (e ∷ es)) ≡ entry k v ∷ es)
            [ true ↦ λ h. refl | false ↦ λ h. absurd (false≢true h) ]
      ]

  put_fresh : (k v : ℕ) (es : List Entry) → is_some (found before k es) ≡ false → put_in before k v es ≡ insert es (rank before k es) (entry k v)
  put_fresh k v [] = λ h. refl
  put_fresh k v (e ∷ es) =
      elim (before e.key k) as (λ b.
      is_some (cond b (found before k es) (cond (eqb e.key k) (Some e.value) None)) ≡ false →
      cond b (e ∷ put_in before k v es) (cond (eqb e.key k) (entry k v ∷ es) (entry k v ∷ (e ∷ es))) ≡ insert (e ∷ es) (cond b (1 + rank before k es) 0) (entry k v)) [
        | true ↦ λ h. rw one-add (ap {B = List Entry} (λ t. e ∷ t) (put_fresh k v es h))
        | false ↦ elim (eqb e.key k) as (λ q. is_some (cond q (Some e.value) None) ≡ false → cond q (entry k v ∷ es) (entry k v ∷ (e ∷ es)) ≡ entry k v ∷ (e ∷ es))
            [ true ↦ λ h. absurd (true≢false h) | false ↦ λ h. refl ]
      ]

  module _ (k v : ℕ) (es : List Entry) (i : ℕ) (is : i ≡ rank before k es) where
    held : {b : Bool} → is_some (value_at es i k) ≡ b → is_some (found before k es) ≡ b
    held h = sym (ap is_some (found_value before k es i is)) ∙ h

    pub put_replaces : is_some (value_at es i k) ≡ true → put_in before k v es ≡ set es i (entry k v)
    put_replaces h = rw is (put_held k v es (held h))

    pub put_replaces_within : is_some (value_at es i k) ≡ true → i < length es
    put_replaces_within h = rw is (found_within k es (held h))

    pub put_inserts : is_some (value_at es i k) ≡ false → put_in before k v es ≡ insert es i (entry k v)
    put_inserts h = rw is (put_fresh k v es (held h))

    pub put_inserts_within : i ≤ length es
    put_inserts_within = rw is (rank_within k es)

    pub put_ends_replaced : is_some (value_at es i k) ≡ true → Replaced (get_or es i (entry 0 0)).value ≡ stored (found before k es)
    put_ends_replaced h =
        ends_some (ltb i (length es)) (eqb (get_or es i (entry 0 0)).key k) (get_or es i (entry 0 0)).value h ∙ ap stored (found_value before k es i is)

    pub put_ends_stored : is_some (value_at es i k) ≡ false → Stored ≡ stored (found before k es)
    put_ends_stored h = ends_none (value_at es i k) h ∙ ap stored (found_value before k es i is)

  post_ranked : (m d : ℕ) (es : List Entry) (n : ℕ) → length es ≡ suc n →
      let j = min (rank before m es) n in
      post_in before m d es ≡ insert (set es j (entry (get_or es j (entry 0 0)).key d)) j (entry m (get_or es j (entry 0 0)).value)
  post_ranked m d [] n h = absurd (omega arith)
  post_ranked m d (e ∷ []) n h = let z : n ≡ 0 = omega arith in rw (z, min-zero)
  post_ranked m d (e ∷ (f ∷ es)) zero h = absurd (omega arith)
  post_ranked m d (e ∷ (f ∷ es)) (suc n) h =
      let more = post_ranked m d (f ∷ es) n (omega arith) in
      elim (before e.key m) as (λ b.
      let j = min (cond b (1 + rank before m (f ∷ es)) 0) (suc n) in
      cond b (e ∷ post_in before m d (f ∷ es)) (entry m e.value ∷ (entry e.key d ∷ (f ∷ es)))
      ≡ insert (set (e ∷ (f ∷ es)) j (entry (get_or (e ∷ (f ∷ es)) j (entry 0 0)).key d)) j (entry m (get_or (e ∷ (f ∷ es)) j (entry 0 0)).value)) [
        | true ↦ rw (one-add, suc-min-suc) (ap {B = List Entry} (λ t. e ∷ t) more)
        | false ↦ rw zero-min
      ]

  pub post_is : (m d : ℕ) (es : List Entry) (j : ℕ) → 0 < length es → j ≡ min (rank before m es) (length es - 1) →
      post_in before m d es ≡ insert (set es j (entry (get_or es j (entry 0 0)).key d)) j (entry m (get_or es j (entry 0 0)).value)
  post_is m d es j some is = rw is (post_ranked m d es (length es - 1) (omega arith))

  pub post_none : (m d : ℕ) (es : List Entry) → length es ≡ 0 → post_in before m d es ≡ es
  post_none m d [] h = refl
  post_none m d (e ∷ es) h = absurd (omega arith)
