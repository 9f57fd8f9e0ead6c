-- The lender's own numbers, from what a memory's contract says of the row and of what lies outside.
use Rattle.std.proofs.Common.{◌≡◌, ℕ, zero, suc, add-one, ◌+◌, ◌-◌, ◌<◌, ◌≤◌, cond, ltb, List, [], ◌∷◌, ◌++◌, length, take, drop, set, replicate, sym, refl, ap, ◌∙◌, arith, length-set, take-append-drop, take_at, drop_at}
use Rattle.std.proofs.Math.Seq.{drop-length}
use lib.Seq.{set-append_left}
use Rattle.std.proofs.lemmas.List.{append-nil, set_past, set-append_right}
use Rattle.std.proofs.lemmas.Bool.{cond_both, cond-false, ltb-true, ltb-false, le-ltb}
use Rattle.memory.specs.Row.{front, beyond, written}
use Rattle.memory.specs.Meaning.{lent, pair}
use Rattle.memory.proofs.Rows.{written_in}
use Rattle.memory.proofs.Words.{lent_rest, length_front, within, whole, set_front, set_beyond}
use Rattle.lender.specs.Stored.{stored, stored_second, wiped, wiped_front}

-- the numbers from their row after `set`, and what lies past it
stored_back : (a b : List ℕ) (cell word : ℕ) → front b ≡ set (front a) cell word → beyond b ≡ beyond a → b ≡ stored a cell word
stored_back a b cell word e d =
    let P : List ℕ → Type 0 = λ r. b ≡ r in
    cond_both (ltb cell (length (front a))) (set a cell word) a P
    (λ p. let h = (within a cell (ltb-true cell (length (front a)) p)).0 in whole b (set a cell word) (e ∙ sym (set_front a cell word h)) (d ∙ sym (set_beyond a cell word h)))
    (λ p. let h = ltb-false cell (length (front a)) p in whole b a (e ∙ set_past (front a) cell word h) d)

pub stored_whole :
    (a b : List ℕ) (cell word : ℕ) → word ≤ 18446744073709551615 → front b ≡ written (front a) 18446744073709551615 cell word
    → beyond b ≡ beyond a → b ≡ stored a cell word
stored_whole a b cell word w t d = stored_back a b cell word (t ∙ sym (written_in (front a) 18446744073709551615 cell word w)) d

-- the same from what the contract of a memory over a loan says
pub stored_lent :
    (name name' : ℕ) (a b : List ℕ) (cell word : ℕ) → word ≤ 18446744073709551615 → front b ≡ written (front a) 18446744073709551615 cell word
    → lent name' (beyond b) ≡ lent name (beyond a) → b ≡ stored a cell word
stored_lent name name' a b cell word w t o = stored_whole a b cell word w t (lent_rest name name' (beyond a) (beyond b) o)

-- one more cell made 0
zeroed : (row : List ℕ) (i : ℕ) → i < length row → set (replicate i 0 ++ drop i row) i 0 ≡ replicate (suc i) 0 ++ drop (suc i) row
zeroed [] i h = absurd (omega arith)
zeroed (x ∷ row) zero h = refl
zeroed (x ∷ row) (suc i) h = ap (λ r. 0 ∷ r) (zeroed row i (omega arith))

pub wiped_more :
    (row now next : List ℕ) (top i : ℕ) → now ≡ replicate i 0 ++ drop i row → i < length row → next ≡ written now top i 0
    → next ≡ replicate (i + 1) 0 ++ drop (i + 1) row
wiped_more row now next top i e h n = rw add-one (n ∙ sym (written_in now top i 0 (omega arith)) ∙ ap (λ r. set r i 0) e ∙ zeroed row i h)

pub wiped_all : (row now : List ℕ) (i : ℕ) → now ≡ replicate i 0 ++ drop i row → i ≡ length row → now ≡ wiped row
wiped_all row now i e h = e ∙ rw (h, drop-length) (append-nil _)

-- numbers by their row and what lies past it
pub wiped_whole : (a b : List ℕ) → front b ≡ wiped (front a) → beyond b ≡ beyond a → b ≡ wiped_front a
unfolding front beyond
wiped_whole a b t d = let x = take-append-drop 65536 b in cc

pub wiped_lent : (name name' : ℕ) (a b : List ℕ) → front b ≡ wiped (front a) → lent name' (beyond b) ≡ lent name (beyond a) → b ≡ wiped_front a
wiped_lent name name' a b t o = wiped_whole a b t (lent_rest name name' (beyond a) (beyond b) o)

-- two lists of the same lengths that make one list are the same
parted : (a b x y : List ℕ) → length a ≡ length x → a ++ b ≡ x ++ y → (a ≡ x) × (b ≡ y)
parted a b x y l e = (
  sym (take_at a b (length x) l) ∙ ap (take (length x)) e ∙ take_at x y (length x) refl,
  sym (drop_at a b (length x) l) ∙ ap (drop (length x)) e ∙ drop_at x y (length x) refl,
)

-- a cell below 65,536 is in the row, or past the numbers
stored_low : (ws : List ℕ) (cell word : ℕ) → cell < 65536 → stored ws cell word ≡ set ws cell word
stored_low ws cell word h =
    let P : List ℕ → Type 0 = λ r. r ≡ set ws cell word in
    cond_both (ltb cell (length (front ws))) (set ws cell word) ws P
    (λ p. refl)
    (λ p. let k = ltb-false cell (length (front ws)) p in sym (set_past ws cell word (omega (arith, k, length_front ws))))

stored_past : (ws : List ℕ) (cell word : ℕ) → length (front ws) ≤ cell → stored ws cell word ≡ ws
stored_past ws cell word h = cond-false (ltb cell (length (front ws))) (set ws cell word) ws (le-ltb cell (length (front ws)) h)

-- two callers' numbers after a write to the memory that they make together
module _ (l r l' r' : List ℕ) (cell word : ℕ) (n : length (front l') ≡ length (front l)) (dl : beyond l' ≡ beyond l) (dr : beyond r' ≡ beyond r)
    (s : front l' ++ front r' ≡ stored (front l ++ front r) cell word) where
  in_first : cell < length (front l) → (l' ≡ stored l cell word) × (r' ≡ r)
  in_first h =
      let low = (within l cell h).0 in
      let k = length-set (front l) cell word in
      let e = parted (front l') (front r') (set (front l) cell word) (front r) (n ∙ sym k) (s ∙ stored_low (front l ++ front r) cell word low ∙ set-append_left (front l) (front r) cell word h) in
      (stored_back l l' cell word e.0 dl, whole r' r e.1 dr)

  in_second : length (front l) ≤ cell → cell < 65536 → (l' ≡ stored l cell word) × (r' ≡ stored r (cell - length (front l)) word)
  in_second h low =
      let e = parted (front l') (front r') (front l) (set (front r) (cell - length (front l)) word) n (s ∙ stored_low (front l ++ front r) cell word low ∙ set-append_right (front l) (front r) (length (front l)) cell word refl h) in
      (whole l' l e.0 dl ∙ sym (stored_past l cell word h), stored_back r r' (cell - length (front l)) word e.1 dr)

  in_neither : length (front l) ≤ cell → 65536 ≤ cell → (l' ≡ stored l cell word) × (r' ≡ r)
  in_neither h high =
      let e = parted (front l') (front r') (front l) (front r) n (s ∙ stored_past (front l ++ front r) cell word (omega (arith, length_front (front l ++ front r)))) in
      (whole l' l e.0 dl ∙ sym (stored_past l cell word h), whole r' r e.1 dr)

  pub stored_parts : (l' ≡ stored l cell word) × (r' ≡ stored_second l r cell word)
  stored_parts =
      let P : List ℕ → Type 0 = λ x. (l' ≡ stored l cell word) × (r' ≡ x) in
      cond_both (ltb cell (length (front l))) r (cond (ltb cell 65536) (stored r (cell - length (front l)) word) r) P
      (λ p. in_first (ltb-true cell (length (front l)) p))
      (λ p. cond_both (ltb cell 65536) (stored r (cell - length (front l)) word) r P
      (λ q. in_second (ltb-false cell (length (front l)) p) (ltb-true cell 65536 q))
      (λ q. in_neither (ltb-false cell (length (front l)) p) (ltb-false cell 65536 q)))

-- the same from what the contract of the joined memory says
module _ (l r l' r' : List ℕ) (cell word n n' m m' : ℕ) (w : word ≤ 18446744073709551615)
    (t : front (front l' ++ front r') ≡ written (front (front l ++ front r)) 18446744073709551615 cell word)
    (o : pair (length (front l')) (beyond (front l' ++ front r')) (lent n' (beyond l')) (lent m' (beyond r')) ≡ pair (length (front l)) (beyond (front l ++ front r)) (lent n (beyond l)) (lent m (beyond r))) where
  parts : (l' ≡ stored l cell word) × (r' ≡ stored_second l r cell word)
  parts =
      let d : beyond (front l' ++ front r') ≡ beyond (front l ++ front r) = cc in
      stored_parts l r l' r' cell word (cc) (cc) (cc) (stored_whole (front l ++ front r) (front l' ++ front r') cell word w t d)

  pub stored_first_lent : l' ≡ stored l cell word
  stored_first_lent = parts.0

  pub stored_second_lent : r' ≡ stored_second l r cell word
  stored_second_lent = parts.1
