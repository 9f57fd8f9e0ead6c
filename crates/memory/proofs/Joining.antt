-- Two rows, one after the other.
use Rattle.std.proofs.Common.{Ok, inl, inr, ◌≡◌, ℕ, ◌+◌, ◌-◌, ◌<◌, ◌≤◌, min, List, ◌++◌, length, set, sym, refl, ap, ◌∙◌, arith, length-append, length-set}
use lib.Seq.{set-append_left}
use Rattle.std.proofs.lemmas.Bool.{cases_lt, lt-ltb, le-ltb}
use Rattle.std.proofs.lemmas.List.{get_or_append_left, get_or-append_right, set-append_right}
use Rattle.memory.specs.Meaning.{Outside, pair}
use Rattle.memory.specs.declared.joined.Place.{Place}
use Rattle.memory.specs.declared.joined.Place.TheVariants.{First, Second}
use Rattle.memory.specs.Joined.{placed}
use Rattle.memory.specs.Row.{front, beyond, read_at, guarded, written}
use Rattle.memory.proofs.Rows.{written_in}
use Rattle.memory.proofs.Words.{length_front, within, get_or_front, set_front, set_beyond}

pub length_both : (a b : List ℕ) → length (front (a ++ b)) ≡ min 65536 (length a + length b)
length_both a b = simp (length_front, length-append) refl

-- a cell of both that is not the first one's is one of the second's
pub in_second : (a b : List ℕ) (cell : ℕ) → cell < length (front (a ++ b)) → length a ≤ cell → cell - length a < length b
in_second a b cell h l = omega (arith, length_both a b)

pair_same : {k k' : ℕ} {r r' : List ℕ} {o o' p p' : Outside} → k' ≡ k → r' ≡ r → o' ≡ o → p' ≡ p → pair k' r' o' p' ≡ pair k r o p
pair_same e f g h = cc

placed_first : (split cell at : ℕ) (p : Place) → p ≡ First at → p ≡ placed split cell → (at ≡ cell) × (cell < split)
placed_first split cell at p e f =
    elim (cases_lt cell split) [
      | inl h ↦ (let g = rw (lt-ltb cell split h) at f in (cc, h))
      | inr h ↦ (let g = rw (le-ltb cell split h) at f in absurd (cc))
    ]

placed_second : (split cell at : ℕ) (p : Place) → p ≡ Second at → p ≡ placed split cell → (at ≡ cell - split) × (split ≤ cell)
placed_second split cell at p e f =
    elim (cases_lt cell split) [
      | inl h ↦ (let g = rw (lt-ltb cell split h) at f in absurd (cc))
      | inr h ↦ (let g = rw (le-ltb cell split h) at f in (cc, h))
    ]

-- what a cell of the joined row holds, and what a write to it leaves, by the memory that it lies in
module _ (a b : List ℕ) (cell at : ℕ) (p : Place) (h : cell < length (front (a ++ b))) (e : p ≡ First at) (f : p ≡ placed (length a) cell) where
  same : at ≡ cell
  same = (placed_first (length a) cell at p e f).0

  low : cell < length a
  low = (placed_first (length a) cell at p e f).1

  pub read_first : read_at a at ≡ read_at (front (a ++ b)) cell
  read_first = rw (same, lt-ltb cell (length a) low, lt-ltb cell (length (front (a ++ b))) h) (ap Ok (sym (get_or_append_left a b 0 cell low) ∙ get_or_front (a ++ b) cell h))

  module _ (s t word : ℕ) (w : word ≤ min s t) (a' : List ℕ) (u : a' ≡ written a s at word) where
    stored : a' ++ b ≡ set (a ++ b) cell word
    stored = let v : word ≤ s = omega arith in ap (λ r. r ++ b) (u ∙ sym (written_in a s at word v) ∙ ap (λ i. set a i word) same) ∙ sym (set-append_left a b cell word low)

    pub write_first_row : front (a' ++ b) ≡ written (front (a ++ b)) (min s t) cell word
    write_first_row = ap front stored ∙ set_front (a ++ b) cell word (within (a ++ b) cell h).0 ∙ written_in (front (a ++ b)) (min s t) cell word w

    pub write_first_outside : (o o' q : Outside) → o' ≡ o → pair (length a') (beyond (a' ++ b)) o' q ≡ pair (length a) (beyond (a ++ b)) o q
    write_first_outside o o' q i =
        let v : word ≤ s = omega arith in
        pair_same (ap length (u ∙ sym (written_in a s at word v)) ∙ length-set a at word) (ap beyond stored ∙ set_beyond (a ++ b) cell word (within (a ++ b) cell h).0) i refl

module _ (a b : List ℕ) (cell at : ℕ) (p : Place) (h : cell < length (front (a ++ b))) (e : p ≡ Second at) (f : p ≡ placed (length a) cell) where
  less : at ≡ cell - length a
  less = (placed_second (length a) cell at p e f).0

  high : length a ≤ cell
  high = (placed_second (length a) cell at p e f).1

  within_second : at < length b
  within_second = rw less (in_second a b cell h high)

  pub read_second : read_at b at ≡ read_at (front (a ++ b)) cell
  read_second = rw (lt-ltb at (length b) within_second, lt-ltb cell (length (front (a ++ b))) h, less) (ap Ok (sym (get_or-append_right a b (length a) cell 0 refl high) ∙ get_or_front (a ++ b) cell h))

  module _ (s t word : ℕ) (w : word ≤ min s t) where
    pub write_second_answer : {A : Type 0} (told : A) → guarded b t at word told ≡ guarded (front (a ++ b)) (min s t) cell word told
    write_second_answer told = rw (lt-ltb at (length b) within_second, lt-ltb cell (length (front (a ++ b))) h, le-ltb t word (omega arith), le-ltb (min s t) word w) refl

    module _ (b' : List ℕ) (u : b' ≡ written b t at word) where
      kept : a ++ b' ≡ set (a ++ b) cell word
      kept =
          let v : word ≤ t = omega arith in
          ap (λ r. a ++ r) (u ∙ sym (written_in b t at word v) ∙ ap (λ i. set b i word) less) ∙ sym (set-append_right a b (length a) cell word refl high)

      pub write_second_row : front (a ++ b') ≡ written (front (a ++ b)) (min s t) cell word
      write_second_row = ap front kept ∙ set_front (a ++ b) cell word (within (a ++ b) cell h).0 ∙ written_in (front (a ++ b)) (min s t) cell word w

      pub write_second_outside : (o q q' : Outside) → q' ≡ q → pair (length a) (beyond (a ++ b')) o q' ≡ pair (length a) (beyond (a ++ b)) o q
      write_second_outside o q q' i = pair_same refl (ap beyond kept ∙ set_beyond (a ++ b) cell word (within (a ++ b) cell h).0) refl i
