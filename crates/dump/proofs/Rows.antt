-- Rows of cells, one after another, and the lines that stand for them.
use Rattle.std.proofs.Common.{◌≡◌, ℕ, zero, suc, ◌&&◌, ◌+◌, ◌-◌, ◌/◌, ◌<◌, ◌≤◌, min, false, cond, eqb, List, [], ◌∷◌, length, get_or, take, drop, sym, refl, ap, ◌∙◌, inl, inr, arith, length-drop}
use Rattle.std.proofs.lemmas.List.{drop_more, drop-drop, drop_all, take_all}
use Rattle.std.proofs.lemmas.Bool.{cases_eq, cases_lt, eq-eqb, ne_eqb}
use Rattle.std.specs.List.{between, list_all, range_with_len}
use Rattle.dump.specs.Lines.{cut, rows_of, all_zero, Line, zeros, words, zeros_before}

pub between_first : (xs : List ℕ) (i j : ℕ) → i < j → j ≤ length xs → between i j xs ≡ get_or xs i 0 ∷ between (i + 1) j xs
between_first xs i j below within =
    let here : i < length xs = omega arith in
    let more : j - i ≡ suc (j - (i + 1)) = omega arith in
    rw (drop_more xs i 0, more)

pub between_end : (xs : List ℕ) (i j : ℕ) → j ≤ i → between i j xs ≡ []
between_end xs i j past =
    let none : j - i ≡ 0 = omega arith in
    rw none

-- whether the cells from i on, before j, hold 0, one after another
pub all_zero_is : (xs : List ℕ) (n i j : ℕ) → j - i ≡ n → j ≤ length xs → list_all (λ cell. eqb (get_or xs cell 0) 0) (range_with_len i n) ≡ all_zero (between i j xs)
all_zero_is xs zero i j e within = rw (between_end xs i j (omega arith))
all_zero_is xs (suc n) i j e within =
    rw (between_first xs i j (omega arith) within) (ap (λ b. eqb (get_or xs i 0) 0 && b) (all_zero_is xs n (i + 1) j (omega arith) within))

-- the first row, and those of the other cells
rows_step : (xs : List ℕ) → 0 < length xs → rows_of xs ≡ take 32 xs ∷ rows_of (drop 32 xs)
rows_step xs some =
    let more : (length xs + 31) / 32 ≡ suc ((length (drop 32 xs) + 31) / 32) = rw length-drop (omega arith) in
    ap (λ n. cut n xs) more

take_most : (xs : List ℕ) (n : ℕ) → n ≡ min 32 (length xs) → take 32 xs ≡ take n xs
take_most xs n e = elim (cases_lt (length xs) 32) [ inl short ↦ take_all 32 xs (omega arith) ∙ sym (take_all n xs (omega arith)) | inr long ↦ let same : 32 ≡ n = omega arith in ap (λ m. take m xs) same ]

drop_most : (xs : List ℕ) (n : ℕ) → n ≡ min 32 (length xs) → drop 32 xs ≡ drop n xs
drop_most xs n e = elim (cases_lt (length xs) 32) [ inl short ↦ drop_all 32 xs (omega arith) ∙ sym (drop_all n xs (omega arith)) | inr long ↦ let same : 32 ≡ n = omega arith in ap (λ m. drop m xs) same ]

pub rows_more : (cells : List ℕ) (first end : ℕ) → first < length cells → end ≡ first + min 32 (length cells - first) → rows_of (drop first cells) ≡ between first end cells ∷ rows_of (drop end cells)
rows_more cells first end below e =
    let left : length (drop first cells) ≡ length cells - first = length-drop first cells in
    let count : end - first ≡ min 32 (length (drop first cells)) = omega arith in
    let whole : first + (end - first) ≡ end = omega arith in
    let rest : drop 32 (drop first cells) ≡ drop end cells = drop_most (drop first cells) (end - first) count ∙ drop-drop (end - first) first cells ∙ ap (λ n. drop n cells) whole in
    rows_step (drop first cells) (omega arith) ∙ (λ i. take_most (drop first cells) (end - first) count i ∷ rows_of (rest i))

-- lines that come after n zeros, from cell `run` on, that have no line yet
abbrev pub pending : ℕ → ℕ → List Line → List Line
pending run n lines = cond (eqb n 0) lines (zeros_before run n lines)

zeros_twice : (run n first m : ℕ) (lines : List Line) → zeros_before run n (zeros_before first m lines) ≡ zeros_before run (n + m) lines
zeros_twice run n first m [] = refl
zeros_twice run n first m (zeros next k ∷ lines) = ap (λ c. zeros run c ∷ lines) (omega arith)
zeros_twice run n first m (words next row ∷ lines) = refl

pub pending_zeros : (run n first m : ℕ) (lines : List Line) → run + n ≡ first → 0 < m → pending run n (zeros_before first m lines) ≡ pending run (n + m) lines
pending_zeros run n first m lines e some =
    let later : eqb (n + m) 0 ≡ false = ne_eqb (n + m) 0 (omega arith) in
    elim (cases_eq n 0) [ inl none ↦ rw (eq-eqb n 0 none, later) (λ i. zeros_before (same none i) (count none i) lines) | inr d ↦ rw (ne_eqb n 0 d, later) (zeros_twice run n first m lines) ]
  where
    same : n ≡ 0 → first ≡ run
    same none = omega arith

    count : n ≡ 0 → m ≡ n + m
    count none = omega arith
