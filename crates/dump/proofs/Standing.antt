-- The lines of a memory stand for its cells.
use Rattle.std.proofs.Common.{◌≡◌, ℕ, zero, suc, ◌+◌, ◌/◌, ◌<◌, ◌≤◌, true, eqb, List, [], ◌∷◌, ◌++◌, length, take, drop, replicate, sym, refl, ap, ◌∙◌, subst, append_assoc, arith, length-drop, length-take}
use Rattle.std.proofs.lemmas.List.{take-append-drop, replicate-append-replicate, nil_from_length}
use Rattle.std.proofs.lemmas.Bool.{and_parts, eqb-true, cond_both}
use Rattle.dump.specs.Lines.{cut, all_zero, Line, zeros, words, zeros_before, lines_from, lines_of, StandFor}

zeros_are : (row : List ℕ) → all_zero row ≡ true → row ≡ replicate (length row) 0
zeros_are [] e = refl
zeros_are (word ∷ row) e =
    let both = and_parts (eqb word 0) (all_zero row) e in
    λ i. eqb-true word 0 both.0 i ∷ zeros_are row both.1 i

stand_zeros : (first n : ℕ) (lines : List Line) (rest : List ℕ) → 0 < n → StandFor (first + n) lines rest → StandFor first (zeros_before first n lines) (replicate n 0 ++ rest)
stand_zeros first n [] rest some h = (refl, some, tt, (rest, refl, h))
stand_zeros first n (zeros at m ∷ lines) rest some h =
    let end : first + n + m ≡ first + (n + m) = omega arith in
    (refl, omega arith, h.2, (h.3.0, ap (λ l. replicate n 0 ++ l) h.3.1 ∙ sym (append_assoc (replicate n 0) (replicate m 0) h.3.0) ∙ ap (λ l. l ++ h.3.0) (replicate-append-replicate n m 0), subst (λ k. StandFor k lines h.3.0) end h.3.2))
stand_zeros first n (words at row ∷ lines) rest some h = (refl, some, tt, (rest, refl, h))

stand_rows : (n first : ℕ) (cells : List ℕ) → n ≡ (length cells + 31) / 32 → StandFor first (lines_from first (cut n cells)) cells
stand_rows zero first cells e = nil_from_length cells (omega arith)
stand_rows (suc n) first cells e =
    let row : List ℕ = take 32 cells in
    let whole : row ++ drop 32 cells ≡ cells = take-append-drop 32 cells in
    let some : 0 < length row = rw length-take (omega arith) in
    let few : length row ≤ 32 = rw length-take (omega arith) in
    let others = stand_rows n (first + length row) (drop 32 cells) (rw length-drop (omega arith)) in
    let lines : List Line = lines_from (first + length row) (cut n (drop 32 cells)) in
    cond_both (all_zero row) (zeros_before first (length row) lines) (words first row ∷ lines) (λ ls. StandFor first ls cells)
    (λ zero. subst (StandFor first (zeros_before first (length row) lines)) (ap (λ l. l ++ drop 32 cells) (sym (zeros_are row zero)) ∙ whole) (stand_zeros first (length row) lines (drop 32 cells) some others))
    (λ word. (refl, some, few, word, (drop 32 cells, sym whole, others)))

pub lines_stand : (cells : List ℕ) → StandFor 0 (lines_of cells) cells
lines_stand cells = stand_rows ((length cells + 31) / 32) 0 cells refl
