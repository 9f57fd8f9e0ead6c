-- Reading the records of a tape.
use Rattle.std.proofs.Common.{◌≡◌, ℕ, zero, suc, ◌+◌, ◌*◌, ◌<◌, ◌≤◌, cond, eqb, List, length, get_or, drop, Ok, Err, Result, sym, refl, ap, ◌∙◌, arith, length-drop}
use Rattle.std.proofs.lemmas.List.{get_or_past}
use Rattle.std.proofs.lemmas.Bool.{cond-false, eq-eqb, ne_eqb, le-ltb, ltb-false, eqb-true}
use Rattle.memory.proofs.Bytewise.{value_eight}
use Rattle.memory.specs.Bytes.{value}
use Rattle.tape.specs.Records.{length_in, kind_in, span, record_of, next_record, over, faulty, then, begun_with, read_from}
use Rattle.tape.specs.declared.fault.TapeFault.{TapeFault}
use Rattle.tape.specs.declared.fault.TapeFault.TheVariants.{CutRecord}
use Rattle.tape.specs.declared.reader.Record.{Record}

pub value_two : (l : List ℕ) → length l ≤ 2 → get_or l 0 0 + get_or l 1 0 * 256 ≡ value l
value_two l h =
    omega (arith, value_eight l (omega arith), get_or_past l 2 0 h, get_or_past l 3 0 (omega arith), get_or_past l 4 0 (omega arith), get_or_past l 5 0 (omega arith), get_or_past l 6 0 (omega arith), get_or_past l 7 0 (omega arith))

-- ---- one record

-- a record that is not cut is read by its kind and length
pub not_cut : (bytes : List ℕ) (kind len : ℕ) (k : Result Record TapeFault) → kind ≡ kind_in bytes → len ≡ length_in bytes → 4 ≤ length bytes → 2 + len ≤ length bytes
    → k ≡ record_of kind len bytes → next_record bytes ≡ k
not_cut bytes kind len k e f long whole r =
    cond-false _ (Err CutRecord) _ (le-ltb (length bytes) 4 long)
    ∙ cond-false _ (Err CutRecord) _ (le-ltb (length bytes) (span bytes) (omega arith))
    ∙ sym (r ∙ (λ i. record_of (e i) (f i) bytes))

-- a record that is read has the length of its kind
record_spans : (kind len : ℕ) (bytes : List ℕ) (r : Record) → record_of kind len bytes ≡ Ok r → 3 ≤ len
record_spans kind len bytes r = grind (arith, eqb-true)

-- a record takes five bytes or more, and they are all there
pub spans : (bytes : List ℕ) (r : Record) → next_record bytes ≡ Ok r → (5 ≤ span bytes) × (span bytes ≤ length bytes)
spans bytes r = grind (arith, record_spans, ltb-false)

-- ---- all records

-- bytes say the same, however many records may be read, if they may be as many as the bytes
pub enough : (m n at : ℕ) (bytes : List ℕ) → length bytes ≤ m → length bytes ≤ n → read_from m at bytes ≡ read_from n at bytes
enough zero zero at bytes few also = refl
enough zero (suc n) at bytes few also = rw (eq-eqb (length bytes) 0 (omega arith)) refl
enough (suc m) zero at bytes few also = rw (eq-eqb (length bytes) 0 (omega arith)) refl
enough (suc m) (suc n) at bytes few also =
    let less = length-drop (span bytes) bytes in
    ap (λ rest. cond (eqb (length bytes) 0) over (begun_with (next_record bytes) at rest)) (enough m n (at + span bytes) (drop (span bytes) bytes) (omega arith) (omega arith))

-- no bytes, a record, a fault
pub read_none : (n at : ℕ) (bytes : List ℕ) → length bytes ≡ 0 → read_from n at bytes ≡ over
read_none zero at bytes none = refl
read_none (suc n) at bytes none = rw (eq-eqb (length bytes) 0 none) refl

read_some : (n at : ℕ) (bytes : List ℕ) → 0 < length bytes → length bytes ≤ n
    → read_from n at bytes ≡ begun_with (next_record bytes) at (read_from (length (drop (span bytes) bytes)) (at + span bytes) (drop (span bytes) bytes))
read_some zero at bytes some few = absurd (omega arith)
read_some (suc n) at bytes some few =
    let less = length-drop (span bytes) bytes in
    cond-false _ over _ (ne_eqb (length bytes) 0 (omega arith))
    ∙ ap (begun_with (next_record bytes) at) (enough n (length (drop (span bytes) bytes)) (at + span bytes) (drop (span bytes) bytes) (omega arith) (omega arith))

pub read_record : (n at : ℕ) (bytes rest : List ℕ) (r : Record) → length bytes ≤ n → next_record bytes ≡ Ok r → rest ≡ drop (span bytes) bytes
    → read_from n at bytes ≡ then r (read_from (length rest) (at + span bytes) rest)
read_record n at bytes rest r few e f =
    read_some n at bytes (let s = spans bytes r e in omega arith) few
    ∙ ap (λ k. begun_with k at (read_from (length (drop (span bytes) bytes)) (at + span bytes) (drop (span bytes) bytes))) e
    ∙ ap (λ b. then r (read_from (length b) (at + span bytes) b)) (sym f)

pub read_fault : (n at : ℕ) (bytes : List ℕ) (f : TapeFault) → 0 < length bytes → length bytes ≤ n → next_record bytes ≡ Err f → read_from n at bytes ≡ faulty f at
read_fault n at bytes f some few e =
    read_some n at bytes some few ∙ ap (λ k. begun_with k at (read_from (length (drop (span bytes) bytes)) (at + span bytes) (drop (span bytes) bytes))) e
