-- A row of cells that are a few bytes each.
use Rattle.std.proofs.Common.{◌≡◌, ℕ, zero, suc, ◌+◌, ◌-◌, ◌*◌, ◌/◌, ◌%◌, ◌^◌, ◌<◌, ◌≤◌, min, List, [], ◌∷◌, ◌++◌, length, get_or, take, drop, set, replicate, sym, refl, ap, ◌∙◌, append_assoc, mul-le-mul_right, suc-mul, div-lt_iff_lt-mul, add_comm, pow-suc, zero-mul, div-mul-le_self, arith, lit<, length-append, length-drop, length-take, drop-drop, take_at, take-add, drop_at}
use Rattle.std.specs.Int.{w64, from_le_bytes, to_le_bytes}
use borrow.Rule.Slice.PartMut.{put_mid}
use native.Mathlib.Nat.{mod-add-div, div-div-eq-div-mul}
use Rattle.std.proofs.lemmas.List.{drop_all, drop-replicate}
use Rattle.std.proofs.lemmas.Slice.{take-put_mid_below, drop-put_mid}
use Rattle.memory.specs.declared.width.Width.{Width}
use Rattle.memory.specs.Bounds.{length_words}
use Rattle.memory.specs.Bytes.{width_of, value, words, count_of, cells_of, rest_of}

-- ---- the number that bytes write

value_at : (l : List ℕ) (k : ℕ) → value (drop k l) ≡ get_or l k 0 + 256 * value (drop (suc k) l)
value_at [] zero = refl
value_at [] (suc k) = refl
value_at (x ∷ l) zero = refl
value_at (x ∷ l) (suc k) = value_at l k

pub value_eight : (l : List ℕ) → length l ≤ 8 → from_le_bytes w64 l ≡ value l
value_eight l h =
    let end : value (drop 8 l) ≡ 0 = ap value (drop_all 8 l h) in
    omega (arith, end, value_at l 0, value_at l 1, value_at l 2, value_at l 3, value_at l 4, value_at l 5, value_at l 6, value_at l 7)

value_zeros : (n : ℕ) → value (replicate n 0) ≡ 0
value_zeros zero = refl
value_zeros (suc n) = ap (λ r. 0 + 256 * r) (value_zeros n)

value_append : (xs ys : List ℕ) → value ys ≡ 0 → value (xs ++ ys) ≡ value xs
value_append [] ys e = e
value_append (x ∷ xs) ys e = ap (λ r. x + 256 * r) (value_append xs ys e)

-- eight bytes, of which the first n were copied
pub value_loaded : (n : ℕ) (bs : List ℕ) → n ≤ 8 → length bs ≡ n → from_le_bytes w64 (put_mid 0 n (replicate 8 0) bs) ≡ value bs
value_loaded n bs h l =
    let k : length (bs ++ drop n (replicate 8 0)) ≤ 8 = simp (length-append, length-drop) (omega arith) in
    value_eight (bs ++ drop n (replicate 8 0)) k ∙ value_append bs (drop n (replicate 8 0)) (ap value (drop-replicate n 8 0) ∙ value_zeros (8 - n))

-- the bytes of a number, low byte first
digits : ℕ → ℕ → List ℕ
digits zero v = []
digits (suc n) v = v % 256 ∷ digits n (v / 256)

take_digits : (n m v : ℕ) → n ≤ m → take n (digits m v) ≡ digits n v
unfolding digits
take_digits zero m v h = refl
take_digits (suc n) zero v h = absurd (omega arith)
take_digits (suc n) (suc m) v h = ap (λ r. v % 256 ∷ r) (take_digits n m (v / 256) (omega arith))

value_digits : (n v : ℕ) → v < 256 ^ n → value (digits n v) ≡ v
unfolding digits
value_digits zero v h = omega arith
value_digits (suc n) v h =
    let k : v < 256 ^ n * 256 = rw pow-suc at h in
    let l : v / 256 < 256 ^ n = (div-lt_iff_lt-mul {k = 256} {x = v} {y = 256 ^ n} (lit< tt)).1 k in
    ap (λ r. v % 256 + 256 * r) (value_digits n (v / 256) l) ∙ mod-add-div v 256

digits_eight : (v : ℕ) → to_le_bytes w64 v ≡ digits 8 v
unfolding digits
digits_eight v = simp div-div-eq-div-mul

pub value_stored : (n v : ℕ) → n ≤ 8 → v < 256 ^ n → value (take n (to_le_bytes w64 v)) ≡ v
value_stored n v h l = ap (λ r. value (take n r)) (digits_eight v) ∙ ap value (take_digits n 8 v h) ∙ value_digits n v l

-- ---- the row

pub get_or_words : (w n : ℕ) (bs : List ℕ) (k : ℕ) → k < n → value (take w (drop (k * w) bs)) ≡ get_or (words w n bs) k 0
get_or_words w zero bs k h = absurd (omega arith)
get_or_words w (suc n) bs zero h = rw zero-mul
get_or_words w (suc n) bs (suc k) h =
    let e : suc k * w ≡ w + k * w = suc-mul k w ∙ add_comm (k * w) w in
    ap (λ i. value (take w (drop i bs))) e ∙ ap (λ r. value (take w r)) (sym (drop-drop (k * w) w bs)) ∙ get_or_words w n (drop w bs) k (omega arith)

drop_later : (w a : ℕ) (bs new : List ℕ) → w ≤ length bs → drop w (put_mid (w + a) w bs new) ≡ put_mid a w (drop w bs) new
drop_later w a bs new h =
    let l : length (take w bs) ≡ w = simp length-take (omega arith) in
    ap (λ r. drop w (r ++ (new ++ drop w (drop (w + a) bs)))) (take-add w a bs)
    ∙ ap (drop w) (append_assoc (take w bs) (take a (drop w bs)) _)
    ∙ drop_at (take w bs) _ w l
    ∙ ap (λ r. take a (drop w bs) ++ (new ++ drop w r)) (sym (drop-drop a w bs))

pub set_words : (w n : ℕ) (bs new : List ℕ) (k : ℕ) → k < n → n * w ≤ length bs → length new ≡ w → words w n (put_mid (k * w) w bs new) ≡ set (words w n bs) k (value new)
set_words w zero bs new k h m l = absurd (omega arith)
set_words w (suc n) bs new zero h m l =
    rw zero-mul (
    ap (λ r. value r ∷ words w n (drop w (new ++ drop w bs))) (take_at new (drop w bs) w l) ∙ ap (λ r. value new ∷ words w n r) (drop_at new (drop w bs) w l))
set_words w (suc n) bs new (suc k) h m l =
    let e : suc k * w ≡ w + k * w = suc-mul k w ∙ add_comm (k * w) w in
    let f : suc n * w ≡ n * w + w = suc-mul n w in
    let g : k * w ≤ n * w = mul-le-mul_right w (omega arith) in
    let i : w ≤ length bs = omega arith in
    let d : n * w ≤ length (drop w bs) = simp length-drop (omega arith) in
    rw e (
    ap (λ r. value r ∷ words w n (drop w (put_mid (w + k * w) w bs new))) (take-put_mid_below (w + k * w) w bs new w (omega arith) (omega arith))
    ∙ ap (λ r. value (take w bs) ∷ words w n r) (drop_later w (k * w) bs new i)
    ∙ ap (λ r. value (take w bs) ∷ r) (set_words w n (drop w bs) new k (omega arith) d l))

-- ---- a memory over bytes

row_within : (width : Width) (bs : List ℕ) → count_of width bs * width_of width ≤ length bs
row_within width bs =
    let w = width_of width in
    let a : count_of width bs * w ≤ length bs / w * w = mul-le-mul_right w (omega arith) in
    omega (arith, a, div-mul-le_self (length bs) w)

cell_within : (width : Width) (bs : List ℕ) (cell : ℕ) → cell < count_of width bs → cell * width_of width + width_of width ≤ count_of width bs * width_of width
cell_within width bs cell h =
    let w = width_of width in
    let a : suc cell * w ≤ count_of width bs * w = mul-le-mul_right w (omega arith) in
    omega (arith, a, suc-mul cell w)

length_put_mid : (a k : ℕ) (bs new : List ℕ) → a + k ≤ length bs → length new ≡ k → length (put_mid a k bs new) ≡ length bs
length_put_mid a k bs new h l = simp (length-append, length-take, length-drop) (omega arith)

-- a cell of the row ends within the bytes
pub cell_bytes : (width : Width) (bs : List ℕ) (cell : ℕ) → cell < length (cells_of width bs) → cell * width_of width + width_of width ≤ length bs
cell_bytes width bs cell h = let k : cell < count_of width bs = rw length_words at h in omega (arith, cell_within width bs cell k, row_within width bs)

pub bytes_read :
    (width : Width) (bs : List ℕ) (cell start end : ℕ) → cell < length (cells_of width bs) → start ≡ cell * width_of width → end ≡ start + width_of width
    → value (take (end - start) (drop start bs)) ≡ get_or (cells_of width bs) cell 0
bytes_read width bs cell start end h s e =
    let k : cell < count_of width bs = rw length_words at h in
    let t : end - start ≡ width_of width = omega arith in
    rw (t, s) (get_or_words (width_of width) (count_of width bs) bs cell k)

-- the bytes after a cell's were replaced: the row, and what lies past it
module _ (width : Width) (bs new : List ℕ) (cell start end : ℕ) (h : cell < length (cells_of width bs)) (s : start ≡ cell * width_of width) (e : end ≡ start + width_of width) (l : length new ≡ end - start) where
  k : cell < count_of width bs
  k = rw length_words at h

  t : end - start ≡ width_of width
  t = omega arith

  count_kept : count_of width (put_mid start (end - start) bs new) ≡ count_of width bs
  count_kept =
      ap (λ i. min 65536 (i / width_of width)) (length_put_mid start (end - start) bs new (omega (arith, cell_bytes width bs cell h)) l)

  pub bytes_write_row : (word : ℕ) → value new ≡ word → cells_of width (put_mid start (end - start) bs new) ≡ set (cells_of width bs) cell word
  bytes_write_row word v = rw count_kept (rw (t, s) (set_words (width_of width) (count_of width bs) bs new cell k (row_within width bs) (l ∙ t) ∙ ap (set (cells_of width bs) cell) v))

  pub bytes_write_rest : rest_of width (put_mid start (end - start) bs new) ≡ rest_of width bs
  bytes_write_rest = rw count_kept (rw (t, s) (drop-put_mid (cell * width_of width) (width_of width) bs new (count_of width bs * width_of width) (cell_within width bs cell k) (omega (arith, cell_within width bs cell k, row_within width bs)) (l ∙ t)))
