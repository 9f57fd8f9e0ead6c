-- A label by its eight bytes.
use Rattle.std.proofs.Common.{◌≡◌, ℕ, zero, suc, ◌+◌, ◌^◌, ◌/◌, ◌<◌, true, List, [], ◌∷◌, length, get_or, ◌≢◌, ◌⊎◌, ◌∙◌, sym, inl, inr, refl, arith, eqb-true, nat_lt, lt-ltb, le-ltb, eq-eqb, ne_eqb, ap, lit<, ◌*◌, ◌==◌}
use Rattle.std.specs.Int.{w64, to_le_bytes, swap_bytes}
use Rattle.std.proofs.lemmas.Bool.{cases_Bool, cases_order}
use Rattle.std.proofs.lemmas.Bool.Decides.{nat_tests}
use Rattle.std.proofs.lemmas.Nat.{shr-shr}
use native.Mathlib.Nat.{div-one, div-div-eq-div-mul, pow-suc, div-lt_iff_lt-mul, mul-le-mul_right, suc-mul}
use Rattle.order.specs.Lexical.{lexical_rest, lexical_less}
use Rattle.order.specs.Label.{letter, rest, spells, leads, label_key, label_before}

-- the number that n letters write, the first one highest
weigh : ℕ → ℕ → ℕ
weigh zero a = 0
weigh (suc n) a = letter a * 256 ^ n + weigh n (rest a)

weigh_below : (n a : ℕ) → weigh n a < 256 ^ n
unfolding weigh
weigh_below zero a = lit< tt
weigh_below (suc n) a = omega (arith, mul-le-mul_right {m = letter a} {n = 255} (256 ^ n) (omega arith), weigh_below n (rest a), pow-suc 256 n)

lt_added : (k u v : ℕ) → nat_lt u v ≡ nat_lt (k + u) (k + v)
lt_added k u v = grind (arith, nat_tests)

lower : (n x y u v : ℕ) → x < y → u < 256 ^ n → x * 256 ^ n + u < y * 256 ^ n + v
lower n x y u v h l = omega (arith, suc-mul x (256 ^ n), mul-le-mul_right {m = suc x} {n = y} (256 ^ n) h)

leads_weigh : (n a b : ℕ) → leads n a b ≡ nat_lt (weigh n a) (weigh n b)
unfolding weigh
leads_weigh zero a b = refl
leads_weigh (suc n) a b =
    let u = weigh n (rest a) in
    let v = weigh n (rest b) in
    elim (cases_order (letter a) (letter b)) [
      | inl e ↦ rw e (lexical_rest (letter b) (letter b) _ refl ∙ leads_weigh n (rest a) (rest b) ∙ lt_added (letter b * 256 ^ n) u v)
      | inr d ↦ elim d [
        | inl h ↦ lexical_less (letter a) (letter b) _ h ∙ sym (lt-ltb (letter a * 256 ^ n + u) (letter b * 256 ^ n + v) (lower n (letter a) (letter b) u v h (weigh_below n (rest a))))
        | inr h ↦ (let l = lower n (letter b) (letter a) v u h (weigh_below n (rest b)) in
            rw (ne_eqb (letter a) (letter b) (λ e. omega (arith, e)), le-ltb (letter a) (letter b) (omega arith)) (sym (le-ltb (letter a * 256 ^ n + u) (letter b * 256 ^ n + v) (omega arith))))
      ]
    ]

swapped : (a : ℕ) → swap_bytes w64 a ≡ weigh 8 a
unfolding weigh
swapped a = simp div-div-eq-div-mul (omega arith)

pub leads_swapped : (a b x y : ℕ) → x ≡ swap_bytes w64 a → y ≡ swap_bytes w64 b → nat_lt x y ≡ label_before a b
leads_swapped a b x y e f = rw (e ∙ swapped a, f ∙ swapped b) (sym (leads_weigh 8 a b))

-- the letter at place k
at : ℕ → ℕ → ℕ
at zero a = letter a
at (suc k) a = at k (rest a)

letters : ℕ → ℕ → List ℕ
letters zero a = []
letters (suc n) a = letter a ∷ letters n (rest a)

letters_bytes : (a : ℕ) → to_le_bytes w64 a ≡ letters 8 a
unfolding letters
letters_bytes a = simp div-div-eq-div-mul

get_or_letters : (n a k d : ℕ) → k < n → get_or (letters n a) k d ≡ at k a
unfolding at letters
get_or_letters zero a k d h = absurd (omega arith)
get_or_letters (suc n) a zero d h = refl
get_or_letters (suc n) a (suc k) d h = get_or_letters n (rest a) k d (omega arith)

shorter : (n a : ℕ) → a < 256 ^ suc n → rest a < 256 ^ n
shorter n a h = let k : a < 256 ^ n * 256 = rw pow-suc at h in (div-lt_iff_lt-mul {k = 256} {x = a} {y = 256 ^ n} (lit< tt)).1 k

-- a number below 256 ^ n is n letters, or one of them is 0
full : (n a : ℕ) → a < 256 ^ n → (spells n a ≡ true) ⊎ ((k : ℕ) × (k < n) × (at k a ≡ 0))
unfolding at
full zero a h = inl (eq-eqb a 0 (omega arith))
full (suc n) a h =
    elim (cases_Bool (letter a == 0)) [
      | inl e ↦ inr (0, omega arith, eqb-true (letter a) 0 e)
      | inr e ↦ elim (full n (rest a) (shorter n a h)) [ inl s ↦ inl (rw e s) | inr z ↦ inr (suc z.0, omega arith, z.2) ]
    ]

-- only zeros follow the first zero letter
ended : (n a k : ℕ) → k < n → at k a ≡ 0 → ((j : ℕ) → j < k → at j a ≢ 0) → spells n a ≡ (a / 2 ^ (8 * k) == 0)
unfolding at
ended zero a k h e f = absurd (omega arith)
ended (suc n) a zero h e f = rw (eq-eqb (letter a) 0 e) (ap (λ q. q == 0) (sym (div-one a)))
ended (suc n) a (suc k) h e f =
    let i : 8 * suc k ≡ 8 + 8 * k = omega arith in
    rw (ne_eqb (letter a) 0 (f 0 (omega arith)), i, ← shr-shr a 8 (8 * k)) (ended n (rest a) k (omega arith) e (λ j l. f (suc j) (omega arith)))

byte_at : (a : ℕ) (xs : List ℕ) → xs ≡ to_le_bytes w64 a → (k : ℕ) → k < 8 → get_or xs k 0 ≡ at k a
byte_at a xs e k h = ap (λ r. get_or r k 0) (e ∙ letters_bytes a) ∙ get_or_letters 8 a k 0 h

-- the length comes first, since `grind` takes a lemma at the first call of its conclusion
pub full_bytes : (a : ℕ) (xs : List ℕ) → a < 2 ^ 64 → xs ≡ to_le_bytes w64 a → (length xs ≡ 8) × ((label_key a ≡ true) ⊎ ((k : ℕ) × (k < 8) × (get_or xs k 0 ≡ 0)))
full_bytes a xs h e = (ap length e, elim (full 8 a h) [ inl s ↦ inl s | inr z ↦ inr (z.0, z.1, byte_at a xs e z.0 z.1 ∙ z.2) ])

pub ended_bytes : (a k : ℕ) (xs : List ℕ) → xs ≡ to_le_bytes w64 a → k < 8 → get_or xs k 0 ≡ 0 → ((j : ℕ) → j < k → get_or xs j 0 ≢ 0) → (a / 2 ^ (8 * k) == 0) ≡ label_key a
ended_bytes a k xs e h z f = sym (ended 8 a k h (sym (byte_at a xs e k h) ∙ z) (λ j l i. f j l (byte_at a xs e j (omega arith) ∙ i)))
