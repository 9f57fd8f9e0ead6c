-- Each kind of memory keeps the bounds.
use Rattle.std.specs.Prelude.{◌≡◌, ℕ, zero, suc, ◌/◌, ◌^◌, ◌<◌, ◌≤◌, min, List, ◌++◌, length, drop, refl}
use Rattle.std.proofs.Common.{arith, ap, length-take, lit<, lit≤}
use Rattle.std.proofs.Math.Nat.{min-le_left}
use Rattle.memory.specs.declared.width.Width.{Width}
use Rattle.memory.specs.declared.width.Width.TheVariants.{Two, Four, Eight}
use Rattle.memory.specs.Meaning.{Bounded}
use Rattle.memory.specs.Row.{front}
use Rattle.memory.specs.Bytes.{words, cells_of, width_of, top_of}

pub bounded_words : (words : List ℕ) → Bounded (front words) 18446744073709551615
unfolding front
bounded_words words = record { short = simp length-take (min-le_left 65536 (length words)); tall = lit≤ tt; wide = lit< tt }

pub bounded_joined : (a b : List ℕ) (s t : ℕ) → Bounded a s → Bounded b t → Bounded (front (a ++ b)) (min s t)
unfolding front
bounded_joined a b s t p q = record { short = simp length-take (min-le_left 65536 (length (a ++ b))); tall = omega arith; wide = omega arith }

pub length_words : (w n : ℕ) (bs : List ℕ) → length (words w n bs) ≡ n
length_words w zero bs = refl
length_words w (suc n) bs = ap suc (length_words w n (drop w bs))

tall_width : (width : Width) → 65535 ≤ top_of width
tall_width Two = lit≤ tt
tall_width Four = lit≤ tt
tall_width Eight = lit≤ tt

wide_width : (width : Width) → top_of width < 2 ^ 64
wide_width Two = lit< tt
wide_width Four = lit< tt
wide_width Eight = lit< tt

pub bounded_bytes : (width : Width) (bs : List ℕ) → Bounded (cells_of width bs) (top_of width)
bounded_bytes width bs = record { short = rw length_words (min-le_left 65536 (length bs / width_of width)); tall = tall_width width; wide = wide_width width }
