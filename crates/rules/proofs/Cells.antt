-- Cells seen as nodes of 32 words: what a write leaves in each. After this file nothing mentions 32 * n + i.
use Rattle.std.proofs.Common.{◌≡◌, ℕ, ◌+◌, ◌*◌, ◌<◌, ◌≢◌, List, length, get_or, set, refl, arith}
use Rattle.std.proofs.lemmas.List.{get_or-set_same, get_or-set_other, length-set}

unfoldable pub word : List ℕ → ℕ → ℕ → ℕ
word m n i = get_or m (32 * n + i) 0

unfoldable pub put : List ℕ → ℕ → ℕ → ℕ → List ℕ
put m n i v = set m (32 * n + i) v

abbrev pub lock : List ℕ → ℕ → ℕ
lock m n = word m n 0

pub word_is : (m : List ℕ) (n i : ℕ) → get_or m (32 * n + i) 0 ≡ word m n i
unfolding word
word_is m n i = refl

pub put_is : (m : List ℕ) (n i v : ℕ) → set m (32 * n + i) v ≡ put m n i v
unfolding put
put_is m n i v = refl

pub word_put : (m : List ℕ) (n i v : ℕ) → 32 * n + i < length m → word (put m n i v) n i ≡ v
unfolding word put
word_put m n i v h = get_or-set_same m (32 * n + i) v 0 h

pub word_put_word : (m : List ℕ) (n i k v : ℕ) → k ≢ i → word (put m n i v) n k ≡ word m n k
unfolding word put
word_put_word m n i k v h = get_or-set_other m (32 * n + i) (32 * n + k) v 0 (omega arith)

pub word_put_node : (m : List ℕ) (n i q k v : ℕ) → q ≢ n → i < 32 → k < 32 → word (put m n i v) q k ≡ word m q k
unfolding word put
word_put_node m n i q k v h hi hk = get_or-set_other m (32 * n + i) (32 * q + k) v 0 (omega arith)

pub length_put : (m : List ℕ) (n i v : ℕ) → length (put m n i v) ≡ length m
unfolding put
length_put m n i v = length-set m (32 * n + i) v
