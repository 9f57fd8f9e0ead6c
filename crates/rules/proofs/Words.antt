-- The words of a node and its content in the tree: words that encode a content, a copy that shows it, and the words that a fill writes.
use Rattle.std.proofs.Common.{◌≡◌, ℕ, suc, ◌+◌, ◌-◌, ◌*◌, ◌/◌, ◌<◌, ◌≤◌, Bool, List, [], ◌∷◌, length, get_or, take, drop, sym, refl, ap, ◌∙◌, arith, length-drop, get_or-drop}
use Rattle.std.proofs.lemmas.Bool.Decides.{nat_tests}
use Rattle.std.proofs.lemmas.List.{length-map}
use Rattle.tree.specs.Node as N
use Rattle.rules.specs.Nodes.{entry, level, size, link, high, paired, entries, covers, word_of, node_word}
use Rattle.rules.specs.declared.seat.Entry.{Entry}
use Rattle.rules.proofs.Entries.{get_or_row, as_entry, row}

pub record Encodes (w : ℕ → ℕ) (y : N.Node) : Type 0 where
  pub level_is : w 1 ≡ y.level
  pub size_is : w 2 ≡ length y.entries
  pub few : length y.entries ≤ 13
  pub link_is : w 3 ≡ y.link
  pub high_is : w 4 ≡ y.high
  pub each : (j i : ℕ) → i ≡ 2 * j → j < length y.entries → N.entry (w (6 + i)) (w (7 + i)) ≡ get_or y.entries j (N.entry 0 0)

pub encodes_same : (w u : ℕ → ℕ) (y : N.Node) → ((i : ℕ) → 0 < i → i < 32 → u i ≡ w i) → Encodes w y → Encodes u y
encodes_same w u y same e = grind arith

pairs : (ws : List ℕ) (es : List N.Entry) → 2 * length es ≤ length ws
    → ((j i : ℕ) → i ≡ 2 * j → j < length es → N.entry (get_or ws i 0) (get_or ws (suc i) 0) ≡ get_or es j (N.entry 0 0)) → row (take (length es) (paired ws)) ≡ es
pairs ws [] b h = refl
pairs [] (e ∷ es) b h = absurd (omega arith)
pairs (k ∷ []) (e ∷ es) b h = absurd (omega arith)
pairs (k ∷ (v ∷ ws)) (e ∷ es) b h =
    let first : N.entry k v ≡ e = h 0 0 refl (omega arith) in
    let rest = pairs ws es (omega arith) (λ j i z c. h (suc j) (suc (suc i)) (omega arith) (omega arith)) in
    cc

-- what a copy of these words shows
pub record Shows (ws : List ℕ) (y : N.Node) : Type 0 where
  pub level_is : level ws ≡ y.level
  pub link_is : link ws ≡ y.link
  pub high_is : high ws ≡ y.high
  pub row_is : row (entries ws) ≡ y.entries

pub covers_shown : (before : ℕ → ℕ → Bool) (ws : List ℕ) (y : N.Node) (k : ℕ) → Shows ws y → covers before ws k ≡ N.covers before y k
covers_shown before ws y k e = rw (e.link_is, e.high_is) refl

pub shows : (ws : List ℕ) (y : N.Node) → length ws ≡ 32 → Encodes (λ i. get_or ws i 0) y → Shows ws y
shows ws y l e =
    let n : size ws ≡ length y.entries = omega (arith, e.few, e.size_is) in
    record {
      level_is = e.level_is;
      link_is = e.link_is;
      high_is = e.high_is;
      row_is = rw n (pairs (drop 6 ws) y.entries (rw length-drop (omega (arith, e.few)))
          (λ j i z b.
          let p = get_or-drop 6 ws i 0 in
          let q : get_or (drop 6 ws) (suc i) 0 ≡ get_or ws (7 + i) 0 = get_or-drop 6 ws (suc i) 0 ∙ ap (λ (z : ℕ). get_or ws z 0) (omega arith) in
          rw (p, q) (e.each j i z b)));
    }

word_key : (l n a h : ℕ) (e : Entry) (i j : ℕ) → i ≡ 2 * j → word_of l n a h e (6 + i) ≡ e.key
word_key l n a h e i j z = grind (arith, nat_tests)

word_value : (l n a h : ℕ) (e : Entry) (i j : ℕ) → i ≡ 2 * j → word_of l n a h e (7 + i) ≡ e.value
word_value l n a h e i j z = grind (arith, nat_tests)

pub encodes : (l a h : ℕ) (es : List Entry) → length es ≤ 13 → Encodes (node_word l a h es) (record { level = l; link = a; high = h; entries = row es })
encodes l a h es b =
    record {
      level_is = refl;
      size_is = sym (length-map es as_entry);
      few = rw length-map b;
      link_is = refl;
      high_is = refl;
      each = λ j i z c.
          let p : (6 + i - 6) / 2 ≡ j = omega arith in
          let q : (7 + i - 6) / 2 ≡ j = omega arith in
          rw (p, q, word_key l (length es) a h (get_or es j (entry 0 0)) i j z, word_value l (length es) a h (get_or es j (entry 0 0)) i j z) (sym (get_or_row es j));
    }

pub encodes_as : (l a h : ℕ) (es : List Entry) (y : N.Node) → length es ≤ 13 → l ≡ y.level → a ≡ y.link → h ≡ y.high → row es ≡ y.entries → Encodes (node_word l a h es) y
encodes_as l a h es y b p q r t =
    let e = encodes l a h es b in
    record {
      level_is = p;
      size_is = e.size_is ∙ ap length t;
      few = rw (sym t) e.few;
      link_is = q;
      high_is = r;
      each = λ j i z c. e.each j i z (rw t c) ∙ ap (λ l. get_or l j (N.entry 0 0)) t;
    }
