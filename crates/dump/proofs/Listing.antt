-- The words of a node, and its text piece by piece.
use Rattle.std.proofs.Common.{◌≡◌, ℕ, zero, suc, ◌+◌, ◌-◌, ◌*◌, ◌<◌, ◌≤◌, List, [], ◌++◌, map, length, get_or, drop, codes, decimal, sym, ap, subst, ◌∙◌, append_assoc, arith}
use Rattle.std.proofs.lemmas.List.Edits.{length-between}
use Rattle.std.proofs.lemmas.List.{drop_more, length-map, get_or-map, get_or-take, get_or-drop}
use Rattle.std.specs.Array.{IsFromFnResultFrom}
use Rattle.std.specs.Fn.{Called}
use denote.Param.Members.{Mut}
use Rattle.rules.specs.declared.seat.Entry.{Entry}
use Rattle.rules.specs.Nodes.{entry}
use Rattle.node.specs.Values.{pair}
use Rattle.dump.specs.Nodes.{node_words, entries_text, node_text, nodes_text}

-- what calls at the numbers from i on gave, where each gives v of its number and changes nothing
module _ {F B : Type 0} (g : Mut F (ℕ × Unit {0}) B) (f : F) (v : ℕ → B) (always : (i : ℕ) (y : B) (q : F) → Called g f (i, tt) y q → (q ≡ f) × (y ≡ v i)) where
  pub made_by : (n i : ℕ) (p : F) (ys : List B) → p ≡ f → IsFromFnResultFrom g p ys i n → (k j : ℕ) (d : B) → k < n → i + k ≡ j → get_or ys j d ≡ v j
  made_by zero i p ys e h k j d below at = absurd (omega arith)
  made_by (suc n) i p ys e h zero j d below at =
      let here = always i h.1 h.0 (subst (λ x. Called g x (i, tt) h.1 h.0) e h.3) in
      let same : i ≡ j = omega arith in
      subst (λ m. get_or ys m d ≡ v m) same (h.2.1 d ∙ here.1)
  made_by (suc n) i p ys e h (suc k) j d below at =
      let here = always i h.1 h.0 (subst (λ x. Called g x (i, tt) h.1 h.0) e h.3) in
      made_by n (i + 1) h.0 ys here.0 h.4 k j d (omega arith) (omega arith)

module _ (cells : List ℕ) (n : ℕ) (inside : 32 * n + 32 ≤ length cells) where
  pub node_length : length (node_words n cells) ≡ 32
  node_length = length-between cells (32 * n) (32 * n + 32) inside ∙ omega arith

  pub node_word : (i : ℕ) → i < 32 → get_or (node_words n cells) i 0 ≡ get_or cells (32 * n + i) 0
  node_word i h =
      let k : i < 32 * n + 32 - 32 * n = omega arith in
      get_or-take (32 * n + 32 - 32 * n) (drop (32 * n) cells) i 0 k ∙ get_or-drop (32 * n) cells i 0

apart : (k v rest : List ℕ) → codes " (" ++ (k ++ (codes ", " ++ (v ++ (codes ")" ++ rest)))) ≡ (codes " (" ++ (k ++ (codes ", " ++ (v ++ codes ")")))) ++ rest
apart k v rest = simp append_assoc

entry_first : (es : List Entry) (e : Entry) (i : ℕ) → i < length es → e ≡ get_or es i (entry 0 0) →
    entries_text (drop i es) ≡ (codes " (" ++ (decimal e.key ++ (codes ", " ++ (decimal e.value ++ codes ")")))) ++ entries_text (drop (i + 1) es)
entry_first es e i below is = rw is (ap entries_text (drop_more es i (entry 0 0) below) ∙ apart (decimal (get_or es i (entry 0 0)).key) (decimal (get_or es i (entry 0 0)).value) (entries_text (drop (i + 1) es)))

-- the first of the entries from i on, which the pairs of words make
pub entries_first : (pairs : List (List ℕ)) (es : List Entry) (i : ℕ) → map pair pairs ≡ es → i < length pairs →
    entries_text (drop i es) ≡ (codes " (" ++ (decimal (get_or (get_or pairs i []) 0 0) ++ (codes ", " ++ (decimal (get_or (get_or pairs i []) 1 0) ++ codes ")")))) ++ entries_text (drop (i + 1) es)
entries_first pairs es i same below =
    let long : length es ≡ length pairs = sym (ap length same) ∙ length-map pairs pair in
    entry_first es (pair (get_or pairs i [])) i (omega arith) (sym (ap (λ l. get_or l i (entry 0 0)) (sym same) ∙ get_or-map pair pairs i [] (entry 0 0) below))

pub nodes_first : (cells ws : List ℕ) (n count : ℕ) → n < count → ws ≡ node_words n cells →
    nodes_text n (count - n) cells ≡ node_text n ws ++ nodes_text (n + 1) (count - (n + 1)) cells
nodes_first cells ws n count below w =
    let more : count - n ≡ suc (count - (n + 1)) = omega arith in
    rw (w, more)
