-- The entries after a change, one by one.
use Rattle.std.proofs.Common.{◌≡◌, ℕ, ◌+◌, ◌-◌, ◌<◌, ◌≤◌, List, Some, length, get_or, set, sym, ◌∙◌, arith, length-set, get_or-set_other, get_or-set_same}
use Rattle.std.proofs.lemmas.List.Edits.{length-insert, get_or-insert_below, get_or-insert_at, get_or-insert_above}
use Rattle.rules.specs.declared.seat.Entry.{Entry}
use Rattle.rules.specs.Nodes.{entry}
use Rattle.node.specs.Changes.{changed}
use Rattle.node.specs.declared.change.Change.TheVariants.{Insert, Divide}

module _ (es : List Entry) (at : ℕ) (e : Entry) (h : at ≤ length es) where
  pub insert_long : length es + 1 ≡ length (changed (Some (Insert at e)) es)
  insert_long = sym (length-insert es at e h)

  pub insert_below : (i : ℕ) → i < at → get_or es i (entry 0 0) ≡ get_or (changed (Some (Insert at e)) es) i (entry 0 0)
  insert_below i l = sym (get_or-insert_below es at e (entry 0 0) i l h)

  pub insert_here : (i : ℕ) → i ≡ at → e ≡ get_or (changed (Some (Insert at e)) es) i (entry 0 0)
  insert_here i p = rw p (sym (get_or-insert_at es at e (entry 0 0) h))

  pub insert_above : (i : ℕ) → at < i → get_or es (i - 1) (entry 0 0) ≡ get_or (changed (Some (Insert at e)) es) i (entry 0 0)
  insert_above i l =
      let p : i - 1 + 1 ≡ i = omega arith in
      let x = get_or-insert_above es at e (entry 0 0) (i - 1) (omega arith) h in
      sym (rw p at x)

module _ (es : List Entry) (at m d : ℕ) (h : at < length es) where
  given : List Entry
  given = set es at (entry (get_or es at (entry 0 0)).key d)

  inside : at ≤ length given
  unfolding given
  inside = rw length-set (omega arith)

  pub divide_long : length es + 1 ≡ length (changed (Some (Divide at m d)) es)
  unfolding given
  divide_long = sym (length-insert given at _ inside ∙ rw length-set)

  pub divide_below : (i : ℕ) → i < at → get_or es i (entry 0 0) ≡ get_or (changed (Some (Divide at m d)) es) i (entry 0 0)
  unfolding given
  divide_below i l = sym (get_or-insert_below given at _ (entry 0 0) i l inside ∙ get_or-set_other es at i _ (entry 0 0) (omega arith))

  pub divide_here : (i : ℕ) → i ≡ at → entry m (get_or es at (entry 0 0)).value ≡ get_or (changed (Some (Divide at m d)) es) i (entry 0 0)
  unfolding given
  divide_here i p = rw p (sym (get_or-insert_at given at _ (entry 0 0) inside))

  pub divide_next : (i : ℕ) → i ≡ at + 1 → entry (get_or es at (entry 0 0)).key d ≡ get_or (changed (Some (Divide at m d)) es) i (entry 0 0)
  unfolding given
  divide_next i p = rw p (sym (get_or-insert_above given at _ (entry 0 0) at (omega arith) inside ∙ get_or-set_same es at _ (entry 0 0) (omega arith)))

  pub divide_above : (i : ℕ) → at + 1 < i → get_or es (i - 1) (entry 0 0) ≡ get_or (changed (Some (Divide at m d)) es) i (entry 0 0)
  unfolding given
  divide_above i l =
      let p : i - 1 + 1 ≡ i = omega arith in
      let x = get_or-insert_above given at (entry m (get_or es at (entry 0 0)).value) (entry 0 0) (i - 1) (omega arith) inside in
      sym (rw p at x ∙ get_or-set_other es at (i - 1) _ (entry 0 0) (omega arith))
