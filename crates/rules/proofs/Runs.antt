-- Every run is lawful: a newly formatted index has the invariant, and every call keeps it.
use Rattle.std.proofs.Common.{◌≡◌, ℕ, zero, suc, ◌*◌, ◌%◌, ◌^◌, ◌<◌, ◌≤◌, Bool, true, false, cond, ◌&&◌, ◌||◌, eqb, ltb, List, [], ◌∷◌, length, get_or, replicate, None, Ok, Err, Option, Result, sym, refl, ap, ◌∙◌, subst, inl, inr, ⊎_elim, arith}
use Rattle.std.proofs.lemmas.List.{get_or-set_same, get_or-set_other, length-set, get_or-replicate, get_or_past}
use Rattle.std.proofs.lemmas.Bool.{cases_eq, cases_lt, cond_both, cond-false, ne_eqb, ltb-false, lt-ltb, or_parts, and_from}
use Rattle.std.proofs.lemmas.Option.{none-some}
use Rattle.memory.specs.Meaning.{Bounded}
use Rattle.tree.specs.Node as N
use Rattle.tree.specs.Tree as T
use Rattle.tree.proofs.Stands.{tree_stands}
use Rattle.tree.proofs.Ranks.{lawful_has_ranks}
use Rattle.rules.specs.Seats.{idle}
use Rattle.rules.specs.State.{State, zeroed, seat_at}
use Rattle.rules.specs.Calls.{format}
use Rattle.rules.specs.Histories.{Call, act, History}
use Rattle.rules.specs.PlainMap.{empty_map, plain_map}
use Rattle.rules.specs.Laws.{Lawful}
use Rattle.rules.specs.Runs.{Reached, formatted, more, RunsLawful}
use Rattle.order.specs.Laws.{Ordered}
use Rattle.rules.specs.declared.seat.Phase.{Phase}
use Rattle.rules.specs.declared.seat.Phase.TheVariants as phase
use Rattle.rules.specs.declared.refusal.Refusal.{Refusal}
use Rattle.rules.specs.declared.report.Report.{Report}
use Rattle.rules.specs.declared.report.Report.TheVariants.{GoneOn}
use Rattle.rules.specs.declared.seat.Seat.{Seat}
use Rattle.rules.proofs.Cells.{word, lock}
use Rattle.rules.proofs.Inv.{Setting, World, Linked, Open, holding_in, owed_in, MineIn, SeatIn, Coded, Inv}
use Rattle.rules.proofs.Good.{tells_same}
use Rattle.rules.proofs.Calls.{norm, world, Kept, act_kept}

length_zeroed : (n : ℕ) (cs : List ℕ) → length (zeroed n cs) ≡ length cs
length_zeroed zero cs = refl
length_zeroed (suc n) cs = length-set (zeroed n cs) n 0 ∙ length_zeroed n cs

zeroed_at : (n i : ℕ) (cs : List ℕ) → i < n → n ≤ length cs → get_or (zeroed n cs) i 0 ≡ 0
zeroed_at zero i cs a b = absurd (omega arith)
zeroed_at (suc n) i cs a b = grind (arith, length_zeroed n cs, zeroed_at n i cs, get_or-set_same (zeroed n cs) n 0 0, get_or-set_other (zeroed n cs) n i 0 0)

word_zeroed : (i : ℕ) (cs : List ℕ) → i < 32 → 32 ≤ length cs → word (zeroed 32 cs) 0 i ≡ 0
unfolding word
word_zeroed i cs a b = ap (λ (j : ℕ). get_or (zeroed 32 cs) j 0) (omega arith) ∙ zeroed_at 32 i cs a b

-- what holds of a state and its history
pub record Sound (m₀ : ℕ → Option ℕ) (h : History) (t : State) : Type 0 where
  pub setting : Setting
  pub starts : setting.start ≡ m₀
  pub keyed : (k : ℕ) → t.iskey k ≡ true → k ≤ setting.top → T.Key setting.order k
  pub words : ℕ → ℕ → ℕ
  pub tree : ℕ → T.Place
  pub is : t ≡ norm setting t.iskey t.cells t.count t.seats
  pub inv : Inv setting (world t.cells t.count words tree) (seat_at t.seats) h
  pub eight : length t.seats ≡ 8
  pub lawful : Lawful setting.start h

abbrev empty : N.Node
empty = record { level = 0; link = 0; high = 0; entries = [] }

module _ (o : T.Order) where
  abbrev new_tree : ℕ → T.Place
  new_tree q = cond (eqb q 0) (T.held empty 0 o.room) T.free

  new : T.Formatted o new_tree
  new = record { now = refl; same = λ q d. cond-false (eqb q 0) _ _ (ne_eqb q 0 d) }

all_idle : (s : ℕ) → (seat_at (replicate 8 idle) s).phase ≡ phase.Idle
all_idle s = ⊎_elim (λ b. ap (λ (x : Seat). x.phase) (get_or-replicate 8 s idle _ b)) (λ b. ap (λ (x : Seat). x.phase) (get_or_past (replicate 8 idle) s _ b)) (cases_lt s 8)

all_long : (s : ℕ) → s < 8 → length (seat_at (replicate 8 idle) s).copy ≡ 32
all_long s b = ap (λ (x : Seat). length x.copy) (get_or-replicate 8 s idle _ b)

-- where every seat is idle and no node is latched, a sound tree with these words is enough
module _ (σ : Setting) (W : World) where
  no_mine : (s q : ℕ) → MineIn σ.fan (seat_at (replicate 8 idle) s).phase (seat_at (replicate 8 idle) s) q → ⊥
  no_mine s q z = subst (λ (p : Phase). MineIn σ.fan p (seat_at (replicate 8 idle) s) q) (all_idle s) z

  none_owed : (s : ℕ) → owed_in (seat_at (replicate 8 idle) s).phase (seat_at (replicate 8 idle) s).operation ≡ None
  none_owed s = ap (λ (p : Phase). owed_in p (seat_at (replicate 8 idle) s).operation) (all_idle s)

  pub idle_inv : 32 * W.count ≤ length W.cells → ((q : ℕ) → Open W q → q < W.count) → ((q : ℕ) → Open W q → lock W.cells q % 2 ≡ 0)
      → ((q : ℕ) → Open W q → (i : ℕ) → 0 < i → i < 32 → word W.cells q i ≡ W.words q i)
      → T.Sound σ.order W.tree → ((q : ℕ) → Coded σ W (W.words q) (W.tree q)) → T.Answers σ.order W.tree (plain_map σ.start [])
      → Inv σ W (seat_at (replicate 8 idle)) []
  idle_inv room below even same sound coded answers =
      record {
        nodes = record { room = room; below = below; latched = λ q z l. absurd (omega (arith, even q z)); same = λ q z _. same q z; sound = sound; coded = coded; answers = answers };
        seats = λ s. subst (λ (p : Phase). SeatIn σ W [] s p (seat_at (replicate 8 idle) s)) (sym (all_idle s)) tt;
        held_by = λ s. sym (ap (λ (p : Phase). holding_in p (seat_at (replicate 8 idle) s).node) (all_idle s));
        apart = λ s t d q a b. no_mine s q a;
        owes = λ s t d q a b. none-some q (sym (none_owed s) ∙ a);
        sizes = all_long;
      }

module _ (σ : Setting) (cs : List ℕ) (room : 32 ≤ length cs) where
  abbrev W : World
  W = world (zeroed 32 cs) 1 (λ q i. word (zeroed 32 cs) q i) (new_tree σ.order)

  only_root : (q : ℕ) → Linked (new_tree σ.order q) → q ≡ 0
  only_root q z = elim (cases_eq q 0) [ inl e ↦ e | inr d ↦ absurd (rw ((new σ.order).same q d) at z) ]

  zero_word : (i : ℕ) → i < 32 → word (zeroed 32 cs) 0 i ≡ 0
  zero_word i b = word_zeroed i cs b room

  coded_new : (q : ℕ) → Coded σ W (λ i. word (zeroed 32 cs) q i) (new_tree σ.order q)
  coded_new zero = (
    record {
      level_is = zero_word 1 (omega arith);
      size_is = zero_word 2 (omega arith);
      few = omega arith;
      link_is = zero_word 3 (omega arith);
      high_is = zero_word 4 (omega arith);
      each = λ j i z b. absurd (omega arith);
    },
    omega arith,
  )
  coded_new (suc q) = subst (λ (p : T.Place). Coded σ W (λ i. word (zeroed 32 cs) (suc q) i) p) (sym ((new σ.order).same (suc q) (λ z. omega arith))) tt

  new_inv : ((k : ℕ) → σ.start k ≡ None) → Inv σ W (seat_at (replicate 8 idle)) []
  new_inv none =
      let fs = (tree_stands σ.order).formatted (new_tree σ.order) (new σ.order) in
      idle_inv σ W (omega (arith, length_zeroed 32 cs)) (λ q z. omega (arith, only_root q z))
      (λ q z. let q0 = only_root q z in omega (arith, zero_word 0 (omega arith), ap (lock (zeroed 32 cs)) q0))
      (λ q z i a b. refl) fs.0 coded_new
      (λ n k c. tells_same σ.order (λ _. None) (plain_map σ.start []) k (new_tree σ.order n) (none k) (fs.1 n k c))

sound_start : (st : State) (fan : ℕ) → Bounded st.cells st.top → Ordered st.iskey st.before → (format st fan).0 ≡ Ok (GoneOn 0) → Sound empty_map [] (format st fan).1
sound_start st fan bounds laws =
    cond_both (eqb st.fan 0) _ _ P
    (λ _. cond_both (ltb fan 3 || ltb 13 fan) _ _ P (λ _ e. no_err _ e)
    (λ b. cond_both (ltb (length st.cells) 32) _ _ P (λ _ e. no_err _ e) (λ c _. begins b c)))
    (λ _ e. no_err _ e)
  where
    P : Result Report Refusal × State → Type 0
    P z = z.0 ≡ Ok (GoneOn 0) → Sound empty_map [] z.1

    no_err : {A : Type 0} (r : Refusal) → Err r ≡ Ok (GoneOn 0) → A
    no_err r e = cc

    ranks : (o : T.Order) × (o.before ≡ st.before) × ((k : ℕ) → o.is_key k ≡ (st.iskey k && ltb k (2 ^ 64)))
    ranks = lawful_has_ranks (2 ^ 64) st.iskey st.before laws

    begins : (ltb fan 3 || ltb 13 fan) ≡ false → ltb (length st.cells) 32 ≡ false
        → Sound empty_map [] (record { cells = zeroed 32 st.cells; top = st.top; iskey = st.iskey; before = st.before; fan = fan; count = 1; seats = replicate 8 idle })
    begins b c =
        let p = or_parts (ltb fan 3) (ltb 13 fan) b in
        let σ : Setting = record { order = ranks.0; top = st.top; fan = fan; start = empty_map; least = ltb-false fan 3 p.0; most = ltb-false 13 fan p.1 } in
        let room = ltb-false (length st.cells) 32 c in
        record {
          setting = σ;
          starts = refl;
          keyed = λ k z l. ranks.2 k ∙ and_from (st.iskey k) (ltb k (2 ^ 64)) z (lt-ltb k (2 ^ 64) (omega (arith, bounds.wide)));
          words = λ q i. word (zeroed 32 st.cells) q i;
          tree = new_tree ranks.0;
          is = ap (λ (f : ℕ → ℕ → Bool). record { cells = zeroed 32 st.cells; top = st.top; iskey = st.iskey; before = f; fan = fan; count = 1; seats = replicate 8 idle }) (sym ranks.1);
          inv = new_inv σ st.cells room (λ _. refl);
          eight = refl;
          lawful = tt;
        }

sound_kept : {m₀ : ℕ → Option ℕ} {h : History} (c : Call) (t : State) (σ : Setting) → σ.start ≡ m₀ → (iskey : ℕ → Bool) → ((k : ℕ) → iskey k ≡ true → k ≤ σ.top → T.Key σ.order k) → Lawful σ.start h
    → Kept σ iskey h c (act c t) → Sound m₀ (record { call = c; answer = (act c t).0 } ∷ h) (act c t).1
sound_kept {m₀} {h} c t σ st₀ iskey keyed lawful k =
    let P : State → Type 0 = λ z. Sound m₀ (record { call = c; answer = (act c t).0 } ∷ h) z in
    subst P (sym k.is)
    (record { setting = σ; starts = st₀; keyed = keyed; words = k.words; tree = k.tree; is = refl; inv = k.inv; eight = k.eight; lawful = (k.laws, lawful) })

sound_step : {m₀ : ℕ → Option ℕ} {h : History} {t : State} (c : Call) → Sound m₀ h t → Sound m₀ (record { call = c; answer = (act c t).0 } ∷ h) (act c t).1
sound_step {h} {t} c s =
    let k = act_kept s.setting t.iskey s.keyed t.cells t.count t.seats s.words s.tree h s.inv s.eight c in
    sound_kept c t s.setting s.starts t.iskey s.keyed s.lawful (subst (λ (z : State). Kept s.setting t.iskey h c (act c z)) (sym s.is) k)

pub sound : {m₀ : ℕ → Option ℕ} {h : History} {t : State} → Reached m₀ h t → Sound m₀ h t
sound (formatted st fan bounds laws ok) = sound_start st fan bounds laws ok
sound (more r c) = sound_step c (sound r)

pub runs_lawful : RunsLawful
runs_lawful m₀ h t r = let s = sound r in subst (λ m. Lawful m h) s.starts s.lawful
