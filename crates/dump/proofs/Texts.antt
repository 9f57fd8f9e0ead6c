-- Text that is written piece by piece.
use Rattle.std.proofs.Common.{◌≡◌, ℕ, ◌+◌, ◌-◌, ◌*◌, ◌<◌, ◌≤◌, min, Bool, true, false, cond, eqb, List, [], ◌∷◌, ◌++◌, length, get_or, drop, codes, decimal, sym, refl, ap, ◌∙◌, append_assoc, append-nil, arith}
use Rattle.std.proofs.lemmas.List.Edits.{length-between}
use Rattle.std.proofs.lemmas.List.{drop_all}
use Rattle.std.proofs.Output.{has_written_append, has_written_of_eq}
use Rattle.std.specs.Fmt.{HasWritten}
use Rattle.std.specs.declared.fmt.Formatter.{Formatter}
use Rattle.std.specs.List.{between}
use Rattle.memory.specs.declared.width.Width.{Width}
use Rattle.memory.specs.Bytes.{width_of, count_of, cells_of}
use Rattle.memory.specs.Bounds.{length_words}
use Rattle.dump.specs.Lines.{all_zero, rows_of, Line, zeros, lines_from}
use Rattle.dump.specs.Page.{newline, unless_none, span_text, zeros_text, words_text, row_text, line_text, lines_text}
use Rattle.dump.proofs.Rows.{between_first, between_end, rows_more, pending, pending_zeros}

-- g is f after writing what stands in `whole` before `rest`
pub record Wrote {W : Type 0} (took : W → List ℕ → W → Type 0) (f : Formatter W) (rest whole : List ℕ) (g : Formatter W) : Type 0 where
  pub text : List ℕ
  pub by : HasWritten took f text g
  pub is : text ++ rest ≡ whole

module _ {W : Type 0} (took : W → List ℕ → W → Type 0) where
  pub wrote_more : (f g h : Formatter W) (a rest next whole : List ℕ) → Wrote took f rest whole g → HasWritten took g a h → rest ≡ a ++ next → Wrote took f next whole h
  wrote_more f g h a rest next whole w more e =
      record { text = w.text ++ a; by = has_written_append took f w.text g a h w.by more; is = append_assoc w.text a next ∙ ap (λ l. w.text ++ l) (sym e) ∙ w.is }

  pub wrote_all : (f g : Formatter W) (rest whole : List ℕ) → Wrote took f rest whole g → rest ≡ [] → HasWritten took f whole g
  wrote_all f g rest whole w e =
      has_written_of_eq took f w.text whole g (sym (append-nil w.text) ∙ ap (λ l. w.text ++ l) (sym e) ∙ w.is) w.by

  pub wrote_as : (f g : Formatter W) (rest next whole : List ℕ) → Wrote took f rest whole g → rest ≡ next → Wrote took f next whole g
  wrote_as f g rest next whole w e = record { text = w.text; by = w.by; is = ap (λ l. w.text ++ l) (sym e) ∙ w.is }

  pub wrote_last : (f g h : Formatter W) (a rest whole : List ℕ) → Wrote took f rest whole g → HasWritten took g a h → rest ≡ a → HasWritten took f whole h
  wrote_last f g h a rest whole w more e = wrote_all f h [] whole (wrote_more f g h a rest [] whole w more (e ∙ sym (append-nil a))) refl

apart : (w rest : List ℕ) → codes " " ++ (w ++ rest) ≡ (codes " " ++ w) ++ rest
apart w rest = refl

pub words_first : (cells : List ℕ) (cell end word : ℕ) → cell < end → end ≤ length cells → word ≡ get_or cells cell 0 →
    words_text (between cell end cells) ≡ (codes " " ++ decimal word) ++ words_text (between (cell + 1) end cells)
words_first cells cell end word below within w = rw w (ap words_text (between_first cells cell end below within) ∙ apart (decimal (get_or cells cell 0)) _)

pub words_end : (cells : List ℕ) (cell end : ℕ) → end ≤ cell → words_text (between cell end cells) ≡ []
words_end cells cell end past = ap words_text (between_end cells cell end past)

-- the parts of the line of a row
pub row_is : (cells : List ℕ) (first end : ℕ) → first < end → end ≤ length cells →
    span_text first end ++ (words_text (between first end cells) ++ newline) ≡ row_text first (between first end cells)
row_is cells first end some within =
    let last : first + length (between first end cells) ≡ end = rw (length-between cells first end within) (omega arith) in
    ap (λ m. span_text first m ++ (words_text (between first end cells) ++ newline)) (sym last)

-- the lines of the cells from `first` on, after the zeros from `run` on that have no line yet
abbrev pub text_from : ℕ → ℕ → List ℕ → List ℕ
text_from run first cells = lines_text (pending run (first - run) (lines_from first (rows_of (drop first cells))))

chosen : (b : Bool) (line : Line) (lines : List Line) → lines_text (cond b lines (line ∷ lines)) ≡ cond b [] (line_text line) ++ lines_text lines
chosen true line lines = refl
chosen false line lines = refl

-- where the run of zeros ends, a line for it comes first, if it is not empty
run_line : (run first : ℕ) (lines : List Line) → run ≤ first → lines_text (cond (eqb (first - run) 0) lines (zeros run (first - run) ∷ lines)) ≡ unless_none (first - run) (zeros_text run first) ++ lines_text lines
run_line run first lines before =
    let end : run + (first - run) ≡ first = omega arith in
    chosen (eqb (first - run) 0) (zeros run (first - run)) lines ∙ ap (λ e. unless_none (first - run) (zeros_text run e) ++ lines_text lines) end

row_line : (run first end : ℕ) (row : List ℕ) (rows : List (List ℕ)) → run ≤ first → all_zero row ≡ false → first + length row ≡ end →
    lines_text (pending run (first - run) (lines_from first (row ∷ rows))) ≡ unless_none (first - run) (zeros_text run first) ++ (row_text first row ++ lines_text (lines_from end rows))
row_line run first end row rows before some e =
    rw some (run_line run first _ before ∙ ap (λ m. unless_none (first - run) (zeros_text run first) ++ (row_text first row ++ lines_text (lines_from m rows))) e)

zero_line : (run first end : ℕ) (row : List ℕ) (rows : List (List ℕ)) → run ≤ first → 0 < length row → all_zero row ≡ true → first + length row ≡ end →
    lines_text (pending run (first - run) (lines_from first (row ∷ rows))) ≡ lines_text (pending run (end - run) (lines_from end rows))
zero_line run first end row rows before some zero e =
    let count : first - run + length row ≡ end - run = omega arith in
    let start : run + (first - run) ≡ first = omega arith in
    rw zero (ap lines_text (pending_zeros run (first - run) first (length row) _ start some ∙ (λ i. pending run (count i) (lines_from (e i) rows))))

-- the same from row n on
abbrev pub text_at : ℕ → ℕ → List ℕ → List ℕ
text_at run n cells = text_from run (min (32 * n) (length cells)) cells

module _ (cells : List ℕ) (run n first end : ℕ) (before : run ≤ min (32 * n) (length cells)) (below : 32 * n < length cells) (f : first ≡ 32 * n) (e : end ≡ min (32 * (n + 1)) (length cells)) where
  here : min (32 * n) (length cells) ≡ first
  here = omega arith

  row : rows_of (drop first cells) ≡ between first end cells ∷ rows_of (drop end cells)
  row = rows_more cells first end (omega arith) (omega arith)

  count : length (between first end cells) ≡ end - first
  count = length-between cells first end (omega arith)

  last : first + length (between first end cells) ≡ end
  last = rw count (omega arith)

  -- a row of zeros adds no line
  pub zeros_first : all_zero (between first end cells) ≡ true → text_at run n cells ≡ text_at run (n + 1) cells
  zeros_first zero =
      let some : 0 < length (between first end cells) = rw count (omega arith) in
      rw (here, ← e) (ap (λ rows. lines_text (pending run (first - run) (lines_from first rows))) row ∙ zero_line run first end (between first end cells) (rows_of (drop end cells)) (omega arith) some zero last)

  -- a row of words comes after the line of the zeros before it
  pub row_first : (next : ℕ) → next ≡ end → all_zero (between first end cells) ≡ false →
      text_at run n cells ≡ (unless_none (first - run) (zeros_text run first) ++ row_text first (between first end cells)) ++ text_at next (n + 1) cells
  row_first next is some =
      let none : end - end ≡ 0 = omega arith in
      rw (is, here, ← e, none) (ap (λ rows. lines_text (pending run (first - run) (lines_from first rows))) row ∙ row_line run first end (between first end cells) (rows_of (drop end cells)) (omega arith) some last ∙ sym (append_assoc (unless_none (first - run) (zeros_text run first)) _ _))

pub zeros_end : (cells : List ℕ) (run n end : ℕ) → run ≤ min (32 * n) (length cells) → length cells ≤ 32 * n → end ≡ length cells →
    text_at run n cells ≡ unless_none (end - run) (zeros_text run end)
zeros_end cells run n end before past e =
    let here : min (32 * n) (length cells) ≡ end = omega arith in
    rw (here, drop_all end cells (omega arith)) (run_line run end [] (omega arith) ∙ append-nil _)

pub counted : (width : Width) (bytes : List ℕ) → count_of width bytes ≡ length (cells_of width bytes)
counted width bytes = sym (length_words (width_of width) (count_of width bytes) bytes)
