-- Lines that are written one after another.
use Rattle.std.proofs.Common.{◌≡◌, ℕ, ◌+◌, ◌<◌, List, [], ◌∷◌, ◌++◌, length, get_or, drop, sym, ap, ◌∙◌, append_assoc}
use Rattle.std.proofs.lemmas.List.{drop_more}
use Rattle.std.proofs.Output.{has_written_append}
use Rattle.std.specs.Fmt.{HasWritten}
use Rattle.std.specs.declared.fmt.Formatter.{Formatter}
use Rattle.tape.specs.Lines.{line_text, lines_text}
use Rattle.tape.specs.declared.line.Line.{Line}

-- g is f after writing what stands in `whole` before `rest`
pub record Wrote {W : Type 0} (took : W → List ℕ → W → Type 0) (f : Formatter W) (rest whole : List ℕ) (g : Formatter W) : Type 0 where
  pub text : List ℕ
  pub by : HasWritten took f text g
  pub is : text ++ rest ≡ whole

module _ {W : Type 0} (took : W → List ℕ → W → Type 0) where
  pub wrote_more : (f g h : Formatter W) (a rest next whole : List ℕ) → Wrote took f rest whole g → HasWritten took g a h → rest ≡ a ++ next → Wrote took f next whole h
  wrote_more f g h a rest next whole w more e =
      record { text = w.text ++ a; by = has_written_append took f w.text g a h w.by more; is = append_assoc w.text a next ∙ ap (λ l. w.text ++ l) (sym e) ∙ w.is }

-- the first of the lines from i on
pub lines_first : (ls : List Line) (i : ℕ) (d : Line) → i < length ls → lines_text (drop i ls) ≡ (line_text (get_or ls i d) ++ 10 ∷ []) ++ lines_text (drop (i + 1) ls)
lines_first ls i d below = ap lines_text (drop_more ls i d below) ∙ sym (append_assoc (line_text (get_or ls i d)) (10 ∷ []) (lines_text (drop (i + 1) ls)))
