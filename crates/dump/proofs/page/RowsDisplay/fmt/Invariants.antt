use Rattle.std.proofs.Common.{◌*◌, ◌≤◌, min, length}
use Rattle.std.specs.Fmt.{IsPlainFormatter}
use Rattle.dump.specs.Lines.{lines_of}
use Rattle.dump.specs.Page.{lines_text}
use Rattle.dump.proofs.Texts.{Wrote, text_at}
use Rattle.dump.proofs.page.RowsDisplay.fmt.Given as goal

abbrev pub invariant-loop-n : goal.invariant-loop-n
invariant-loop-n g l =
    let cells = g.M.Memory.cells l.memory in
    record {
      ordered : l.first ≤ min (32 * l.n) (length cells);
      wrote : IsPlainFormatter l.initial.f → Wrote g.W.Write.write_str_gives l.initial.f (text_at l.first l.n cells) (lines_text (lines_of cells)) l.f;
    }
