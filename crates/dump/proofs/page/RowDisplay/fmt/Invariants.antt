use Rattle.std.specs.Fmt.{IsPlainFormatter}
use Rattle.std.specs.List.{between}
use Rattle.dump.specs.Page.{words_text}
use Rattle.dump.proofs.Texts.{Wrote}
use Rattle.dump.proofs.page.RowDisplay.fmt.Given as goal

abbrev pub invariant-loop-cell : goal.invariant-loop-cell
invariant-loop-cell g l =
    IsPlainFormatter l.initial.f → Wrote g.W.Write.write_str_gives l.initial.f (words_text (between l.cell l.self.span.end (g.M.Memory.cells l.self.memory.now))) (words_text (between l.initial.cell l.self.span.end (g.M.Memory.cells l.self.memory.now))) l.f
