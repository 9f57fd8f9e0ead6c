use Rattle.std.proofs.Common.{drop}
use Rattle.std.specs.Fmt.{IsPlainFormatter}
use Rattle.tape.specs.Lines.{lines_text}
use Rattle.tape.proofs.Lines.{Wrote}
use Rattle.tape.proofs.line.LinesDisplay.fmt.Given as goal

abbrev pub invariant-loop-line : goal.invariant-loop-line
invariant-loop-line g l =
    IsPlainFormatter l.initial.f → Wrote g.W.Write.write_str_gives l.initial.f (lines_text (drop l.line-index l.self.0.now)) (lines_text l.self.0.now) l.f
