use Rattle.std.proofs.Common.{rules, [], ◌∷◌, ◌++◌, get_or}
use Rattle.std.specs.Fmt.{HasWritten}
use Rattle.tape.specs.Lines.{line, line_text}
use Rattle.tape.proofs.Lines.{wrote_more, lines_first}
use Rattle.tape.proofs.line.LinesDisplay.fmt.Goals as goal

pub loop-line-preserved : goal.loop-line-preserved
loop-line-preserved g c = λ p.
    let w = c.loop-line.invariant p in
    let lines = c.args.self.now.0.now in
    let d = line 0 (0, 0, 0) 0 in
    let more : HasWritten g.W.Write.write_str_gives c.loop-line.f (line_text (get_or lines c.loop-line.line-index d) ++ 10 ∷ []) c.writeln.new.self = search rules in
    wrote_more _ _ _ _ _ _ _ _ w more (lines_first lines c.loop-line.line-index d c.loop-line-test.true)
