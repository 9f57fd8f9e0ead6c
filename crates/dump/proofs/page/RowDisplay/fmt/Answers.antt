use Rattle.std.proofs.Common.{rules, ◌++◌, codes, decimal}
use Rattle.std.proofs.Output.{has_written_append, has_written_of_eq}
use Rattle.std.specs.Fmt.{HasWritten}
use Rattle.dump.specs.Page.{newline, span_text}
use Rattle.dump.proofs.Texts.{wrote_more, wrote_all, words_first, words_end, row_is}
use Rattle.dump.proofs.page.RowDisplay.fmt.Goals as goal

pub loop-cell-preserved : goal.loop-cell-preserved
loop-cell-preserved g c = λ p.
    let w = c.loop-cell.invariant p in
    let more : HasWritten g.W.Write.write_str_gives c.loop-cell.f (codes " " ++ decimal c.word-word.result) c.write-in-loop-cell.new.self = search rules in
    wrote_more _ _ _ _ _ _ _ _ w more (words_first (g.M.Memory.cells c.args.self.now.memory.now) c.loop-cell.cell c.args.self.now.span.end _ c.loop-cell-test.true c.args.self.now.inside c.word-word.ensures)

pub returns-clause-writes : goal.returns-clause-writes
returns-clause-writes g c = λ p ok.
    let cells = g.M.Memory.cells c.args.self.now.memory.now in
    let span = c.args.self.now.span in
    let start : HasWritten g.W.Write.write_str_gives c.args.f.now (span_text span.first span.end) c.write.new.self = search rules in
    let middle = wrote_all _ _ _ _ _ (c.loop-cell.invariant start.plain) (words_end cells c.loop-cell.cell span.end c.loop-cell-test.false) in
    let last : HasWritten g.W.Write.write_str_gives c.loop-cell.f newline c.writeln.new.self = search rules in
    has_written_of_eq _ _ _ _ _ (row_is cells span.first span.end span.some c.args.self.now.inside) (has_written_append _ _ _ _ _ _ start (has_written_append _ _ _ _ _ _ middle last))
