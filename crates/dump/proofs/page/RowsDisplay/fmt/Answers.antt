use Rattle.std.proofs.Common.{rules, ◌≡◌, ◌+◌, ◌-◌, ◌*◌, ◌<◌, ◌≤◌, ◌++◌, min, length, sym, arith}
use Rattle.std.proofs.Output.{has_written_append}
use Rattle.std.specs.Fmt.{HasWritten}
use Rattle.std.specs.List.{between}
use Rattle.dump.specs.Page.{unless_none, zeros_text, row_text}
use Rattle.dump.proofs.Texts.{wrote_more, wrote_as, wrote_last, zeros_first, row_first, zeros_end}
use Rattle.dump.proofs.page.RowsDisplay.fmt.Goals as goal
use Rattle.dump.proofs.page.RowsDisplay.fmt.Goals.{then-not-all_zero+in_ok-write+in_ok-write-2, else-not-all_zero}

pub loop-n-preserved : goal.loop-n-preserved
loop-n-preserved g c =
    let cells = g.M.Memory.cells c.args.self.now.0.now in
    let span = c.of_row-span.result in
    let below : 32 * c.loop-n.n < length cells = omega arith in
    let end : span.end ≡ min (32 * (c.loop-n.n + 1)) (length cells) = omega arith in
    elim c.if-not-all_zero.branch [
      | then-not-all_zero+in_ok-write+in_ok-write-2 w ↦ record {
        ordered = omega (arith, w.first-is);
        wrote = λ p.
            let t = c.loop-n.invariant.wrote p in
            let gap = unless_none (span.first - c.loop-n.first) (zeros_text c.loop-n.first span.first) in
            let line = row_text span.first (between span.first span.end cells) in
            let mid = w.write.new.self in
            let one : HasWritten g.W.Write.write_str_gives c.loop-n.f gap mid = search rules in
            let two : HasWritten g.W.Write.write_str_gives mid line c.if-not-all_zero.f = search rules in
            let more = has_written_append g.W.Write.write_str_gives c.loop-n.f gap mid line c.if-not-all_zero.f one two in
            wrote_more _ _ _ _ _ _ _ _ t more (row_first cells c.loop-n.first c.loop-n.n span.first span.end c.loop-n.invariant.ordered below c.of_row-span.ensures.first end _ w.first-is (sym w.if-not-all_zero.ensures));
      }
      | else-not-all_zero w ↦ record {
        ordered = omega (arith, w.first-is);
        wrote = rw (w.first-is, w.f-is) (λ p. wrote_as _ _ _ _ _ _ (c.loop-n.invariant.wrote p) (zeros_first cells c.loop-n.first c.loop-n.n span.first span.end c.loop-n.invariant.ordered below c.of_row-span.ensures.first end (sym w.if-not-all_zero.ensures)));
      }
    ]

pub returns-clause-writes : goal.returns-clause-writes
returns-clause-writes g c = λ p ok.
    let cells = g.M.Memory.cells c.args.self.now.0.now in
    let past : length cells ≤ 32 * c.loop-n.n = omega arith in
    let last : HasWritten g.W.Write.write_str_gives c.loop-n.f (unless_none (c.length-length.result - c.loop-n.first) (zeros_text c.loop-n.first c.length-length.result)) c.write-2.new.self = search rules in
    wrote_last _ _ _ _ _ _ _ (c.loop-n.invariant.wrote p) last (zeros_end cells c.loop-n.first c.loop-n.n c.length-length.result c.loop-n.invariant.ordered past c.length-length.ensures)
