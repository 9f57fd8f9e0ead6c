use Rattle.std.proofs.Common.{drop}
use Rattle.std.specs.Fmt.{IsPlainFormatter}
use Rattle.rules.specs.Nodes.{entries}
use Rattle.dump.specs.Nodes.{entries_text}
use Rattle.dump.proofs.Texts.{Wrote}
use Rattle.dump.proofs.nodes.EntriesDisplay.fmt.Given as goal

abbrev pub invariant-loop-key : goal.invariant-loop-key
invariant-loop-key g l =
    IsPlainFormatter l.initial.f → Wrote g.W.Write.write_str_gives l.initial.f (entries_text (drop l.key-index (entries l.self.0.words.now))) (entries_text (entries l.self.0.words.now)) l.f
