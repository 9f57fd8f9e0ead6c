use Rattle.std.proofs.Common.{rules, ◌++◌}
use Rattle.std.proofs.Output.{has_written_append}
use Rattle.std.specs.Fmt.{HasWritten}
use Rattle.rules.specs.Nodes.{entries}
use Rattle.dump.specs.Page.{newline}
use Rattle.dump.specs.Nodes.{top_text, links_text, entries_text}
use Rattle.dump.proofs.nodes.LineDisplay.fmt.Goals as goal

pub returns-clause-writes : goal.returns-clause-writes
returns-clause-writes g c = λ p ok.
    let words = c.args.self.now.words.now in
    let top : HasWritten g.W.Write.write_str_gives c.args.f.now (top_text c.args.self.now.node words) c.write.new.self = search rules in
    let links : HasWritten g.W.Write.write_str_gives c.write.new.self (links_text words) c.write-2.new.self = search rules in
    let last : HasWritten g.W.Write.write_str_gives c.write-2.new.self (entries_text (entries words) ++ newline) c.writeln.new.self = search rules in
    has_written_append _ _ _ _ _ _ top (has_written_append _ _ _ _ _ _ links last)
