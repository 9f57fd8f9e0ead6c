use Rattle.std.proofs.Common.{rules, [], ◌++◌, get_or, codes, decimal}
use Rattle.std.specs.Fmt.{HasWritten}
use Rattle.rules.specs.Nodes.{entries}
use Rattle.dump.proofs.Listing.{entries_first}
use Rattle.dump.proofs.Texts.{wrote_more}
use Rattle.dump.proofs.nodes.EntriesDisplay.fmt.Goals as goal

pub loop-key-preserved : goal.loop-key-preserved
loop-key-preserved g c = λ p.
    let w = c.loop-key.invariant p in
    let pairs = c.pairs-key-items.result.now in
    let words = get_or pairs c.loop-key.key-index [] in
    let more : HasWritten g.W.Write.write_str_gives c.loop-key.f (codes " (" ++ (decimal (get_or words 0 0) ++ (codes ", " ++ (decimal (get_or words 1 0) ++ codes ")")))) c.write.new.self = search rules in
    wrote_more _ _ _ _ _ _ _ _ w more (entries_first pairs (entries c.args.self.now.0.words.now) c.loop-key.key-index c.pairs-key-items.ensures c.loop-key-test.true)
