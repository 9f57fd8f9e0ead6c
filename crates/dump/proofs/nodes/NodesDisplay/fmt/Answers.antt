use Rattle.std.proofs.Common.{rules}
use Rattle.std.specs.Fmt.{HasWritten}
use Rattle.dump.specs.Nodes.{node_text}
use Rattle.dump.proofs.Listing.{nodes_first}
use Rattle.dump.proofs.Texts.{wrote_more}
use Rattle.dump.proofs.nodes.NodesDisplay.fmt.Goals as goal

pub loop-node-preserved : goal.loop-node-preserved
loop-node-preserved g c = λ p.
    let w = c.loop-node.invariant p in
    let more : HasWritten g.W.Write.write_str_gives c.loop-node.f (node_text c.loop-node.node c.words_of-words.result) c.write.new.self = search rules in
    wrote_more _ _ _ _ _ _ _ _ w more (nodes_first (g.M.Memory.cells c.args.self.now.memory.now) _ c.loop-node.node c.args.self.now.count c.loop-node-test.true c.words_of-words.ensures)
