use Rattle.std.proofs.Common.{◌-◌}
use Rattle.std.specs.Fmt.{IsPlainFormatter}
use Rattle.dump.specs.Nodes.{nodes_text}
use Rattle.dump.proofs.Texts.{Wrote}
use Rattle.dump.proofs.nodes.NodesDisplay.fmt.Given as goal

abbrev pub invariant-loop-node : goal.invariant-loop-node
invariant-loop-node g l =
    IsPlainFormatter l.initial.f → Wrote g.W.Write.write_str_gives l.initial.f (nodes_text l.node (l.self.count - l.node) (g.M.Memory.cells l.self.memory.now)) (nodes_text 0 l.self.count (g.M.Memory.cells l.self.memory.now)) l.f
