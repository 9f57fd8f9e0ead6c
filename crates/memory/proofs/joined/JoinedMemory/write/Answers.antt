use Rattle.std.proofs.Common.{arith}
use Rattle.memory.proofs.Joining.{write_first_outside, write_second_outside}
use Rattle.memory.proofs.joined.JoinedMemory.write.Goals as goal

pub returns-in-First-clause-outside : goal.returns-in-First-clause-outside
returns-in-First-clause-outside g c =
    let at = c.in_ok-place.ensures.ok in
    let e = c.write.ensures in
    write_first_outside _ _ _ _ _ at.1 c.in-First.is at.0 _ (g.B.Memory.top c.args.self.now.second) _ (omega arith) _ e.after _ _ _ e.outside

pub returns-in-Second-clause-outside : goal.returns-in-Second-clause-outside
returns-in-Second-clause-outside g c =
    let at = c.in_ok-place.ensures.ok in
    let e = c.write-in-Second.ensures in
    write_second_outside _ _ _ _ _ at.1 c.in-Second.is at.0 (g.A.Memory.top c.args.self.now.first) _ _ (omega arith) _ e.after _ _ _ e.outside
