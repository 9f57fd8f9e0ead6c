use Rattle.std.proofs.Common.{◌≡◌, ◌<◌, [], sym, refl, ◌∙◌, arith}
use Rattle.std.proofs.lemmas.List.{set-get_or}
use Rattle.std.proofs.lemmas.Result.{err_from_is_err_and}
use Rattle.rules.specs.Seats.{resting}
use Rattle.rules.specs.State.{extent_of}
use Rattle.index.specs.Extents.{extent_over}
use Rattle.index.specs.Views.{view, fan_of}
use Rattle.index.proofs.Reaching.{due_seated, placed_at, step_refused}
use Rattle.index.proofs.Stepping.{stepped}
use Rattle.index.proofs.index.Index.advance.Goals as goal

pub returns-in_err-access-clause-rule : goal.returns-in_err-access-clause-rule
returns-in_err-access-clause-rule g c =
    let st = view g.M.Memory g.O.Order c.args.self.now in
    let some : 0 < fan_of c.args.self.now.fan = rw c.in-Some.is (omega arith) in
    let seen : extent_over c.in-Some.fan.entries st.cells st.top ≡ extent_of st = rw c.in-Some.is refl in
    let kept = set-get_or c.args.self.now.seats c.in_ok-at.at (resting [] []) in
    let p = err_from_is_err_and c.from_residual-in_err-access.result c.from_residual-in_err-access.ensures.1 in
    rw (p.1, p.2, kept)
    (sym (step_refused st c.args.seat c.in_ok-at.at _ some c.in_ok-at.ensures seen _ (g.M.Memory.bounded c.args.self.now.memory).short c.in_err-access.ensures))

pub returns : goal.returns
returns g c =
    let m = g.M.Memory in
    let st = view m g.O.Order c.args.self.now in
    let after = c.perform.new.memory in
    let some : 0 < fan_of c.args.self.now.fan = rw c.in-Some.is (omega arith) in
    let seen : extent_over c.in-Some.fan.entries st.cells st.top ≡ extent_of st = rw c.in-Some.is refl in
    let kept = set-get_or c.args.self.now.seats c.in_ok-at.at (resting [] []) in
    let due = due_seated st c.args.seat c.in_ok-at.at _ some c.in_ok-at.ensures seen ∙ c.in_ok-access.ensures in
    let went = rw kept at c.go_on.ensures in
    let fan : c.in-Some.fan.entries ≡ st.fan = rw c.in-Some.is refl in
    record {
      rule =
          rw kept
          (stepped st c.args.seat c.in_ok-at.at c.in_ok-access.access c.in_ok-word.word (m.cells after) c.in-Some.fan.entries (m.top after)
          c.go_on.new.count c.go_on.new.lent c.go_on.result
          (placed_at c.args.seat c.in_ok-at.at c.in_ok-at.ensures) due c.in_ok-word.ensures.answer c.perform.ensures.after fan c.perform.ensures.same went);
      outside = c.perform.ensures.outside;
    }
