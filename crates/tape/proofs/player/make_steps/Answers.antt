use Rattle.std.proofs.Common.{◌≡◌, ◌-◌, sym, ap, ◌∙◌, arith}
use Rattle.index.specs.Views.{view}
use Rattle.tape.proofs.Stepping.{run_on, stop, go_on, all_run}
use Rattle.tape.proofs.player.make_steps.Goals as goal

pub returns-then-stops : goal.returns-then-stops
returns-then-stops g c =
    let l = c.loop-made in
    let run = stop c.args.kind c.args.seat c.args.count l.made c.accepted.result l.line c.of_answer-line.result _ _ c.step-answer.result (omega arith) l.invariant.0 c.step-answer.ensures.rule c.accepted.ensures c.of_answer-line.ensures (sym c.if-stops.ensures) in
    let both = all_run c.args.kind c.args.count c.args.seat _ c.of_answer-line.result _ (run ∙ l.invariant.1) in
    record { line = both.0; after = both.1; outside = c.step-answer.ensures.outside ∙ l.invariant.2 }

pub loop-made-preserved : goal.loop-made-preserved
loop-made-preserved g c =
    let l = c.loop-made in
    let run = go_on c.args.kind c.args.seat c.args.count l.made c.accepted.result l.line c.of_answer-line.result _ _ c.step-answer.result (omega arith) l.invariant.0 c.step-answer.ensures.rule c.accepted.ensures c.of_answer-line.ensures (sym c.if-stops.ensures) in
    (run.0, run.1 ∙ l.invariant.1, c.step-answer.ensures.outside ∙ l.invariant.2)

pub returns : goal.returns
returns g c =
    let none : c.args.count - c.loop-made.made ≡ 0 = omega arith in
    let run = ap (λ n. run_on c.args.kind n c.args.seat c.loop-made.line (view g.M.Memory g.O.Order c.loop-made.index)) (sym none) ∙ c.loop-made.invariant.1 in
    let both = all_run c.args.kind c.args.count c.args.seat _ c.loop-made.line _ run in
    record { line = both.0; after = both.1; outside = c.loop-made.invariant.2 }
