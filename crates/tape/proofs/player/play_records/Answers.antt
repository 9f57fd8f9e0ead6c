use Rattle.std.proofs.Common.{◌-◌, ◌<◌, [], ◌∷◌, ◌++◌, length, vec_items, sym, refl, ap, ◌∙◌, append-nil, arith}
use Rattle.std.proofs.lemmas.Bool.{eqb-true, eqb-false}
use Rattle.tape.proofs.Playing.{none_left, fault_left, record_left, shorter, moved, all_played}
use Rattle.tape.specs.Records.{over, faulty}
use Rattle.tape.proofs.player.play_records.Goals as goal

pub loop-rest-preserved : goal.loop-rest-preserved
loop-rest-preserved g c =
    let less = shorter c.loop-rest.rest.now c.in-Ok.after.now c.in-Ok.record c.in-Ok.ensures.0 c.in-Ok.ensures.1 in
    let on = record_left c.args.tape.now c.loop-rest.rest.now c.in-Ok.after.now c.in-Ok.record c.carry_out.result _ _ c.loop-rest.invariant.3 c.in-Ok.ensures.0 c.in-Ok.ensures.1 c.carry_out.ensures.line c.carry_out.ensures.after in (
      moved _ _ _ _ c.carry_out.result _ c.push_reserved.ensures.items on.0 c.loop-rest.invariant.0,
      on.1 ∙ c.loop-rest.invariant.1,
      c.carry_out.ensures.outside ∙ c.loop-rest.invariant.2,
      omega arith,
      omega arith,
    )

pub returns-in-Err : goal.returns-in-Err
returns-in-Err g c =
    let tape = c.args.tape.now in
    let rest = c.loop-rest.rest.now in
    let some : 0 < length rest = omega (arith, eqb-false (length rest) 0 (sym c.loop-rest-test.ensures)) in
    let line = c.push_reserved-in-Err.ensures.items ∙ ap (λ l. vec_items c.loop-rest.lines ++ l ∷ []) c.of_fault.ensures in
    let both = all_played tape rest _ _ (faulty c.in-Err.fault (length tape - length rest)) _ _ _ (fault_left tape rest c.in-Err.fault _ some c.in-Err.ensures) refl line c.loop-rest.invariant.0 c.loop-rest.invariant.1 in
    record { lines = both.0; after = both.1; outside = c.loop-rest.invariant.2 }

pub returns : goal.returns
returns g c =
    let rest = c.loop-rest.rest.now in
    let none = none_left c.args.tape.now rest _ (eqb-true (length rest) 0 (sym c.loop-rest-test.ensures)) in
    let both = all_played c.args.tape.now rest _ _ over _ _ _ none refl (sym (append-nil (vec_items c.loop-rest.lines))) c.loop-rest.invariant.0 c.loop-rest.invariant.1 in
    record { lines = both.0; after = both.1; outside = c.loop-rest.invariant.2 }
