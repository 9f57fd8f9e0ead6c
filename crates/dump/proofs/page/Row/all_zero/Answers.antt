use Rattle.std.proofs.Common.{rules, tests, ◌∙◌, get_or, ◌-◌, eqb, refl}
use Rattle.std.proofs.lemmas.Iterator.{YieldsList-from_range}
use Rattle.std.proofs.lemmas.Iterator.Search.{all_from_yields_List}
use Rattle.dump.proofs.Rows.{all_zero_is}
use Rattle.dump.proofs.page.Row.all_zero.Goals as goal

pub returns : goal.returns
returns g c =
    let row = c.args.self.now in
    let cells = g.M.Memory.cells row.memory.now in
    all_from_yields_List (λ cell. eqb (get_or cells cell 0) 0) _ _ c.all.result c.all.ensures.ran (YieldsList-from_range row.span.first row.span.end (row.span.end - row.span.first) refl refl) (λ x b q k. search (rules, tests))
    ∙ all_zero_is cells (row.span.end - row.span.first) row.span.first row.span.end refl row.inside
