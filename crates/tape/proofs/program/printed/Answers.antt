use Rattle.std.proofs.Common.{ap, ◌∙◌}
use Rattle.std.proofs.lemmas.Result.{IfOk-weaker}
use Rattle.tape.specs.Lines.{lines_text}
use Rattle.tape.specs.Play.{play}
use Rattle.tape.proofs.Starting.{starts}
use Rattle.tape.proofs.program.printed.Goals as goal

pub returns-clause-text : goal.returns-clause-text
returns-clause-text c =
    let first = starts _ c.new.result.words.now (ap (λ x. x.now) c.new.ensures) c.formatted-index.ensures in
    IfOk-weaker c.lines_text.result _ _ (λ s e. e ∙ ap lines_text (c.as_slice.ensures.value ∙ c.in_ok-lines.ensures.lines ∙ ap (λ st. (play st c.args.tape.now).lines) first)) c.lines_text.ensures
