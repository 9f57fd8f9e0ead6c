use Rattle.rules.proofs.laws.worked_examples_hold.Goals as goal
use Rattle.rules.proofs.Examples.{examples_hold}

pub returns : goal.returns
returns c = examples_hold
