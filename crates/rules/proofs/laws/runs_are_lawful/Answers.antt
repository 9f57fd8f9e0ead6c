use Rattle.rules.proofs.laws.runs_are_lawful.Goals as goal
use Rattle.rules.proofs.Runs.{runs_lawful}

pub returns : goal.returns
returns c = runs_lawful
