-- The worked examples, by computation.
use Rattle.std.proofs.Common.{refl}
use Rattle.rules.specs.Examples.{ExamplesHold}

pub examples_hold : ExamplesHold
examples_hold = (refl, (refl, (refl, (refl, (refl, (refl, (refl, (refl, (refl, (refl, (refl, (refl, (refl, (refl, tt))))))))))))))
