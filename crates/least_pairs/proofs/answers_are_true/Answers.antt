-- The theorem, as it is proved of the definitions.
use Rattle.least_pairs.proofs.Proved.{answers_are_true}
use Rattle.least_pairs.proofs.answers_are_true.Goals as goal

pub returns : goal.returns
returns g c = answers_are_true g.C.Cost.ops g.met.C.Cost.lawful
