-- The theorem, as it is proved of the definitions.
use Rattle.least_pairs.proofs.Proved.{surveys_are_right}
use Rattle.least_pairs.proofs.surveys_are_right.Goals as goal

pub returns : goal.returns
returns g c = surveys_are_right g.C.Cost.ops g.met.C.Cost.lawful
