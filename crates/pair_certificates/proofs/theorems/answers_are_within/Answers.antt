-- The theorem, as it is proved of the definitions.
use Rattle.pair_certificates.proofs.Answered.{answers_are_within}
use Rattle.pair_certificates.proofs.theorems.answers_are_within.Goals as goal

pub returns : goal.returns
returns g c = answers_are_within g.C.Cost.ops g.met.C.Cost.lawful
