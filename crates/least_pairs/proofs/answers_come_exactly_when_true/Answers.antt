-- The theorem, as it is proved of the definitions.
use Rattle.least_pairs.proofs.Proved.{answers_exactly}
use Rattle.least_pairs.proofs.answers_come_exactly_when_true.Goals as goal

pub returns : goal.returns
returns g c = answers_exactly g.C.Cost.ops g.met.C.Cost.lawful
