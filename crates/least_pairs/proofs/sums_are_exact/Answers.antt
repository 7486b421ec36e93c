-- The theorem, as it is proved of the definitions.
use Rattle.least_pairs.proofs.Proved.{sums_are_exact}
use Rattle.least_pairs.proofs.sums_are_exact.Goals as goal

pub returns : goal.returns
returns g c = sums_are_exact g.C.Cost.ops g.met.C.Cost.lawful
