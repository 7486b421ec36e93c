-- The theorem, as it is proved of the definitions.
use Rattle.pair_certificates.proofs.Within.{pairs_are_within}
use Rattle.pair_certificates.proofs.theorems.pairs_are_within.Goals as goal

pub returns : goal.returns
returns g c = pairs_are_within g.C.Cost.ops
