-- The theorem, as it is proved of the definitions.
use Rattle.least_pairs.proofs.Proved.{runs_keep_their_laws}
use Rattle.least_pairs.proofs.runs_keep_their_laws.Goals as goal

pub returns : goal.returns
returns g c = runs_keep_their_laws g.C.Cost.ops g.met.C.Cost.lawful
