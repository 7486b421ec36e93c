-- Every amount of a new table is zero.
use Rattle.layers.proofs.Tables.{one_value}
use Rattle.layers.proofs.surcharging.SurchargesChange.none.Goals as goal

pub returns : goal.returns
returns c k = one_value 2048 k 0
