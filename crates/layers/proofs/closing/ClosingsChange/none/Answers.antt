-- Every mark of a new table is that of an open link.
use Rattle.std.proofs.Common.{false}
use Rattle.layers.proofs.Tables.{one_value}
use Rattle.layers.proofs.closing.ClosingsChange.none.Goals as goal

pub returns : goal.returns
returns c k = one_value 2048 k false
