-- The theorem is proved in Totality.
use Rattle.sheet_format.proofs.Totality.{total}
use Rattle.sheet_format.proofs.total_stands.Goals as goal

pub returns : goal.returns
returns c = total
