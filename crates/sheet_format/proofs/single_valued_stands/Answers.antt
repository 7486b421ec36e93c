-- The theorem is proved in Unique.
use Rattle.sheet_format.proofs.Unique.{unique}
use Rattle.sheet_format.proofs.single_valued_stands.Goals as goal

pub returns : goal.returns
returns c = unique
