-- The theorem, as it is proved of the definitions.
use Rattle.grids.proofs.Whole.{return_links}
use Rattle.grids.proofs.return_links_stand_beside.Goals as goal

pub returns : goal.returns
returns c = return_links
