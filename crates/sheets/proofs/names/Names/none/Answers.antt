-- No name is out of order.
use Rattle.sheets.proofs.Finding.{sorted_none}
use Rattle.sheets.proofs.names.Names.none.Goals as goal

pub invariant_of-result : goal.invariant_of-result
invariant_of-result c = record { rising = sorted_none _ c.new.ensures.items }
