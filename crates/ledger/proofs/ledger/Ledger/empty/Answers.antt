-- No row is held, and no certificate stands in the wrong row.
use Rattle.ledger.specs.Rows.{entries}
use Rattle.ledger.proofs.Rules.{none_held, none_numbered}
use Rattle.ledger.proofs.ledger.Ledger.empty.Goals as goal

pub invariant_of-result : goal.invariant_of-result
invariant_of-result c = record { few = none_held (entries c.empty.result) c.empty.ensures; numbered = none_numbered (entries c.empty.result) c.empty.ensures }
