-- The examples, computed.
use Rattle.worked_examples.proofs.Computed.{examples}
use Rattle.worked_examples.proofs.examples_stand.Goals as goal

pub returns : goal.returns
returns c = examples
