use Rattle.registers.proofs.Agreeing as agreeing
use Rattle.registers.proofs.calls_keep_agreement.Goals as goal

-- src/lib.rt
pub returns : goal.returns
returns c = agreeing.calls_keep_agreement
