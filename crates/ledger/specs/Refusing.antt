-- The ledger's refusals: which each is in the list of all refusals.
use Rattle.ledger.specs.declared.refusing.LedgerRefusal.{LedgerRefusal}
use Rattle.ledger.specs.declared.refusing.LedgerRefusal.TheVariants as its
use Rattle.refusals.specs.declared.Refusal.{Refusal}
use Rattle.refusals.specs.declared.Refusal.TheVariants as listed

-- which refusal of the list each case is
abbrev pub refusal : LedgerRefusal → Refusal
refusal its.NotCircuit = listed.NotCircuit
refusal its.WrongRow = listed.WrongRow
refusal its.EightHeld = listed.EightHeld
