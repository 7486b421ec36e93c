-- The refusals of holds and certificates: which each is in the list of all refusals.
use Rattle.boards.specs.declared.refusing.HoldRefusal.{HoldRefusal}
use Rattle.boards.specs.declared.refusing.HoldRefusal.TheVariants as not_held
use Rattle.boards.specs.declared.refusing.IssueRefusal.{IssueRefusal}
use Rattle.boards.specs.declared.refusing.IssueRefusal.TheVariants as not_issued
use Rattle.refusals.specs.declared.Refusal.{Refusal}
use Rattle.refusals.specs.declared.Refusal.TheVariants as listed
use Rattle.ledger.specs.Refusing.{refusal as of_ledger}
use Rattle.planner_tables.specs.Refusing.{refusal as of_planner}

-- which refusal of the list each case of a hold's is
abbrev pub hold_refusal : HoldRefusal → Refusal
hold_refusal (not_held.Ledger why) = of_ledger why
hold_refusal (not_held.Planner why) = of_planner why

-- which refusal of the list each case of a certificate's is
abbrev pub issue_refusal : IssueRefusal → Refusal
issue_refusal (not_issued.Ledger why) = of_ledger why
issue_refusal not_issued.BufferTooShort = listed.BufferTooShort
