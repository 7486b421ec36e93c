-- The faults of a record in the list of all refusals.
use Rattle.refusals.specs.declared.Refusal.{Refusal}
use Rattle.refusals.specs.declared.Refusal.TheVariants as listed
use Rattle.sheet_records.specs.declared.faults.RecordFault.{RecordFault}
use Rattle.sheet_records.specs.declared.faults.RecordFault.TheVariants.{CutShort, WrongShape}

-- Which refusal of the list each fault of a record is.
abbrev pub record_refusal : RecordFault → Refusal
record_refusal (CutShort place) = listed.CutShort place
record_refusal (WrongShape place) = listed.WrongShape place
