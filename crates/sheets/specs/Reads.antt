-- What comes of reading a sheet.
use Rattle.std.specs.Prelude.{◌≡◌, ℕ, List, Ok, Err, Result}
use Rattle.sheet_format.specs.Rules.{
  whole_record,
  right_shape,
  right_order,
  within_limits,
  link_count,
  Fields,
}
use Rattle.sheet_format.specs.Sheets.{sheet, fault, Means}
use Rattle.sheet_records.specs.declared.faults.RecordFault.TheVariants.{CutShort, WrongShape}
use Rattle.sheets.specs.declared.faults.SheetFault.{SheetFault}
use Rattle.sheets.specs.declared.faults.SheetFault.TheVariants as its
use Rattle.sheets.specs.declared.gathering.Sheet.{Sheet}
use Rattle.sheets.specs.Gathering.{fields_of}

-- What reading gives: the network and the names of the sheet that the bytes mean, or the fault that
-- they mean; want of memory only where they mean a sheet.
abbrev pub Reads : List ℕ → Result Sheet SheetFault → Type 0
Reads bytes (Ok s) = Means bytes (sheet (fields_of s))
Reads bytes (Err (its.Record (CutShort place))) = Means bytes (fault whole_record place)
Reads bytes (Err (its.Record (WrongShape place))) = Means bytes (fault right_shape place)
Reads bytes (Err (its.OutOfOrder place)) = Means bytes (fault right_order place)
Reads bytes (Err (its.OutsideLimits place)) = Means bytes (fault within_limits place)
Reads bytes (Err (its.LinkCount place)) = Means bytes (fault link_count place)
Reads bytes (Err its.Memory) = (f : Fields) × Means bytes (sheet f)

-- What reading the writing of lawful fields gives: those fields, unless memory is wanting.
abbrev pub Gives : Fields → Result Sheet SheetFault → Type 0
Gives f (Ok s) = fields_of s ≡ f
Gives f (Err (its.Record at)) = ⊥
Gives f (Err (its.OutOfOrder place)) = ⊥
Gives f (Err (its.OutsideLimits place)) = ⊥
Gives f (Err (its.LinkCount place)) = ⊥
Gives f (Err its.Memory) = Unit {0}
