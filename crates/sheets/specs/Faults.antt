-- The faults of a sheet in the list of all refusals, and in words.
use Rattle.std.specs.Prelude.{ℕ, List, codes, Some, None, Option}
use Rattle.refusals.specs.declared.Refusal.{Refusal}
use Rattle.refusals.specs.declared.Refusal.TheVariants as listed
use Rattle.refusals.specs.Numbers.{rule}
use Rattle.sheet_records.specs.Faults.{record_refusal}
use Rattle.sheets.specs.declared.faults.SheetFault.{SheetFault}
use Rattle.sheets.specs.declared.faults.SheetFault.TheVariants as its

-- Which refusal of the list each fault of a sheet is; want of memory is none.
abbrev pub sheet_refusal : SheetFault → Option Refusal
sheet_refusal (its.Record fault) = Some (record_refusal fault)
sheet_refusal (its.OutOfOrder place) = Some (listed.OutOfOrder place)
sheet_refusal (its.OutsideLimits place) = Some (listed.OutsideSheetLimits place)
sheet_refusal (its.LinkCount place) = Some (listed.LinkCount place)
sheet_refusal its.Memory = None

-- The rule of a refusal, or that memory is wanting where there is none.
abbrev pub words_of : Option Refusal → List ℕ
words_of (Some refusal) = rule refusal
words_of None = codes "memory is wanting"

-- Each fault of a sheet in words.
abbrev pub sheet_words : SheetFault → List ℕ
sheet_words fault = words_of (sheet_refusal fault)
