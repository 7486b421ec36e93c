-- How a sheet is judged: each record by what those before it say, in four numbers.
use Rattle.std.specs.Prelude.{◌≡◌, ◌≢◌, ℕ, List, length, Some, None, Ok, Err, Option, Result}
use Rattle.sheet_format.specs.Items.{Item}
use Rattle.sheet_format.specs.Rules.{
  Rule,
  whole_record,
  right_shape,
  right_order,
  within_limits,
  link_count,
  Fields,
  Before,
  unbegun,
  begun,
  next_site,
  refused,
  unfinished,
  added,
}
use Rattle.sheet_records.specs.declared.faults.RecordFault.TheVariants.{CutShort, WrongShape}
use Rattle.sheets.specs.declared.faults.SheetFault.{SheetFault}
use Rattle.sheets.specs.declared.faults.SheetFault.TheVariants as its
use Rattle.sheets.specs.declared.judging.Tally.{Tally}
use Rattle.sheets.specs.Gathering.{IsSheet}
use Rattle.sheets.specs.Reads.{Reads}

-- The tally of the fields so far.
abbrev pub tally : Fields → Tally
tally f = record {
  sites = f.sites;
  count = f.count;
  links = length f.links;
  next_site = next_site 0 f.names;
}

-- It is the tally of what came before, which has begun.
abbrev pub Tallies : Tally → Before → Type 0
Tallies t unbegun = ⊥
Tallies t (begun f) = t ≡ tally f

-- A fault tells the rule that is broken first, and the place; want of memory is none.
abbrev pub Blames : SheetFault → Option Rule → ℕ → Type 0
Blames (its.Record (CutShort at)) broken place = (broken ≡ Some whole_record) × (at ≡ place)
Blames (its.Record (WrongShape at)) broken place = (broken ≡ Some right_shape) × (at ≡ place)
Blames (its.OutOfOrder at) broken place = (broken ≡ Some right_order) × (at ≡ place)
Blames (its.OutsideLimits at) broken place = (broken ≡ Some within_limits) × (at ≡ place)
Blames (its.LinkCount at) broken place = (broken ≡ Some link_count) × (at ≡ place)
Blames its.Memory broken place = ⊥

-- A record after those before it breaks no rule and is tallied, or is blamed for the rule that it
-- breaks first.
abbrev pub Judged : Before → Item → ℕ → Result Tally SheetFault → Type 0
Judged b x place (Ok t) = (refused b x ≡ None) × Tallies t (added b x)
Judged b x place (Err fault) = Blames fault (refused b x) place

-- At the end the sites are told, or links are missing.
abbrev pub Finished : Fields → ℕ → Result ℕ SheetFault → Type 0
Finished f place (Ok sites) = (unfinished (begun f) ≡ None) × (sites ≡ f.sites)
Finished f place (Err fault) = Blames fault (unfinished (begun f)) place

-- A sheet's sites, or the fault that the bytes mean, which is no want of memory.
abbrev pub Judges : List ℕ → Result ℕ SheetFault → Type 0
Judges bytes (Ok sites) = IsSheet bytes sites
Judges bytes (Err fault) = Reads bytes (Err fault) × (fault ≢ its.Memory)
