-- What was read so far is lawful, ends at the reader's place and is what the tally is of.
use Rattle.std.proofs.Common.{◌≡◌, ◌-◌, length}
use Rattle.sheet_format.specs.Rules.{Fields, begun}
use Rattle.sheets.specs.Judging.{tally}
use Rattle.sheets.proofs.Going.{Sofar}
use Rattle.sheets.proofs.judging.judge.Given as goal

abbrev pub invariant-loop-next : goal.invariant-loop-next
invariant-loop-next l =
    ((f : Fields) × (Sofar l.sheet l.reader.place (begun f) × (l.tally ≡ tally f))) ×
    (l.reader.sheet.now ≡ l.sheet)

abbrev pub decreases-loop-next : goal.decreases-loop-next
decreases-loop-next l = length l.sheet - l.reader.place
