-- What was read so far is stored.
use Rattle.std.proofs.Common.{◌≡◌, ◌-◌, length}
use Rattle.sheets.proofs.Storing.{Storing}
use Rattle.sheets.proofs.gathering.gather.Given as goal

abbrev pub invariant-loop-next : goal.invariant-loop-next
invariant-loop-next l = Storing l.sheet l.sites l.reader.place l.gathered ×
    (l.reader.sheet.now ≡ l.sheet)

abbrev pub decreases-loop-next : goal.decreases-loop-next
decreases-loop-next l = length l.sheet - l.reader.place
