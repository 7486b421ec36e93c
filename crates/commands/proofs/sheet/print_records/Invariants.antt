-- Each record takes the reader on.
use Rattle.std.proofs.Common.{◌-◌, length}
use Rattle.commands.proofs.sheet.print_records.Given as goal

abbrev pub decreases-loop-placed : goal.decreases-loop-placed
decreases-loop-placed l = length l.reader.sheet.now - l.reader.place
