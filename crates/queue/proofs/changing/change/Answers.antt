-- An entry at another cost, after it rose or sank.
use Rattle.queue.proofs.Ends.{changed_cost}
use Rattle.queue.proofs.changing.change.Goals as goal

pub returns-then-precedes : goal.returns-then-precedes
returns-then-precedes g c =
    changed_cost c.args.entries.now c.rise.new.entries c.args.at c.index-entries-at.result c.args.cost c.requires.within c.requires.heap c.index-entries-at.is
    c.rise.ensures c.rise.auto.entries

pub returns-else-precedes : goal.returns-else-precedes
returns-else-precedes g c =
    changed_cost c.args.entries.now c.sink.new.entries c.args.at c.index-entries-at.result c.args.cost c.requires.within c.requires.heap c.index-entries-at.is
    c.sink.ensures c.sink.auto.entries
