-- One more entry: what is known before it rises, and after.
use Rattle.queue.proofs.Ends.{added_once, added_order, added}
use Rattle.queue.proofs.changing.add.Goals as goal

pub rise-requires-clause-once : goal.rise-requires-clause-once
rise-requires-clause-once g c = added_once c.args.entries.now c.args.entry c.requires.some c.requires.heap c.requires.away

pub rise-requires-clause-order : goal.rise-requires-clause-order
rise-requires-clause-order g c = added_order c.args.entries.now c.args.entry c.requires.some c.requires.heap c.requires.away

pub returns : goal.returns
returns g c = added c.args.entries.now c.args.entry c.requires.some c.requires.heap c.requires.away c.rise.new.entries c.rise.ensures c.rise.auto.entries
