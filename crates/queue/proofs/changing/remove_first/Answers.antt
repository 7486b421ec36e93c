-- The first entry is taken: what is known before the other sinks, and after.
use Rattle.queue.proofs.Ends.{removed_once, removed_order, removed}
use Rattle.queue.proofs.Writing.{first_is}
use Rattle.queue.proofs.changing.remove_first.Goals as goal

pub sink-requires-clause-once : goal.sink-requires-clause-once
sink-requires-clause-once g c =
    removed_once g.met.C.Cost.lawful c.args.entries.now c.swap.new.self c.requires.some c.requires.heap c.swap.ensures.len c.swap.ensures.after

pub sink-requires-clause-order : goal.sink-requires-clause-order
sink-requires-clause-order g c =
    removed_order g.met.C.Cost.lawful c.args.entries.now c.swap.new.self c.requires.some c.requires.heap c.swap.ensures.len c.swap.ensures.after

pub returns-clause-first : goal.returns-clause-first
returns-clause-first g c =
    first_is g.met.C.Cost.lawful c.args.entries.now c.index-entries-0.result c.requires.some c.requires.heap c.index-entries-0.is

pub returns-clause-left : goal.returns-clause-left
returns-clause-left g c =
    removed g.met.C.Cost.lawful c.args.entries.now c.swap.new.self c.requires.some c.requires.heap c.swap.ensures.len c.swap.ensures.after
    c.index-entries-0.result c.sink.new.entries c.index-entries-0.is c.sink.ensures c.sink.auto.entries
