-- A site is put in: what is known after.
use Rattle.std.proofs.Common.{sym}
use Rattle.std.proofs.lemmas.List.{length-take-le}
use Rattle.queue.proofs.Soundness.{after_change, after_add, place_left, once_after, order_after, below_after, put_is}
use Rattle.queue.proofs.queues.Queue.put.Goals as goal

pub invariant_of-self : goal.invariant_of-self
invariant_of-self g c =
    let after = after_change c.args.self.now c.change.new.entries c.in-Some.at c.args.site c.args.cost c.change.auto.entries c.in-Some.ensures c.change.ensures in
    record { within = after.fits; once = once_after after; below = below_after after c.requires; order = order_after after }

pub slice_bounds-add-end : goal.slice_bounds-add-end
slice_bounds-add-end g c = place_left c.args.self.now c.args.site c.requires c.in-None.ensures

pub slice_bounds-add-end-in-None : goal.slice_bounds-add-end-in-None
slice_bounds-add-end-in-None g c =
    sym (length-take-le _ c.args.self.now.entries.now (place_left c.args.self.now c.args.site c.requires c.in-None.ensures))

pub invariant_of-self-in-None : goal.invariant_of-self-in-None
invariant_of-self-in-None g c =
    let after = after_add c.args.self.now c.add.new.entries c.args.site c.args.cost (place_left c.args.self.now c.args.site c.requires c.in-None.ensures) c.add.auto.entries c.add.ensures in
    record { within = after.fits; once = once_after after; below = below_after after c.requires; order = order_after after }

pub returns-in-Some : goal.returns-in-Some
returns-in-Some g c =
    put_is c.args.self.now _ c.args.site c.args.cost c.requires
    (after_change c.args.self.now c.change.new.entries c.in-Some.at c.args.site c.args.cost c.change.auto.entries c.in-Some.ensures c.change.ensures)

pub returns-in-None : goal.returns-in-None
returns-in-None g c =
    put_is c.args.self.now _ c.args.site c.args.cost c.requires
    (after_add c.args.self.now c.add.new.entries c.args.site c.args.cost (place_left c.args.self.now c.args.site c.requires c.in-None.ensures) c.add.auto.entries c.add.ensures)
