-- The least is taken: what is known after.
use Rattle.queue.proofs.Soundness.{after_first, first_low, once_after, order_after, below_after, took_is}
use Rattle.queue.proofs.queues.Queue.take_least.Goals as goal

pub invariant_of-self : goal.invariant_of-self
invariant_of-self g c =
    let q = c.args.self.now in
    let taken = c.remove_first-first in
    let after = after_first q taken.new.entries taken.result.site taken.auto.entries taken.ensures.left in
    record { within = after.fits; once = once_after after; below = below_after after (first_low q taken.result taken.ensures.first); order = order_after after }

pub returns : goal.returns
returns g c =
    let q = c.args.self.now in
    let taken = c.remove_first-first in
    took_is q taken.result taken.ensures.first g.met.C.Cost.lawful _ (after_first q taken.new.entries taken.result.site taken.auto.entries taken.ensures.left)
