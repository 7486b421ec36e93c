-- An accepted take: the link that is written is the link told, with one channel more taken.
use Rattle.std.proofs.Common.{◌+◌, ◌<◌, ltb, sym, arith, ltb-true}
use Rattle.std.proofs.lemmas.Bool.{and_parts}
use Rattle.networks.specs.Owning.{owned_meaning}
use Rattle.networks.proofs.Taking.{written_sound, written_take, written_cleared}
use Rattle.networks.proofs.owning.OwnedNetworkNetwork.take.Goals as goal

pub invariant_of-self-clause-each_link : goal.invariant_of-self-clause-each_link
invariant_of-self-clause-each_link c =
    let one = c.in_ok-one.one in
    let free : one.taken < one.channels = ltb-true one.taken one.channels (and_parts one.lit (ltb one.taken one.channels) (sym c.if-not-is_usable.ensures)).1 in
    rw c.from.ensures (written_sound (λ t. t + 1) (owned_meaning c.args.self.now) c.args.link one c.in_ok-one.ensures c.args.self.now.each_link (λ _. omega arith))

pub returns-clause-after : goal.returns-clause-after
returns-clause-after c = rw c.from.ensures (written_take (owned_meaning c.args.self.now) c.args.link c.in_ok-one.one c.in_ok-one.ensures (sym c.if-not-is_usable.ensures))

pub returns-clause-keeps : goal.returns-clause-keeps
returns-clause-keeps c = rw c.from.ensures (written_cleared (λ t. t + 1) (owned_meaning c.args.self.now) c.args.link c.in_ok-one.one c.in_ok-one.ensures)
