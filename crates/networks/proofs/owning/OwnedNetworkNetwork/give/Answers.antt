-- An accepted give: the link that is written is the link told, with one channel fewer taken.
use Rattle.std.proofs.Common.{◌-◌, arith}
use Rattle.networks.specs.Owning.{owned_meaning}
use Rattle.networks.proofs.Taking.{written_sound, written_give, written_cleared}
use Rattle.networks.proofs.owning.OwnedNetworkNetwork.give.Goals as goal

pub invariant_of-self-clause-each_link : goal.invariant_of-self-clause-each_link
invariant_of-self-clause-each_link c = rw c.from.ensures (written_sound (λ t. t - 1) (owned_meaning c.args.self.now) c.args.link c.in_ok-one.one c.in_ok-one.ensures c.args.self.now.each_link (λ most. omega arith))

pub returns-clause-after : goal.returns-clause-after
returns-clause-after c = rw c.from.ensures (written_give (owned_meaning c.args.self.now) c.args.link c.in_ok-one.one c.in_ok-one.ensures (omega arith))

pub returns-clause-keeps : goal.returns-clause-keeps
returns-clause-keeps c = rw c.from.ensures (written_cleared (λ t. t - 1) (owned_meaning c.args.self.now) c.args.link c.in_ok-one.one c.in_ok-one.ensures)
