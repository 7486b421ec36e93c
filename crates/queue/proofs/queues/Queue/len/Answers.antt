-- The number of entries in use is the size.
use Rattle.std.proofs.Common.{sym}
use Rattle.queue.proofs.Soundness.{size_is}
use Rattle.queue.proofs.queues.Queue.len.Goals as goal

pub returns : goal.returns
returns g c = sym (size_is c.args.self.now)
