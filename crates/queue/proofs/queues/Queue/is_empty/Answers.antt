-- No entry is in use where no site is held.
use Rattle.std.proofs.Common.{nat_eq, sym, ap}
use Rattle.queue.proofs.Soundness.{size_is}
use Rattle.queue.proofs.queues.Queue.is_empty.Goals as goal

pub returns : goal.returns
returns g c = ap (λ n. nat_eq n 0) (sym (size_is c.args.self.now))
