-- A queue that is emptied gets smaller.
use Rattle.queue.specs.Queues.{size_of}
use Rattle.queue_tests.proofs.draining.drain.Given as goal

abbrev pub decreases-loop-next : goal.decreases-loop-next
decreases-loop-next g l = size_of g.C.Cost.ops l.queue
