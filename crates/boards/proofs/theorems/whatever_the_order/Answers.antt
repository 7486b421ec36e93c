use Rattle.boards.proofs.Orders as orders
use Rattle.boards.proofs.theorems.whatever_the_order.Goals as goal

-- src/theorems.rt
pub returns : goal.returns
returns g c = orders.whatever_the_order g.C.Cost.ops
