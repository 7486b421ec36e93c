-- No hold is in hand.
use Rattle.std.proofs.Common.{ap}
use Rattle.boards.specs.Boards.{state}
use Rattle.desks.specs.Slots.{hand}
use Rattle.desks.proofs.Hands.{none_at}
use Rattle.desks.proofs.desk.Desk.begin.Goals as goal

pub invariant_of-result : goal.invariant_of-result
invariant_of-result g c =
    let s = state g.N.Network.meaning c.begin.result in
    let none = none_at s (hand c.in_ok-empty.field-0.list.items) c.in_ok-empty.ensures (λ d. ap (λ x. x.rows d) c.begin.ensures.begun) in
    record { matched = none.0; whole = none.1 }
