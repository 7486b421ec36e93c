-- No row changes.
use Rattle.boards.specs.Boards.{state}
use Rattle.desks.specs.Slots.{hand}
use Rattle.desks.proofs.Hands.{left}
use Rattle.desks.proofs.desk.Desk.surcharge.Goals as goal

pub invariant_of-self : goal.invariant_of-self
invariant_of-self g c =
    let d = c.args.self.now in
    let after = left (state g.N.Network.meaning d.board) (state g.N.Network.meaning c.surcharge.new.self) _ (hand d.slots.list.items) c.surcharge.ensures.does.steps (d.matched, d.whole) (λ is. (d.matched, d.whole)) in
    record { matched = after.0; whole = after.1 }
