-- The row that changes was confirmed, so no hold in hand is for it.
use Rattle.std.specs.Prelude.{is_ok}
use Rattle.boards.specs.Boards.{state}
use Rattle.desks.specs.Slots.{hand}
use Rattle.desks.proofs.Hands.{released}
use Rattle.desks.proofs.desk.Desk.release.Goals as goal

pub invariant_of-self : goal.invariant_of-self
invariant_of-self g c =
    let d = c.args.self.now in
    let after = released (state g.N.Network.meaning d.board) (state g.N.Network.meaning c.release.new.self) c.args.circuit (is_ok c.release.result) (hand d.slots.list.items) c.release.ensures.does.steps (d.matched, d.whole) in
    record { matched = after.0; whole = after.1 }
