-- The row was vacant, and is held now.
use Rattle.std.proofs.Common.{Some, refl, false}
use Rattle.boards.specs.Boards.{state}
use Rattle.desks.specs.Slots.{hand}
use Rattle.std.proofs.lemmas.Bool.{both_ways}
use Rattle.desks.specs.Slots.{with_slot}
use Rattle.desks.proofs.Hands.{as_told, left, held_now, slot_free}
use Rattle.desks.proofs.desk.Desk.hold.Goals as goal

pub invariant_of-self : goal.invariant_of-self
invariant_of-self g c =
    let d = c.args.self.now in
    let after = left (state g.N.Network.meaning d.board) (state g.N.Network.meaning c.hold.new.self) _ (hand d.slots.list.items) c.in_err-held.ensures.does.steps (d.matched, d.whole) (λ is. absurd (both_ways false refl is)) in
    record { matched = after.0; whole = after.1 }

pub put-requires-clause-free : goal.put-requires-clause-free
put-requires-clause-free g c =
    let d = c.args.self.now in
    slot_free (state g.N.Network.meaning d.board) (state g.N.Network.meaning c.hold.new.self) c.args.circuit c.args.root c.args.target _ _ (hand d.slots.list.items) c.in_ok-held.ensures.does.steps (d.matched, d.whole)

pub invariant_of-self-2 : goal.invariant_of-self-2
invariant_of-self-2 g c =
    let d = c.args.self.now in
    let h = c.in_ok-held.held.hold in
    let t = state g.N.Network.meaning c.hold.new.self in
    let after = held_now (state g.N.Network.meaning d.board) t c.args.circuit c.args.root c.args.target _ _ h (hand d.slots.list.items) c.in_ok-held.ensures.does.steps (d.matched, d.whole) c.in_ok-held.ensures.answer.2 c.in_ok-held.ensures.answer.3 in
    let told = as_told t (with_slot c.args.circuit (Some h) (hand d.slots.list.items)) (hand c.put.new.self.list.items) c.put.ensures after in
    record { matched = told.0; whole = told.1 }
