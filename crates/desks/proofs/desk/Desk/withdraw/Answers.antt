-- The hold was taken out of its slot, and the board accepts it.
use Rattle.std.specs.Prelude.{is_ok}
use Rattle.std.proofs.Common.{◌≡◌, Some, None, sym, ◌∙◌}
use Rattle.boards.specs.Boards.{state}
use Rattle.desks.specs.Slots.{hand}
use Rattle.desks.specs.Slots.{with_slot}
use Rattle.registers.specs.Events.{withdraw}
use Rattle.desks.proofs.Hands.{as_told, still_empty, held_sound, backed, told_here, withdrawn_out}
use Rattle.desks.proofs.desk.Desk.withdraw.Goals as goal

pub invariant_of-self : goal.invariant_of-self
invariant_of-self g c =
    let d = c.args.self.now in
    let none : hand d.slots.list.items c.args.circuit ≡ None = sym c.take.ensures.out ∙ c.in_default.is in
    let told = as_told (state g.N.Network.meaning d.board) (hand d.slots.list.items) (hand c.take.new.self.list.items) (λ e. c.take.ensures.after e ∙ still_empty (hand d.slots.list.items) c.args.circuit none e) (d.matched, d.whole) in
    record { matched = told.0; whole = told.1 }

pub invariant_of-self-2 : goal.invariant_of-self-2
invariant_of-self-2 g c =
    let d = c.args.self.now in
    let s = state g.N.Network.meaning d.board in
    let t = state g.N.Network.meaning c.withdraw.new.self in
    let holds = hand d.slots.list.items in
    let h = c.in-Some.hold in
    let here : holds c.args.circuit ≡ Some h = sym c.take.ensures.out ∙ c.in-Some.is in
    let sound = held_sound d.board.ledger c.args.circuit (backed s holds c.args.circuit h (d.matched, d.whole) here).2 in
    let done = told_here withdraw s t c.args.circuit h (is_ok c.withdraw.result) holds (d.matched, d.whole) here sound c.withdraw.ensures.does.steps.allowed c.withdraw.ensures.does in
    let told = as_told t (with_slot c.args.circuit None holds) (hand c.take.new.self.list.items) c.take.ensures.after (withdrawn_out s t c.args.circuit holds done.steps (d.matched, d.whole)) in
    record { matched = told.0; whole = told.1 }

pub returns-clause-does : goal.returns-clause-does
returns-clause-does g c =
    let d = c.args.self.now in
    let s = state g.N.Network.meaning d.board in
    let holds = hand d.slots.list.items in
    let here : holds c.args.circuit ≡ Some c.in-Some.hold = sym c.take.ensures.out ∙ c.in-Some.is in
    let sound = held_sound d.board.ledger c.args.circuit (backed s holds c.args.circuit c.in-Some.hold (d.matched, d.whole) here).2 in
    told_here withdraw s (state g.N.Network.meaning c.withdraw.new.self) c.args.circuit c.in-Some.hold (is_ok c.withdraw.result) holds (d.matched, d.whole) here sound c.withdraw.ensures.does.steps.allowed c.withdraw.ensures.does
