-- The other board refuses the hold, which goes back into its slot.
use Rattle.std.proofs.Common.{◌≡◌, Some, None, sym, ap, ◌∙◌, false}
use Rattle.std.specs.Prelude.{is_ok}
use Rattle.std.proofs.lemmas.Bool.{both_ways}
use Rattle.refusals.specs.declared.Refusal.TheVariants as listed
use Rattle.ledger.specs.Rows.{is_held}
use Rattle.boards.specs.Boards.{state}
use Rattle.desks.specs.Slots.{hand}
use Rattle.desks.specs.Desks.{accepts}
use Rattle.desks.proofs.Hands.{as_told, still_empty, backed, left, refused_abroad, offered, handed_back, put_again}
use Rattle.desks.proofs.desk.Desk.offer.Goals as goal
use Rattle.desks.proofs.desk.Desk.offer.Goals.{in-Confirm, in-Withdraw}

pub invariant_of-self : goal.invariant_of-self
invariant_of-self g c =
    let d = c.args.self.now in
    let none : hand d.slots.list.items c.args.circuit ≡ None = sym c.take.ensures.out ∙ c.in_err-hold.was in
    let told = as_told (state g.N.Network.meaning d.board) (hand d.slots.list.items) (hand c.take.new.self.list.items) (λ e. c.take.ensures.after e ∙ still_empty (hand d.slots.list.items) c.args.circuit none e) (d.matched, d.whole) in
    record { matched = told.0; whole = told.1 }

pub invariant_of-other : goal.invariant_of-other
invariant_of-other g c =
    let d = c.args.self.now in
    let o = c.args.other.now in
    let s = state g.O.Network.meaning o.board in
    let t = state g.O.Network.meaning c.confirm-answer.new.self in
    let holds = hand d.slots.list.items in
    let h = c.in_ok-hold.hold in
    let here : holds c.args.circuit ≡ Some h = sym c.take.ensures.out ∙ c.in_ok-hold.was in
    let p = backed (state g.N.Network.meaning d.board) holds c.args.circuit h (d.matched, d.whole) here in
    let not : accepts s d.board.number c.args.circuit ≡ false = ap (λ n. accepts s n c.args.circuit) (sym c.number.ensures) ∙ (sym c.accepts.ensures ∙ c.if-accepts.false) in
    let refused = refused_abroad s d.board.number c.args.circuit h (is_ok c.confirm-answer.result) c.confirm-answer.ensures.does.steps.allowed p.0 p.1 not in
    let after = left s t _ (hand o.slots.list.items) c.confirm-answer.ensures.does.steps (o.matched, o.whole) (λ is. absurd (both_ways _ refused is)) in
    record { matched = after.0; whole = after.1 }

pub invariant_of-other-in-Withdraw : goal.invariant_of-other-in-Withdraw
invariant_of-other-in-Withdraw g c =
    let d = c.args.self.now in
    let o = c.args.other.now in
    let s = state g.O.Network.meaning o.board in
    let t = state g.O.Network.meaning c.withdraw-answer.new.self in
    let holds = hand d.slots.list.items in
    let h = c.in_ok-hold.hold in
    let here : holds c.args.circuit ≡ Some h = sym c.take.ensures.out ∙ c.in_ok-hold.was in
    let p = backed (state g.N.Network.meaning d.board) holds c.args.circuit h (d.matched, d.whole) here in
    let not : accepts s d.board.number c.args.circuit ≡ false = ap (λ n. accepts s n c.args.circuit) (sym c.number.ensures) ∙ (sym c.accepts.ensures ∙ c.if-accepts.false) in
    let refused = refused_abroad s d.board.number c.args.circuit h (is_ok c.withdraw-answer.result) c.withdraw-answer.ensures.does.steps.allowed p.0 p.1 not in
    let after = left s t _ (hand o.slots.list.items) c.withdraw-answer.ensures.does.steps (o.matched, o.whole) (λ is. absurd (both_ways _ refused is)) in
    record { matched = after.0; whole = after.1 }

pub unreachable-requires : goal.unreachable-requires
unreachable-requires g c =
    let d = c.args.self.now in
    let s = state g.O.Network.meaning c.args.other.now.board in
    let h = c.in_ok-hold.hold in
    let here : hand d.slots.list.items c.args.circuit ≡ Some h = sym c.take.ensures.out ∙ c.in_ok-hold.was in
    let p = backed (state g.N.Network.meaning d.board) (hand d.slots.list.items) c.args.circuit h (d.matched, d.whole) here in
    let not : accepts s d.board.number c.args.circuit ≡ false = ap (λ n. accepts s n c.args.circuit) (sym c.number.ensures) ∙ (sym c.accepts.ensures ∙ c.if-accepts.false) in
    elim c.match-ending.branch [
      | in-Confirm w ↦ both_ways (is_ok w.confirm-answer.result) (refused_abroad s d.board.number c.args.circuit h (is_ok w.confirm-answer.result) w.confirm-answer.ensures.does.steps.allowed p.0 p.1 not) (ap is_ok (sym w.answer-is ∙ c.in-Ok.is))
      | in-Withdraw w ↦ both_ways (is_ok w.withdraw-answer.result) (refused_abroad s d.board.number c.args.circuit h (is_ok w.withdraw-answer.result) w.withdraw-answer.ensures.does.steps.allowed p.0 p.1 not) (ap is_ok (sym w.answer-is ∙ c.in-Ok.is))
    ]

pub invariant_of-self-in-Err : goal.invariant_of-self-in-Err
invariant_of-self-in-Err g c =
    let d = c.args.self.now in
    let holds = hand d.slots.list.items in
    let here : holds c.args.circuit ≡ Some c.in_ok-hold.hold = sym c.take.ensures.out ∙ c.in_ok-hold.was in
    let same : c.in-Err.back.hold ≡ c.in_ok-hold.hold = elim c.match-ending.branch [
      | in-Confirm w ↦ handed_back c.in_ok-hold.hold w.confirm-answer.result c.match-ending.answer c.in-Err.back w.confirm-answer.ensures.back w.answer-is c.in-Err.is
      | in-Withdraw w ↦ handed_back c.in_ok-hold.hold w.withdraw-answer.result c.match-ending.answer c.in-Err.back w.withdraw-answer.ensures.back w.answer-is c.in-Err.is
    ] in
    let told = as_told (state g.N.Network.meaning d.board) holds (hand c.put.new.self.list.items) (put_again holds (hand c.take.new.self.list.items) (hand c.put.new.self.list.items) c.args.circuit c.in_ok-hold.hold c.in-Err.back.hold here same c.take.ensures.after c.put.ensures) (d.matched, d.whole) in
    record { matched = told.0; whole = told.1 }

pub returns-clause-answer : goal.returns-clause-answer
returns-clause-answer g c =
    let d = c.args.self.now in
    let s = state g.O.Network.meaning c.args.other.now.board in
    let own = state g.N.Network.meaning d.board in
    let h = c.in_ok-hold.hold in
    let here : hand d.slots.list.items c.args.circuit ≡ Some h = sym c.take.ensures.out ∙ c.in_ok-hold.was in
    let p = backed own (hand d.slots.list.items) c.args.circuit h (d.matched, d.whole) here in
    let not : accepts s d.board.number c.args.circuit ≡ false = ap (λ n. accepts s n c.args.circuit) (sym c.number.ensures) ∙ (sym c.accepts.ensures ∙ c.if-accepts.false) in
    let same : c.in-Err.back.hold ≡ h = elim c.match-ending.branch [
      | in-Confirm w ↦ handed_back h w.confirm-answer.result c.match-ending.answer c.in-Err.back w.confirm-answer.ensures.back w.answer-is c.in-Err.is
      | in-Withdraw w ↦ handed_back h w.withdraw-answer.result c.match-ending.answer c.in-Err.back w.withdraw-answer.ensures.back w.answer-is c.in-Err.is
    ] in
    offered d.board.number c.args.circuit c.refusal-refusal.result (is_held (own.rows c.args.circuit)) (accepts s d.board.number c.args.circuit) p.2 not
    (c.refusal-refusal.ensures ∙ (λ i. listed.NotHeld ((ap (λ x. x.board) same ∙ p.0) i) ((ap (λ x. x.circuit) same ∙ p.1) i)))
