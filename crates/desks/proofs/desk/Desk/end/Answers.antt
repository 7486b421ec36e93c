-- Each hold that is taken off is accepted.
use Rattle.std.specs.Prelude.{is_ok, is_some, filter}
use Rattle.std.proofs.Common.{◌≡◌, false, rules, suc, ◌<◌, Some, None, sym, ap, ◌∙◌, subst, drop, vec_len, arith}
use Rattle.std.proofs.lemmas.Bool.{both_ways}
use Rattle.ledger.specs.Rows.{is_held}
use Rattle.boards.specs.Boards.{state}
use Rattle.desks.specs.Slots.{hand}
use Rattle.desks.specs.Desks.{withdrawals, DoesAll}
use Rattle.desks.proofs.Emptying.{circuits, shorter, last, below, left_out, Above, none_next, accepted, number_after, above_after, done_after}
use Rattle.desks.proofs.desk.Desk.end.Goals as goal

pub loop-slot-preserved-in-Ok : goal.loop-slot-preserved-in-Ok
loop-slot-preserved-in-Ok g c =
    let d = c.args.self in
    let s = state g.N.Network.meaning d.board in
    let t = state g.N.Network.meaning c.loop-slot.board in
    let u = state g.N.Network.meaning c.withdraw.new.self in
    let slots = d.slots.list.items in
    let n = vec_len c.pop.new.self in
    let h = c.in-Some-slot.hold in
    let size : vec_len c.loop-slot.list ≡ suc n = omega (arith, c.in-Some.ensures.cases) in
    let low : n < 32 = below slots c.loop-slot.list.items (vec_len c.loop-slot.list) n d.slots.room c.loop-slot.invariant.slots (search rules) size in
    let here : hand slots (suc n) ≡ Some h = last slots c.loop-slot.list.items (vec_len c.loop-slot.list) n c.in-Some.slot c.loop-slot.invariant.slots size (search rules) ∙ c.in-Some-slot.is in
    let above : Above s.rows (suc n) t.rows = subst (λ k. Above s.rows k t.rows) size c.loop-slot.invariant.rows in
    let so_far : DoesAll s (withdrawals s.number (filter (λ e. is_held (s.rows e)) (drop (suc n) circuits))) t = subst (λ k. DoesAll s (withdrawals s.number (filter (λ e. is_held (s.rows e)) (drop k circuits))) t) size c.loop-slot.invariant.done in
    record {
      slots = shorter slots c.loop-slot.list.items c.pop.new.self.items (vec_len c.loop-slot.list) n c.loop-slot.invariant.slots c.pop.ensures.rest size;
      number = number_after s t u slots n h (is_ok c.withdraw.result) (d.matched, d.whole) low here c.loop-slot.invariant.number above c.withdraw.ensures.does;
      rows = above_after s t u slots n h (is_ok c.withdraw.result) (d.matched, d.whole) low here c.loop-slot.invariant.number above c.withdraw.ensures.does;
      done = done_after s t u slots n h (is_ok c.withdraw.result) (d.matched, d.whole) low here c.loop-slot.invariant.number above c.withdraw.ensures.does so_far;
    }

pub unreachable-requires : goal.unreachable-requires
unreachable-requires g c =
    let d = c.args.self in
    let s = state g.N.Network.meaning d.board in
    let t = state g.N.Network.meaning c.loop-slot.board in
    let u = state g.N.Network.meaning c.withdraw.new.self in
    let slots = d.slots.list.items in
    let n = vec_len c.pop.new.self in
    let h = c.in-Some-slot.hold in
    let size : vec_len c.loop-slot.list ≡ suc n = omega (arith, c.in-Some.ensures.cases) in
    let low : n < 32 = below slots c.loop-slot.list.items (vec_len c.loop-slot.list) n d.slots.room c.loop-slot.invariant.slots (search rules) size in
    let here : hand slots (suc n) ≡ Some h = last slots c.loop-slot.list.items (vec_len c.loop-slot.list) n c.in-Some.slot c.loop-slot.invariant.slots size (search rules) ∙ c.in-Some-slot.is in
    let above : Above s.rows (suc n) t.rows = subst (λ k. Above s.rows k t.rows) size c.loop-slot.invariant.rows in
    both_ways (is_ok c.withdraw.result) (ap is_ok c.in-Err.is) (accepted s t u slots n h (is_ok c.withdraw.result) (d.matched, d.whole) low here c.loop-slot.invariant.number above c.withdraw.ensures.does)

pub loop-slot-preserved : goal.loop-slot-preserved
loop-slot-preserved g c =
    let d = c.args.self in
    let s = state g.N.Network.meaning d.board in
    let t = state g.N.Network.meaning c.loop-slot.board in
    let slots = d.slots.list.items in
    let n = vec_len c.pop.new.self in
    let size : vec_len c.loop-slot.list ≡ suc n = omega (arith, c.in-Some.ensures.cases) in
    let low : n < 32 = below slots c.loop-slot.list.items (vec_len c.loop-slot.list) n d.slots.room c.loop-slot.invariant.slots (search rules) size in
    let here : hand slots (suc n) ≡ None = last slots c.loop-slot.list.items (vec_len c.loop-slot.list) n c.in-Some.slot c.loop-slot.invariant.slots size (search rules) ∙ c.in_default-slot.is in
    let not : is_held (s.rows (suc n)) ≡ false = sym (d.whole (suc n)) ∙ ap is_some here in
    let above : Above s.rows (suc n) t.rows = subst (λ k. Above s.rows k t.rows) size c.loop-slot.invariant.rows in
    record {
      slots = shorter slots c.loop-slot.list.items c.pop.new.self.items (vec_len c.loop-slot.list) n c.loop-slot.invariant.slots c.pop.ensures.rest size;
      number = c.loop-slot.invariant.number;
      rows = none_next s.rows t.rows n not above;
      done = subst (λ cs. DoesAll s (withdrawals s.number cs) t) (ap (λ k. filter (λ e. is_held (s.rows e)) (drop k circuits)) size ∙ sym (left_out (λ e. is_held (s.rows e)) n low not)) c.loop-slot.invariant.done;
    }
