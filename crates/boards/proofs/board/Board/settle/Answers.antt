use Rattle.std.proofs.Common.{◌≡◌, cond, is_ok, refl, ap, ◌∙◌}
use Rattle.layers.specs.Shown.{is_closed, amount_on}
use Rattle.certificates.specs.Calls.{held as fields_held}
use Rattle.pair_certificates.specs.Pairs.{pair_fields}
use Rattle.ledger.specs.Rows.{entered, held}
use Rattle.ledger.specs.Keeping.{rows_in}
use Rattle.registers.specs.States.{shown}
use Rattle.registers.specs.Histories.{holding}
use Rattle.boards.specs.Boards.{state}
use Rattle.boards.proofs.States.{same, made_fields, hold_does}
use Rattle.boards.proofs.Holdable.{holds_so}
use Rattle.boards.proofs.board.Board.settle.Goals as goal

-- src/holding.rt
pub returns-clause-does : goal.returns-clause-does
returns-clause-does g c =
    let old = state g.N.Network.meaning c.args.self.now in
    let one = c.args.one.now in
    let two = c.args.two.now in
    let certificate = c.unwrap-certificate.result in
    let made : fields_held certificate ≡ pair_fields (shown old) c.args.circuit c.args.root c.args.target one two =
    made_fields (pair_fields (shown old) c.into.result c.args.root c.args.target one two) c.certify.result certificate c.unwrap-certificate.ensures c.certify.ensures
    ∙ ap (λ n. pair_fields (shown old) n c.args.root c.args.target one two) c.into.ensures in
    hold_does (holds_so old c.args.circuit one two c.requires.row c.requires.free)
    (same _ (holding c.args.circuit c.args.root c.args.target one two old)
    (record {
      number = refl;
      bottom = c.take_pair.ensures.taken;
      closed = λ k. ap (λ x. is_closed x k) c.take_pair.ensures.closings;
      amounts = λ k. ap (λ x. amount_on x k) c.take_pair.ensures.surcharges;
      rows = λ d.
          c.hold.ensures.after d
          ∙ ap (λ b. cond b (entered (fields_held certificate).circuit (held (fields_held certificate)) (rows_in c.args.self.now.ledger) d) (rows_in c.args.self.now.ledger d)) (ap is_ok c.unwrap.ensures)
          ∙ ap (λ h. entered h.circuit (held h) (rows_in c.args.self.now.ledger) d) made;
    }))
