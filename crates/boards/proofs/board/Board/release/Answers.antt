use Rattle.std.proofs.Common.{refl, ap, ◌∙◌}
use Rattle.layers.specs.Shown.{is_closed, amount_on}
use Rattle.certificates.specs.Calls.{held as fields_held}
use Rattle.route_links.specs.Along.{given_along}
use Rattle.ledger.specs.Keeping.{rows_in}
use Rattle.registers.specs.Histories.{routes_of}
use Rattle.boards.proofs.States.{release_does, routes_given}
use Rattle.boards.proofs.board.Board.release.Goals as goal

-- src/spending.rt
pub returns-clause-does : goal.returns-clause-does
returns-clause-does g c =
    release_does c.args.self.now.ledger c.args.circuit (fields_held c.in_ok-released.released) refl c.in_ok-released.ensures.answer.0
    (record {
      number = refl;
      bottom = c.give_pair.ensures.given ∙ ap (λ r. given_along r (g.N.Network.meaning c.args.self.now.pile.below.below)) (routes_given c.one.result.now c.two.result.now (fields_held c.in_ok-released.released) (rows_in c.args.self.now.ledger c.args.circuit) c.one.ensures c.two.ensures (ap routes_of c.in_ok-released.ensures.answer.0));
      closed = λ k. ap (λ x. is_closed x k) c.give_pair.ensures.closings;
      amounts = λ k. ap (λ x. amount_on x k) c.give_pair.ensures.surcharges;
      rows = λ d. c.in_ok-released.ensures.answer.1 d;
    })
