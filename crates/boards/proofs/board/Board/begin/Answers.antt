use Rattle.std.proofs.Common.{refl, ap}
use Rattle.boards.proofs.States.{begins_agreeing}
use Rattle.boards.proofs.board.Board.begin.Goals as goal

-- src/telling.rt
pub returns-clause-agrees : goal.returns-clause-agrees
returns-clause-agrees g c =
    begins_agreeing c.args.number (g.N.Network.meaning c.args.network) _
    (record {
      number = refl;
      bottom = ap g.N.Network.meaning c.pile_over.ensures.below;
      closed = c.pile_over.ensures.open;
      amounts = c.pile_over.ensures.uncharged;
      rows = c.empty.ensures;
    })
