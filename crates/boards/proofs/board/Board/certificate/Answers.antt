use Rattle.boards.specs.Boards.{state}
use Rattle.boards.proofs.Orders.{certificate_right}
use Rattle.boards.proofs.board.Board.certificate.Goals as goal

-- src/certifying.rt
pub returns-clause-right : goal.returns-clause-right
returns-clause-right g c number given events is =
    certificate_right number given events (state g.N.Network.meaning c.args.self.now) is c.args.circuit c.issue.result c.args.buffer.now c.issue.new.buffer c.issue.ensures
