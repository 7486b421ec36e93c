use Rattle.boards.specs.Boards.{state}
use Rattle.boards.specs.Orders.{TrueChannels}
use Rattle.std.proofs.Common.{sym, subst}
use Rattle.boards.proofs.Orders.{channels_right}
use Rattle.boards.proofs.board.Board.channels.Goals as goal

-- src/telling.rt
pub returns-clause-right : goal.returns-clause-right
returns-clause-right g c number given events is =
    subst (λ told. TrueChannels given events c.args.link told) (sym c.channels.ensures) (channels_right number given events (state g.N.Network.meaning c.args.self.now) is c.args.link)
