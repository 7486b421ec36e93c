use Rattle.std.proofs.Common.{rules, tests, refl}
use Rattle.boards.proofs.States.{confirm_does}
use Rattle.boards.proofs.board.Board.confirm.Goals as goal

-- src/spending.rt
pub returns-clause-does : goal.returns-clause-does
returns-clause-does g c =
    confirm_does c.args.self.now.ledger c.args.hold.board c.args.hold.circuit (search (rules, tests)) refl (search (rules, tests))
    (record { number = refl; bottom = refl; closed = λ k. refl; amounts = λ k. refl; rows = λ d. c.confirm.ensures.after d })
