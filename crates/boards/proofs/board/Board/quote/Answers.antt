use Rattle.std.proofs.Common.{◌&&◌, [], ◌∷◌, length}
use Rattle.planner_tables.specs.Room.{all_fit, long_enough}
use Rattle.registers.specs.States.{shown}
use Rattle.boards.specs.Boards.{state}
use Rattle.boards.proofs.Orders.{quote_right}
use Rattle.boards.proofs.board.Board.quote.Goals as goal

-- src/planning.rt
pub returns-clause-right : goal.returns-clause-right
returns-clause-right g c =
    let now = state g.N.Network.meaning c.args.self.now in
    quote_right g.C.Cost.ops now c.args.root c.args.target
    (long_enough (shown now).sites g.M.Marks.rooms c.args.tables && all_fit (shown now).sites (length c.args.one.now ∷ length c.args.two.now ∷ []))
    c.quote.result c.args.one.now c.args.two.now c.quote.new.one c.quote.new.two c.quote.ensures
