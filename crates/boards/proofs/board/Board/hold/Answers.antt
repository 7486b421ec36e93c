use Rattle.std.proofs.Common.{◌&&◌, [], ◌∷◌, length}
use Rattle.planner_tables.specs.Room.{all_fit, long_enough}
use Rattle.registers.specs.States.{shown}
use Rattle.boards.specs.Boards.{state}
use Rattle.boards.proofs.Orders.{hold_right}
use Rattle.boards.proofs.board.Board.hold.Goals as goal

-- src/holding.rt
pub returns-clause-right : goal.returns-clause-right
returns-clause-right g c =
    let before = state g.N.Network.meaning c.args.self.now in
    hold_right g.C.Cost.ops before c.args.circuit c.args.root c.args.target
    (long_enough (shown before).sites g.M.Marks.rooms c.args.tables && all_fit (shown before).sites (length c.args.one.now ∷ length c.args.two.now ∷ []))
    c.hold_pair.result c.args.one.now c.args.two.now c.hold_pair.new.one c.hold_pair.new.two c.hold_pair.ensures.answer
