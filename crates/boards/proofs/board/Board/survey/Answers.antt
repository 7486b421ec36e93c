use Rattle.std.proofs.Common.{◌&&◌, length, nat_le}
use Rattle.planner_tables.specs.Room.{long_enough}
use Rattle.registers.specs.States.{shown}
use Rattle.boards.specs.Boards.{state}
use Rattle.boards.proofs.Orders.{survey_right}
use Rattle.boards.proofs.board.Board.survey.Goals as goal

-- src/planning.rt
pub returns-clause-right : goal.returns-clause-right
returns-clause-right g c =
    let now = state g.N.Network.meaning c.args.self.now in
    survey_right g.C.Cost.ops now c.args.root
    (long_enough (shown now).sites g.M.Marks.rooms c.args.tables && nat_le (shown now).sites (length c.args.survey.now))
    c.survey.result c.args.survey.now c.survey.new.survey c.survey.ensures
