-- The routes that a quote answers stand in their tables, and can be settled.
use Rattle.std.proofs.Common.{sym, ◌∙◌}
use Rattle.planner_tables.specs.Room.{long_enough}
use Rattle.registers.specs.States.{shown}
use Rattle.boards.specs.Boards.{state}
use Rattle.boards.proofs.Holdable.{Answered, quoted_pair, settleable}
use Rattle.boards.proofs.board.Board.hold_pair.Goals as goal

-- src/holding.rt
pub route_in-first-requires : goal.route_in-first-requires
route_in-first-requires g c =
    let now = state g.N.Network.meaning c.args.self.now in
    let is : Answered (shown now) c.args.circuit c.args.root c.args.target c.in_ok-quote.quote.one c.in_ok-quote.quote.two c.quote.new.one c.quote.new.two =
    quoted_pair g.C.Cost.ops now (g.met.N.Network.sound c.args.self.now.pile.below.below) c.args.circuit c.args.root c.args.target (sym c.can_hold.ensures ∙ c.in_ok-can_hold.was) (long_enough (shown now).sites g.M.Marks.rooms c.args.tables) c.in_ok-quote.quote c.args.one.now c.args.two.now c.quote.new.one c.quote.new.two c.quote.auto.one c.quote.auto.two c.in_ok-quote.ensures in
    is.first_table

-- src/holding.rt
pub route_in-second-requires : goal.route_in-second-requires
route_in-second-requires g c =
    let now = state g.N.Network.meaning c.args.self.now in
    let is : Answered (shown now) c.args.circuit c.args.root c.args.target c.in_ok-quote.quote.one c.in_ok-quote.quote.two c.quote.new.one c.quote.new.two =
    quoted_pair g.C.Cost.ops now (g.met.N.Network.sound c.args.self.now.pile.below.below) c.args.circuit c.args.root c.args.target (sym c.can_hold.ensures ∙ c.in_ok-can_hold.was) (long_enough (shown now).sites g.M.Marks.rooms c.args.tables) c.in_ok-quote.quote c.args.one.now c.args.two.now c.quote.new.one c.quote.new.two c.quote.auto.one c.quote.auto.two c.in_ok-quote.ensures in
    is.second_table

-- src/holding.rt
pub settle-requires : goal.settle-requires
settle-requires g c =
    let now = state g.N.Network.meaning c.args.self.now in
    let row = sym c.can_hold.ensures ∙ c.in_ok-can_hold.was in
    let is : Answered (shown now) c.args.circuit c.args.root c.args.target c.in_ok-quote.quote.one c.in_ok-quote.quote.two c.quote.new.one c.quote.new.two =
    quoted_pair g.C.Cost.ops now (g.met.N.Network.sound c.args.self.now.pile.below.below) c.args.circuit c.args.root c.args.target row (long_enough (shown now).sites g.M.Marks.rooms c.args.tables) c.in_ok-quote.quote c.args.one.now c.args.two.now c.quote.new.one c.quote.new.two c.quote.auto.one c.quote.auto.two c.in_ok-quote.ensures in
    settleable now c.args.circuit c.args.root c.args.target c.in_ok-quote.quote.one c.in_ok-quote.quote.two c.quote.new.one c.quote.new.two c.route_in-first.result.now c.route_in-second.result.now row is c.route_in-first.ensures c.route_in-second.ensures
