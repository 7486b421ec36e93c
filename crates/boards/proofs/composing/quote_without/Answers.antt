use Rattle.std.proofs.Common.{◌≡◌, ◌&&◌, [], ◌∷◌, length, nat_lt, sym, ap, ◌∙◌, subst}
use Rattle.planner_tables.specs.Room.{all_fit, long_enough}
use Rattle.registers.specs.States.{shown}
use Rattle.registers.specs.Events.{Event, close}
use Rattle.registers.specs.Registers.{register, links}
use Rattle.registers.specs.Histories.{Agrees}
use Rattle.registers.proofs.Circuits.{register_given}
use Rattle.boards.specs.Boards.{state}
use Rattle.boards.specs.Calls.{event}
use Rattle.boards.specs.Orders.{TrueQuote}
use Rattle.boards.proofs.composing.quote_without.Goals as goal

pub returns-clause-closed : goal.returns-clause-closed
returns-clause-closed g c =
    c.is_ok-closed.ensures.value ∙ (c.close.ensures.does.steps.allowed ∙ ap (λ t. nat_lt c.args.link (length t.bottom.links)) c.begin-board.ensures.begun)

pub returns-clause-quote : goal.returns-clause-quote
returns-clause-quote g c =
    let given = g.N.Network.meaning c.args.network in
    let now = state g.N.Network.meaning c.close.new.self in
    let closing : Event = event (close c.args.link) c.is_ok-closed.result in
    let is : Agrees c.args.number given (closing ∷ []) now = subst (λ b. Agrees c.args.number given (event (close c.args.link) b ∷ []) now) (sym c.is_ok-closed.ensures.value) (c.close.ensures.does.agreement c.args.number given [] c.begin-board.ensures.agrees) in
    let sites : (shown now).sites ≡ given.sites = ap (λ t. (shown t).sites) is ∙ ap (λ n. n.sites) (register_given given (closing ∷ [])) in
    subst
    (λ n. TrueQuote g.C.Cost.ops (links (register given (closing ∷ []))) c.args.root c.args.target (long_enough n g.M.Marks.rooms c.args.tables && all_fit n (length c.args.one.now ∷ length c.args.two.now ∷ [])) c.quote.result c.quote.new.one c.quote.new.two)
    sites
    (c.quote.ensures.right c.args.number given (closing ∷ []) is)
