-- A run goes on turn by turn until nothing is left.
use Rattle.std.proofs.Common.{◌≡◌, ◌+◌, cond, eqb, length, Some, sym, refl, ap, ◌∙◌, subst, arith}
use Rattle.least_pairs.specs.Runs.{State, outcome}
use Rattle.runs.specs.Lent.{labels_of, state_of}
use Rattle.runs.specs.Turns.{Runnable}
use Rattle.runs.proofs.Stepping.{same_then}
use Rattle.runs.proofs.Going.{Ongoing, offered_put, begins, ends, fewer_same, turn, goes_on}
use Rattle.runs.proofs.running.run.Goals as goal

pub loop-next-init : goal.loop-next-init
loop-next-init g c =
    let job = g.S.Stage.job c.args.stage.now in
    let put = offered_put g.C.Cost.ops c.new-queue.result c.args.root c.zero.result c.offer.result c.offer.new.self (omega (arith, c.requires.runnable.begins, c.requires.room.1, c.new-queue.ensures.room)) c.offer.ensures in
    record {
      same = c.begin.ensures.same;
      job = refl;
      ready = c.requires.ready;
      turn =
          begins g.met.C.Cost.lawful job c.args.root c.requires.runnable (labels_of g.C.Cost.ops c.begin.new.self) c.begin.ensures.labels c.offer.new.self
          (omega (arith, put.room, c.new-queue.ensures.room, c.requires.room.1))
          (λ w. put.held w ∙ (λ i. cond (eqb w c.args.root) (Some (c.zero.ensures i)) (c.new-queue.ensures.empty w i)));
    }

pub settle-requires-clause-turn : goal.settle-requires-clause-turn
settle-requires-clause-turn g c =
    let on = c.loop-next.invariant in
    let can = subst (λ j. Runnable g.C.Cost.ops j c.args.root) (sym on.job) c.requires.runnable in
    let now_state = state_of g.C.Cost.ops c.loop-next.tables c.loop-next.count in
    turn g.met.C.Cost.lawful (g.S.Stage.job c.loop-next.stage) c.args.root can now_state c.loop-next.queue c.loop-next.count on.turn c.in-Some.next c.take_least.new.self c.in-Some.ensures

pub settle-requires-clause-room : goal.settle-requires-clause-room
settle-requires-clause-room g c =
    let on = c.loop-next.invariant in
    let few = fewer_same g.met.C.Cost.lawful on.job c.requires.runnable on.turn c.in-Some.ensures in
    let same = ap (λ j. j.sites) on.job in
    (omega (arith, same, on.same.sites, c.requires.room.0), omega (arith, few, on.same.sites, c.requires.room.0))

pub overflow_add-count : goal.overflow_add-count
overflow_add-count g c =
    let few = fewer_same g.met.C.Cost.lawful c.loop-next.invariant.job c.requires.runnable c.loop-next.invariant.turn c.in-Some.ensures in
    omega (arith, few, c.requires.sites)

pub loop-next-smaller : goal.loop-next-smaller
loop-next-smaller g c =
    let few = fewer_same g.met.C.Cost.lawful c.loop-next.invariant.job c.requires.runnable c.loop-next.invariant.turn c.in-Some.ensures in
    omega (arith, few, c.requires.room.0)

pub loop-next-preserved : goal.loop-next-preserved
loop-next-preserved g c =
    let on = c.loop-next.invariant in
    let can = subst (λ j. Runnable g.C.Cost.ops j c.args.root) (sym on.job) c.requires.runnable in
    let now_state = state_of g.C.Cost.ops c.loop-next.tables c.loop-next.count in
    let next-state = state_of g.C.Cost.ops c.settle.new.tables (c.loop-next.count + 1) in
    record {
      same = same_then on.same c.settle.ensures.same;
      job = c.settle.ensures.job ∙ on.job;
      ready = c.settle.ensures.ready;
      turn =
          subst (λ j. Ongoing g.C.Cost.ops j c.args.root next-state c.settle.new.queue (c.loop-next.count + 1)) (sym c.settle.ensures.job)
          (goes_on g.met.C.Cost.lawful (g.S.Stage.job c.loop-next.stage) c.args.root can now_state c.loop-next.queue c.loop-next.count on.turn c.in-Some.next c.take_least.new.self c.in-Some.ensures next-state c.settle.ensures.state c.settle.new.queue c.settle.ensures.waiting);
    }

pub returns : goal.returns
returns g c =
    let on = c.loop-next.invariant in
    let can = subst (λ j. Runnable g.C.Cost.ops j c.args.root) (sym on.job) c.requires.runnable in
    let now_state : State g.row.C.Denot = state_of g.C.Cost.ops c.loop-next.tables c.loop-next.count in
    let end_is : now_state ≡ outcome g.C.Cost.ops (g.S.Stage.job c.args.stage.now) c.args.root =
    ends g.met.C.Cost.lawful (g.S.Stage.job c.loop-next.stage) c.args.root can now_state c.loop-next.queue c.loop-next.count on.turn c.in_default.ensures.0
    ∙ ap (λ j. outcome g.C.Cost.ops j c.args.root) on.job in
    record {
      same = on.same;
      job = on.job;
      ready = subst (λ S. g.S.Stage.ready c.loop-next.stage S) (ap (λ s. s.order) end_is) on.ready;
      labels = λ w h. ap (λ s. s.labels w) end_is;
      count = sym on.turn.counted ∙ ap (λ s. length s.order) end_is;
      order = ap (λ s. s.order) end_is;
    }
