-- A settled site spreads its label link by link.
use Rattle.std.proofs.Common.{◌≡◌, ℕ, ◌<◌, List, ◌∷◌, reverse, take, sym, ap, ◌∙◌, subst}
use Rattle.runs.specs.Lent.{labels_of}
use Rattle.runs.specs.Turns.{Turn, Offering}
use Rattle.runs.proofs.Stepping.{turned_same, turn_same, same_then, order_same, partway_skip, partway_take}
use Rattle.runs.proofs.settling.settle.Goals as goal

pub loop-link-preserved : goal.loop-link-preserved
loop-link-preserved g c =
    let tables = c.args.tables.now in
    let before : List ℕ = reverse (take c.args.count tables.order.now) in
    let settled_before : List ℕ = reverse (take c.args.count c.settle.new.self.order.now) in
    let same : settled_before ≡ before = ap (λ o. reverse (take c.args.count o)) c.settle.ensures.order ∙ order_same tables.order.now c.args.count c.args.site in
    let job-same = c.strike.ensures.same in
    let old-turn = turn_same job-same same c.requires.turn in
    let start = labels_of g.C.Cost.ops c.settle.new.self in
    let turn = subst (λ z. Turn g.C.Cost.ops (g.S.Stage.job c.strike.new.self) z c.args.site c.args.cost settled_before) (sym c.settle.ensures.labels) old-turn in
    let below = subst (λ j. c.loop-link.link < j.links) (sym job-same) (subst (λ n. c.loop-link.link < n) c.requires.links.0 c.loop-link-test.true) in
    let ready = subst (λ S. g.S.Stage.ready c.strike.new.self (c.args.site ∷ S)) (sym same) (c.strike.ensures.stands before c.requires.ready c.requires.turn.left) in
    let labels = labels_of g.C.Cost.ops c.loop-link.tables in
    let on = c.loop-link.invariant in
    elim c.match-offer.branch [
      | goal.in-Some w ↦
          let found-is = w.in-Some.ensures settled_before ready in
          let next = labels_of g.C.Cost.ops w.offer_label.new.tables in
          let offering = subst (λ z. Offering g.C.Cost.ops w.in-Some.found.0 (record { cost = z; link = c.loop-link.link; turn = c.args.site }) labels next c.loop-link.queue w.offer_label.new.queue) w.sum.ensures w.offer_label.ensures.offering in
          turned_same w.tables-is w.queue-is (record {
            same = same_then on.same w.offer_label.ensures.same;
            order = w.offer_label.ensures.order ∙ on.order;
            turn = partway_take g.met.C.Cost.lawful (g.S.Stage.job c.strike.new.self) start c.args.site c.args.cost settled_before turn c.loop-link.link below labels c.loop-link.queue on.turn w.in-Some.found.0 w.in-Some.found.1 (sym found-is) next w.offer_label.new.queue offering;
          })
      | goal.in_default w ↦
          let none_is = w.in_default.ensures settled_before ready in
          turned_same w.tables-is w.queue-is (record {
            same = on.same;
            order = on.order;
            turn = partway_skip g.met.C.Cost.lawful (g.S.Stage.job c.strike.new.self) start c.args.site c.args.cost settled_before turn c.loop-link.link below labels c.loop-link.queue on.turn (sym none_is);
          })
    ]
