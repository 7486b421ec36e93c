-- The marking: each site that it comes to has been settled in the second run.
use Rattle.std.proofs.Common.{◌≡◌, refl, ◌∙◌, subst, arith}
use Rattle.pairs.specs.Reading.{second_of}
use Rattle.pairs.proofs.Turns.{Marking, marking_none, marking_done, within_room}
use Rattle.pairs.proofs.Both.{labelled_settled, second_ran, turn}
use Rattle.pairs.proofs.reading.mark_turns.Goals as goal

pub loop-site-init : goal.loop-site-init
loop-site-init g c =
    let n = g.N.Network.meaning c.args.network.now in
    let sound = g.met.N.Network.sound c.args.network.now in
    let run = second_ran g.met.C.Cost.lawful n sound c.args.root c.requires.root in
    let settled = labelled_settled run c.args.target c.requires.target in
    record {
      settled = settled;
      marking = marking_none (second_of g.C.Cost.ops n c.args.root) c.args.root c.args.target (g.M.Marks.marked c.clear.new.self) c.clear.ensures.set;
      low = run.sites c.args.target settled;
      few = omega (arith, sound.most_sites);
      rooms = refl;
    }

pub loop-site-smaller : goal.loop-site-smaller
loop-site-smaller g c =
    let rooms : g.M.Marks.rooms c.loop-site.marks ≡ g.M.Marks.rooms c.args.marks.now = c.loop-site.invariant.rooms ∙ c.clear.ensures.room in
    let more = within_room (g.M.Marks.rooms c.loop-site.marks) c.loop-site.site (g.M.Marks.marked c.loop-site.marks) (g.M.Marks.marked c.mark.new.self) (omega (arith, c.loop-site.invariant.low, c.requires.room, rooms)) c.mark.ensures.set in
    (turn g.met.C.Cost.lawful (g.N.Network.meaning c.args.network.now) (g.met.N.Network.sound c.args.network.now) c.args.root c.requires.root c.args.turns.now c.requires.size c.requires.turns c.args.target c.loop-site.site
    (g.M.Marks.marked c.loop-site.marks) (g.M.Marks.marked c.mark.new.self) c.loop-site.invariant.settled c.loop-site-test.true more c.loop-site.invariant.marking).fewer

pub loop-site-preserved : goal.loop-site-preserved
loop-site-preserved g c =
    let rooms : g.M.Marks.rooms c.loop-site.marks ≡ g.M.Marks.rooms c.args.marks.now = c.loop-site.invariant.rooms ∙ c.clear.ensures.room in
    let more = within_room (g.M.Marks.rooms c.loop-site.marks) c.loop-site.site (g.M.Marks.marked c.loop-site.marks) (g.M.Marks.marked c.mark.new.self) (omega (arith, c.loop-site.invariant.low, c.requires.room, rooms)) c.mark.ensures.set in
    let n = g.N.Network.meaning c.args.network.now in
    let sound = g.met.N.Network.sound c.args.network.now in
    let t = turn g.met.C.Cost.lawful n sound c.args.root c.requires.root c.args.turns.now c.requires.size c.requires.turns c.args.target c.loop-site.site
    (g.M.Marks.marked c.loop-site.marks) (g.M.Marks.marked c.mark.new.self) c.loop-site.invariant.settled c.loop-site-test.true more c.loop-site.invariant.marking in
    record {
      settled = t.settled;
      marking = t.marking;
      low = (second_ran g.met.C.Cost.lawful n sound c.args.root c.requires.root).sites _ t.settled;
      few = c.loop-site.invariant.few;
      rooms = c.mark.ensures.room ∙ c.loop-site.invariant.rooms;
    }

pub returns : goal.returns
returns g c =
    let n = g.N.Network.meaning c.args.network.now in
    let run = second_ran g.met.C.Cost.lawful n (g.met.N.Network.sound c.args.network.now) c.args.root c.requires.root in
    let marked = g.M.Marks.marked c.loop-site.marks in
    record {
      set = marking_done run c.args.target marked (subst (λ w. Marking (second_of g.C.Cost.ops n c.args.root) c.args.root c.args.target marked w) c.loop-site-test.false c.loop-site.invariant.marking);
      room = c.loop-site.invariant.rooms ∙ c.clear.ensures.room;
    }
