-- Before any strike the sites reached have the root's mark.
use Rattle.std.proofs.Common.{false, refl, arith}
use Rattle.std.proofs.lemmas.Bool.{both_ways}
use Rattle.stages.proofs.Considering.{first_marks}
use Rattle.stages.proofs.second.SecondStage.new.Goals as goal

pub returns-clause-ready : goal.returns-clause-ready
returns-clause-ready g c =
    let network = c.args.first.network.now in
    record {
      first_left = c.args.first.left;
      pieces = c.requires.piece;
      parts = omega (arith, c.requires.part);
      struck = λ w h. absurd (both_ways false refl h);
      part_marks = first_marks g.met.C.Cost.lawful (g.N.Network.meaning network) (g.met.N.Network.sound network) c.args.first.left c.begin_marks.new.marks (λ w h. c.begin_marks.ensures.begun w (omega (arith, h)));
      piece_marks = tt;
    }
