-- Both runs leave what the outcomes are told from.
use Rattle.std.proofs.Common.{ap, arith}
use Rattle.surveys.proofs.Entries.{survey_told}
use Rattle.surveys.proofs.surveying.tell_survey.Goals as goal

pub tell_sites-requires : goal.tell_sites-requires
tell_sites-requires g c = omega (arith, c.requires.survey, ap (λ x. (g.N.Network.meaning x).sites) c.new-labels.ensures.network)

pub returns : goal.returns
returns g c =
    survey_told g.C.Cost.ops (g.N.Network.meaning c.args.network.now) _ c.args.root _ (ap g.N.Network.meaning c.new-labels.ensures.network) c.new-labels.ensures.root
    c.tell_sites.result c.args.survey.now c.tell_sites.new.survey c.requires.root c.tell_sites.ensures.count c.tell_sites.ensures.outcomes c.tell_sites.ensures.rest
