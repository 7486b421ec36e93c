-- A number that is no link has no length.
use Rattle.std.proofs.Common.{ap, ◌∙◌}
use Rattle.std.specs.Result.{result_unwrap_or}
use Rattle.route_links.proofs.Summing.{lengths_told}
use Rattle.route_links.proofs.lengths.lengths_of.Goals as goal

pub returns : goal.returns
returns g c = c.unwrap_or.ensures ∙ ap (λ r. result_unwrap_or r (0, 0)) c.lengths.ensures ∙ lengths_told (g.N.Network.meaning c.args.network.now) c.args.link
