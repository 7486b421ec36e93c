-- The theorem, as it is proved of the definitions.
use Rattle.least_pairs.proofs.Proved.{no_route_visits_twice}
use Rattle.least_pairs.proofs.routes_visit_no_site_twice.Goals as goal

pub returns : goal.returns
returns g c = no_route_visits_twice g.C.Cost.ops g.met.C.Cost.lawful
