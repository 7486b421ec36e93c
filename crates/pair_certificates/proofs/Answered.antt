-- A pair that a planning answers is short and shares no link, so its fields are within the limits.
use Rattle.std.proofs.Common.{subst}
use Rattle.costs.specs.Costs.{Ops, Laws}
use Rattle.least_pairs.specs.Views.{view}
use Rattle.least_pairs.specs.Plans.{pair}
use Rattle.least_pairs.specs.Rightness.{Says, NoSiteTwice}
use Rattle.least_pairs.proofs.Proved.{answers_are_true, no_route_visits_twice}
use Rattle.pair_certificates.specs.Pairs.{AnswersAreWithin}
use Rattle.pair_certificates.proofs.Within.{pairs_are_within}

pub answers_are_within : {C : Type 0} (k : Ops C) → Laws k → AnswersAreWithin k
answers_are_within k laws n sound circuit root target circuit_is from to apart one two total same =
    let v = view k n in
    let says : Says k v root target (pair one two total) = subst (Says k v root target) same (answers_are_true k laws n sound root target from to apart) in
    let short : NoSiteTwice v root (pair one two total) = subst (NoSiteTwice v root) same (no_route_visits_twice k laws n sound root target from to apart) in
    pairs_are_within k n sound circuit root target circuit_is from to apart one two says.0.pair short.0 short.1
