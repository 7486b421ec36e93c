-- The links left of the front stand once exactly where all do.
use Rattle.std.proofs.Common.{◌≡◌, length}
use Rattle.certificates.specs.Scanning.{fronts_once}
use Rattle.certificates.proofs.limits.are_once.Given as goal

abbrev pub invariant-loop-link : goal.invariant-loop-link
invariant-loop-link l = fronts_once l.rest l.back ≡ fronts_once l.front l.back

abbrev pub decreases-loop-link : goal.decreases-loop-link
decreases-loop-link l = length l.rest
