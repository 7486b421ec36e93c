-- The marks of the sites settled earlier are new.
use Rattle.std.proofs.Common.{◌≡◌, reverse, take}
use Rattle.stages.specs.Marks.{renewed}
use Rattle.stages.proofs.pieces.renew.Given as goal

abbrev pub invariant-loop-site : goal.invariant-loop-site
invariant-loop-site l = l.marks ≡ renewed l.parents l.root l.struck (reverse (take l.site-index l.order)) l.initial.marks
