-- The marks before the index are made, and the others are as they were.
use Rattle.std.proofs.Common.{◌≡◌, ℕ, ◌<◌, ◌≤◌, cond, eqb, get_or}
use Rattle.stages.proofs.pieces.begin_marks.Given as goal

abbrev pub invariant-loop-mark : goal.invariant-loop-mark
invariant-loop-mark l =
    ((w : ℕ) → w < l.mark-index → get_or l.first w 0 ≡ cond (eqb (get_or l.initial.first w 0) 65535) 65535 l.root)
    × ((w : ℕ) → l.mark-index ≤ w → get_or l.first w 0 ≡ get_or l.initial.first w 0)
