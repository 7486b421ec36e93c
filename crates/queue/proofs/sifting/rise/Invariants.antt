-- What the rise of an entry keeps.
use Rattle.std.proofs.Common.{◌≡◌, ◌<◌, length}
use Rattle.queue.specs.Entries.{entry_at, Rearranged}
use Rattle.queue.specs.Heaps.{HeapAbove}
use Rattle.queue.proofs.sifting.rise.Given as goal

abbrev pub invariant-loop-at : goal.invariant-loop-at
invariant-loop-at g l =
    (length l.entries ≡ length l.initial.entries)
    × (l.at < length l.entries)
    × Rearranged (entry_at g.C.Cost.ops l.initial.entries) (entry_at g.C.Cost.ops l.entries) (length l.entries)
    × HeapAbove g.C.Cost.ops (entry_at g.C.Cost.ops l.entries) (length l.entries) l.at

abbrev pub decreases-loop-at : goal.decreases-loop-at
decreases-loop-at g l = l.at
