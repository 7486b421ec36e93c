-- What the sinking of an entry keeps.
use Rattle.std.proofs.Common.{◌≡◌, ◌-◌, length}
use Rattle.queue.specs.Entries.{entry_at, Rearranged}
use Rattle.queue.specs.Heaps.{HeapBelow}
use Rattle.queue.proofs.sifting.sink.Given as goal

abbrev pub invariant-loop-below : goal.invariant-loop-below
invariant-loop-below g l =
    (length l.entries ≡ length l.initial.entries)
    × Rearranged (entry_at g.C.Cost.ops l.initial.entries) (entry_at g.C.Cost.ops l.entries) (length l.entries)
    × HeapBelow g.C.Cost.ops (entry_at g.C.Cost.ops l.entries) (length l.entries) l.at

abbrev pub decreases-loop-below : goal.decreases-loop-below
decreases-loop-below g l = length l.entries - l.at
