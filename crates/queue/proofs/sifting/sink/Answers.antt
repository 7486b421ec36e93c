-- An entry sinks: what a turn of the loop keeps, and when it ends.
use Rattle.std.proofs.Common.{◌≡◌, ◌<◌, length, true, Some, sym, subst, ◌∙◌, arith}
use Rattle.std.proofs.lemmas.List.Edits.{Swapped, swapped_from_swap}
use Rattle.queue.specs.Entries.{entry_at, before, Rearranged}
use Rattle.queue.specs.Heaps.{LeastBelow, HeapBelow}
use Rattle.queue.proofs.Standing.{rearranged_swap, rearranged_trans}
use Rattle.queue.proofs.Rising.{sink_step, read_before}
use Rattle.queue.proofs.sifting.sink.Goals as goal

pub loop-below-preserved : goal.loop-below-preserved
loop-below-preserved g c =
    let k = g.C.Cost.ops in
    let first = entry_at k c.args.entries.now in
    let xs = c.loop-below.entries in
    let ys = c.swap.new.self in
    let n = length xs in
    let at = c.loop-below.at in
    let to = c.in-Some.below in
    let inv = c.loop-below.invariant in
    let least : LeastBelow k (entry_at k xs) n at (Some to) = c.in-Some.ensures in
    let high : at < n = omega (arith, least.0, least.1, least.2) in
    let same : length ys ≡ n = c.swap.ensures.len in
    let sw : Swapped (entry_at k xs) (entry_at k ys) at to =
    swapped_from_swap xs ys at to (record { cost = k.zero; site = 0 }) high least.1 c.swap.ensures.after in
    let less : before k (entry_at k xs to) (entry_at k xs at) ≡ true =
    read_before k xs to at _ _ true least.1 high c.index-entries-below.is c.index-entries-at.is (sym c.if-not-precedes.ensures) in (
      same ∙ inv.0,
      subst (Rearranged first (entry_at k ys)) (sym same)
          (rearranged_trans _ (entry_at k xs) _ _ inv.1 (rearranged_swap (entry_at k xs) (entry_at k ys) n at to high least.1 sw inv.1.once)),
      subst (λ m. HeapBelow k (entry_at k ys) m to) (sym same)
          (sink_step g.met.C.Cost.lawful (entry_at k xs) (entry_at k ys) n at to inv.2 least less sw),
    )
