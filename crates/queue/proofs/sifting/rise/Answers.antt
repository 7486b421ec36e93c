-- An entry rises: what a turn of the loop keeps.
use Rattle.std.proofs.Common.{◌≡◌, ◌<◌, length, true, sym, subst, ◌∙◌, arith}
use Rattle.std.proofs.lemmas.List.Edits.{Swapped, swapped_from_swap}
use Rattle.queue.specs.Entries.{entry_at, before, Rearranged}
use Rattle.queue.specs.Heaps.{above, HeapAbove}
use Rattle.queue.proofs.Standing.{rearranged_swap, rearranged_trans}
use Rattle.queue.proofs.Rising.{rise_step, read_before}
use Rattle.queue.proofs.sifting.rise.Goals as goal

pub loop-at-preserved : goal.loop-at-preserved
loop-at-preserved g c =
    let k = g.C.Cost.ops in
    let first = entry_at k c.args.entries.now in
    let xs = c.loop-at.entries in
    let ys = c.swap.new.self in
    let at = c.loop-at.at in
    let inv = c.loop-at.invariant in
    let high : at < length xs = inv.1 in
    let same : length ys ≡ length xs = c.swap.ensures.len in
    let sw : Swapped (entry_at k xs) (entry_at k ys) at (above at) =
    swapped_from_swap xs ys at (above at) (record { cost = k.zero; site = 0 }) high (omega arith) c.swap.ensures.after in
    let less : before k (entry_at k xs at) (entry_at k xs (above at)) ≡ true =
    read_before k xs at (above at) _ _ true high (omega arith) c.index-entries-at.is c.index-entries-above.is (sym c.if-not-precedes.ensures) in (
      same ∙ inv.0,
      omega arith,
      subst (Rearranged first (entry_at k ys)) (sym same)
          (rearranged_trans _ (entry_at k xs) _ _ inv.2 (rearranged_swap (entry_at k xs) (entry_at k ys) (length xs) at (above at) high (omega arith) sw inv.2.once)),
      subst (λ n. HeapAbove k (entry_at k ys) n (above at)) (sym same)
          (rise_step g.met.C.Cost.lawful (entry_at k xs) (entry_at k ys) (length xs) at c.loop-at-test.true high inv.3 less sw),
    )
