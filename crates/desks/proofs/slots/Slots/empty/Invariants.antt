use Rattle.std.proofs.Common.{◌≡◌, None, ◌≤◌}
use Rattle.std.proofs.Math.ListN.{replicate}
use Rattle.desks.proofs.slots.Slots.empty.Given as goal

-- there is room, and each slot so far is empty
abbrev pub invariant-loop : goal.invariant-loop
invariant-loop l = record {
  empty : l.list.items ≡ replicate l.counter None;
  size : l.list.len ≡ l.counter;
  most : l.counter ≤ 32;
  room : 32 ≤ l.list.cap;
}
