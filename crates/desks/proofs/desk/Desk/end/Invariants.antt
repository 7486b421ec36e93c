use Rattle.std.proofs.Common.{◌≡◌, ℕ, ◌&&◌, cond, take, drop, nat_lt, vec_len}
use Rattle.std.specs.Prelude.{filter}
use Rattle.std.specs.List.{range_with_len}
use Rattle.ledger.specs.Rows.{vacant, is_held}
use Rattle.boards.specs.Boards.{state}
use Rattle.desks.specs.Desks.{withdrawals, DoesAll}
use Rattle.desks.proofs.desk.Desk.end.Given as goal

-- the slots left are the first ones, and the circuits of the others were withdrawn where they were held
abbrev pub invariant-loop-slot : goal.invariant-loop-slot
invariant-loop-slot g l =
    let s = state g.N.Network.meaning l.initial.board in
    let t = state g.N.Network.meaning l.board in
    let n = vec_len l.list in
    record {
      slots : l.list.items ≡ take n l.initial.list.items;
      number : t.number ≡ s.number;
      rows : (c : ℕ) → t.rows c ≡ cond (nat_lt n c && is_held (s.rows c)) vacant (s.rows c);
      done : DoesAll s (withdrawals s.number (filter (λ c. is_held (s.rows c)) (drop n (range_with_len 1 32)))) t;
    }

abbrev pub decreases-loop-slot : goal.decreases-loop-slot
decreases-loop-slot g l = goal.left-loop-slot g l
