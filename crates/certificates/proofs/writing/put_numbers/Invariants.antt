-- The numbers so far stand in the buffer at their place, and the next goes behind them.
use Rattle.std.proofs.Common.{◌≡◌, ◌+◌, ◌*◌, ◌++◌, take, drop}
use Rattle.std.specs.List.{flat_map}
use Rattle.records.specs.Bytes.{le16}
use Rattle.certificates.proofs.writing.put_numbers.Given as goal

abbrev pub invariant-loop-number : goal.invariant-loop-number
invariant-loop-number l = record {
  behind : l.behind ≡ l.place + 2 * l.number-index;
  written : take l.behind l.buffer ≡ take l.place l.initial.buffer ++ flat_map le16 (take l.number-index l.numbers);
  left : drop l.behind l.buffer ≡ drop l.behind l.initial.buffer;
}
