-- The links so far and those of the bytes left are the links of all bytes.
use Rattle.std.proofs.Common.{◌≡◌, ◌*◌, ◌+◌, ◌≤◌, ◌/◌, ◌++◌, length}
use Rattle.certificates.specs.Format.{links_in}
use Rattle.certificates.proofs.reading.read_links.Given as goal

abbrev pub invariant-loop-pair : goal.invariant-loop-pair
invariant-loop-pair l = record {
  room : length l.links.items * 2 + length l.pair-iterator.rest.now ≤ 510;
  size : l.pair-iterator.size ≡ 2;
  links : l.links.items ++ links_in (length l.pair-iterator.rest.now / 2) l.pair-iterator.rest.now ≡ links_in (length l.bytes / 2) l.bytes;
}
