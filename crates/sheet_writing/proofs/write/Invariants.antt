-- The names and the links so far are written; the names left tell whether one is too long.
use Rattle.std.proofs.Common.{◌≡◌, ◌++◌, map, take, drop, vec_items}
use Rattle.std.specs.List.{flat_map}
use Rattle.sheet_format.specs.Items.{name, link, bytes_of}
use Rattle.sheet_writing.specs.Wholes.{named, long_name}
use Rattle.sheet_writing.proofs.write.Given as goal

abbrev pub invariant-loop-name : goal.invariant-loop-name
invariant-loop-name l =
    (vec_items l.out ≡ vec_items l.initial.out ++ flat_map (λ n. bytes_of (name n)) (map named (take l.name-index l.names)))
    × (long_name (map named (drop l.name-index l.names)) ≡ long_name (map named l.names))

abbrev pub invariant-loop-link : goal.invariant-loop-link
invariant-loop-link l = vec_items l.out ≡ vec_items l.initial.out ++ flat_map (λ k. bytes_of (link k)) (take l.link-index l.links)
