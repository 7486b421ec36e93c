-- Within the limit the two sums fit their type.
use Rattle.std.proofs.Common.{◌≡◌, ◌+◌, ◌+ℤ◌, sym, arith, w64, to_z, of_z}
use Rattle.std.proofs.lemmas.Int.{ints}
use Rattle.std.proofs.lemmas.Bool.{leb-true}
use Rattle.costs.specs.Costs.{limit}
use Rattle.costs.specs.PairLaws.{pair_worked}
use Rattle.costs.proofs.pairs.FirstThenCost.sum.Goals as goal

pub returns-then-within_together : goal.returns-then-within_together
returns-then-within_together g c =
    let x = c.args.self in
    let y = c.args.other in
    let test = sym c.if-within_together.ensures in
    let within = leb-true (c.size.result + c.size-2.result) limit test in
    let first : to_z w64 (of_z w64 (to_z w64 (of_z w64 x.first) +ℤ to_z w64 (of_z w64 y.first))) ≡ x.first +ℤ y.first = omega (arith, ints) in
    let second : to_z w64 (of_z w64 (to_z w64 (of_z w64 x.second) +ℤ to_z w64 (of_z w64 y.second))) ≡ x.second +ℤ y.second = omega (arith, ints) in
    pair_worked g.row.P.Denot g.P.Parts.numbers x y c.size.result c.size-2.result _ _ c.size.ensures c.size-2.ensures test first second
