-- The sums of two routes fit 32 bits.
use Rattle.std.proofs.Common.{arith}
use Rattle.pair_certificates.proofs.Sums.{sums_most}
use Rattle.pair_certificates.proofs.certifying.certify.Goals as goal

pub overflow_add-metres_one : goal.overflow_add-metres_one
overflow_add-metres_one g c =
    let n = g.N.Network.meaning c.args.network.now in
    let sound = g.met.N.Network.sound c.args.network.now in
    let one = sums_most n sound c.args.one.now c.in-Ok-Ok.ensures.1 c.add_up-metres_one.result c.add_up-metres_one.ensures in
    let two = sums_most n sound c.args.two.now c.in-Ok-Ok.ensures'.1 c.add_up-metres_two.result c.add_up-metres_two.ensures in
    omega (arith, one.0, one.1, two.0, two.1)

pub overflow_add-poles_one : goal.overflow_add-poles_one
overflow_add-poles_one g c =
    let n = g.N.Network.meaning c.args.network.now in
    let sound = g.met.N.Network.sound c.args.network.now in
    let one = sums_most n sound c.args.one.now c.in-Ok-Ok.ensures.1 c.add_up-metres_one.result c.add_up-metres_one.ensures in
    let two = sums_most n sound c.args.two.now c.in-Ok-Ok.ensures'.1 c.add_up-metres_two.result c.add_up-metres_two.ensures in
    omega (arith, one.0, one.1, two.0, two.1)
