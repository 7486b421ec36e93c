-- The copy leaves what stands behind it.
use Rattle.std.proofs.Common.{◌+◌, ◌-◌, length, ap, arith}
use Rattle.std.proofs.lemmas.Slice.{drop-put_mid}
use Rattle.certificates.proofs.writing.put.Goals as goal

pub returns-clause-left : goal.returns-clause-left
returns-clause-left c =
    let place = c.args.place in
    let size = length c.args.bytes.now in
    drop-put_mid place (place + size - place) c.args.buffer.now c.copy_from_slice.new.self (place + size) (omega arith) (omega arith) (omega (arith, ap length c.copy_from_slice.ensures.after))
