-- What the bytes mean, where they write fields.
use Rattle.std.proofs.Common.{rules, sym}
use Rattle.certificates.specs.Certificates.{fields_of}
use Rattle.certificates.proofs.Gives.{reads, refuses}
use Rattle.certificates.proofs.reading.read_record.Goals as goal

pub returns : goal.returns
returns c =
    reads c.args.bytes.now _ _ _ c.in-Some.ensures c.type_inv.bytes c.if-head-ne-KIND.false (sym c.if-not-is_last.ensures) c.in_ok-fields.ensures.0 (fields_of c.in_ok-fields.fields) c.in_ok-fields.ensures.1 c.new.result c.map_err.result _ c.new.ensures c.map_err.ensures.cases (λ e y h. search rules)

pub returns-in_err-fields : goal.returns-in_err-fields
returns-in_err-fields c =
    let h = refuses c.args.bytes.now _ _ _ c.in-Some.ensures c.type_inv.bytes c.if-head-ne-KIND.false (sym c.if-not-is_last.ensures) c.in_err-fields.field-0.0 c.in_err-fields.ensures in
    search (rules, h)
