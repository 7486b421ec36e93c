-- One row more is held, of fewer than eight, with the certificate of its circuit.
use Rattle.std.proofs.Common.{rules, sym}
use Rattle.std.proofs.lemmas.Bool.{eq-eqb}
use Rattle.certificates.specs.Calls.{held as fields_held}
use Rattle.ledger.specs.Rows.{held, entries}
use Rattle.ledger.proofs.Rules.{can_hold, one_more, still_numbered}
use Rattle.ledger.proofs.ledger.Ledger.hold.Goals as goal

pub invariant_of-self : goal.invariant_of-self
invariant_of-self c =
    let rows = entries c.args.self.now.rows in
    let after = entries c.fill.new.self in
    let entry = held (fields_held c.args.certificate) in
    let circuit = c.circuit-circuit.result in
    let p = can_hold rows circuit (search rules) in
    record {
      few = one_more rows after circuit entry c.fill.ensures p.0 p.1;
      numbered = still_numbered rows after circuit entry c.fill.ensures c.args.self.now.numbered (eq-eqb _ _ (sym c.circuit-circuit.ensures));
    }
