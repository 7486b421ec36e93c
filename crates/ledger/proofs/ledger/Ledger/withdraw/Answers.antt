-- A row that is vacated is not held, and has no certificate.
use Rattle.std.proofs.Common.{refl}
use Rattle.ledger.specs.Rows.{vacant, entries}
use Rattle.ledger.proofs.Rules.{no_more, still_numbered}
use Rattle.ledger.proofs.ledger.Ledger.withdraw.Goals as goal

pub invariant_of-self : goal.invariant_of-self
invariant_of-self c =
    let rows = entries c.args.self.now.rows in
    let after = entries c.vacate.new.self in
    record {
      few = no_more rows after c.args.circuit vacant c.vacate.ensures.after refl c.args.self.now.few;
      numbered = still_numbered rows after c.args.circuit vacant c.vacate.ensures.after c.args.self.now.numbered refl;
    }
