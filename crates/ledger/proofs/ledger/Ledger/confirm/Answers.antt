-- A row that is confirmed is held no more, and keeps its certificate.
use Rattle.std.proofs.Common.{◌∙◌}
use Rattle.ledger.specs.Rows.{entries, confirmed_entry}
use Rattle.ledger.proofs.Rules.{no_more, still_numbered, not_held, same_number}
use Rattle.ledger.proofs.ledger.Ledger.confirm.Goals as goal

pub invariant_of-self : goal.invariant_of-self
invariant_of-self c =
    let rows = entries c.args.self.now.rows in
    let after = entries c.confirm.new.self in
    let circuit = c.args.circuit in
    let entry = confirmed_entry (rows circuit) in
    record {
      few = no_more rows after circuit entry c.confirm.ensures (not_held (rows circuit)) c.args.self.now.few;
      numbered = still_numbered rows after circuit entry c.confirm.ensures c.args.self.now.numbered (same_number (rows circuit) circuit ∙ c.args.self.now.numbered circuit);
    }
