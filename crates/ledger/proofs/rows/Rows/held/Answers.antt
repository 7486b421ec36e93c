-- The rows that pass the test are counted circuit by circuit.
use Rattle.std.proofs.Common.{◌≡◌, rules, ◌∙◌}
use Rattle.std.specs.List.{count_by}
use Rattle.ledger.specs.Rows.{entry_of, is_held}
use Rattle.ledger.proofs.Counting.{counted}
use Rattle.ledger.proofs.rows.Rows.held.Goals as goal

pub returns : goal.returns
returns c =
    let e : c.count.result ≡ count_by (λ row. is_held (entry_of row)) c.args.self.now.list = search rules in
    e ∙ counted c.args.self.now (search rules)
