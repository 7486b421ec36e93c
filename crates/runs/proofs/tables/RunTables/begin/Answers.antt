-- The tables at the beginning hold the root's label alone.
use Rattle.std.proofs.Common.{◌≡◌, length, replicate, ◌∙◌}
use Rattle.least_pairs.specs.Runs.{relabelled}
use Rattle.runs.specs.Tables.{held}
use Rattle.runs.proofs.Reading.{held_begun}
use Rattle.runs.proofs.tables.RunTables.begin.Goals as goal

pub returns-clause-labels : goal.returns-clause-labels
returns-clause-labels g c =
    let k = g.C.Cost.ops in
    let tables = c.args.self.now in
    let filled : c.fill.new.self ≡ replicate (length tables.links.now) 65535 = c.fill.ensures.after (λ y e. e) in
    c.write.ensures.labels
    ∙ (λ i. relabelled (held k tables.costs.now (filled i) tables.turns.now) c.args.root (record { cost = c.zero.ensures i; link = 0; turn = c.args.root }))
    ∙ held_begun k tables.costs.now tables.turns.now (length tables.links.now) c.args.root
