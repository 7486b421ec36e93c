-- What lent tables hold, and that they stay the ones that were lent.
use Rattle.std.specs.Prelude.{◌≡◌, ℕ, Option}
use Rattle.costs.specs.Costs.{Ops}
use Rattle.least_pairs.specs.Runs.{Label, State}
use Rattle.runs.specs.declared.tables.RunTables.{RunTables}
use Rattle.runs.specs.Tables.{held, read}

-- the labels that the tables hold
abbrev pub labels_of : {C : Type 0} → Ops C → RunTables C → ℕ → Option (Label C)
labels_of k t = held k t.costs.now t.links.now t.turns.now

-- the state that the tables hold: the labels, and the first settled sites, the newest first
abbrev pub state_of : {C : Type 0} → Ops C → RunTables C → ℕ → State C
state_of k t count = read k t.costs.now t.links.now t.turns.now t.order.now count

-- the tables are the same lent ones, for as many sites; what stands in them may have changed
pub record SameTables {C : Type 0} (s t : RunTables C) : Type 0 where
  pub sites : t.sites ≡ s.sites
  pub costs : t.costs.ghost_name ≡ s.costs.ghost_name
  pub links : t.links.ghost_name ≡ s.links.ghost_name
  pub turns : t.turns.ghost_name ≡ s.turns.ghost_name
  pub order : t.order.ghost_name ≡ s.order.ghost_name
