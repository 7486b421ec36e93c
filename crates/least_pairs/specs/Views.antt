-- A network as a cost kind sees it: what a planner asks of it, by link number.
use Rattle.std.specs.Prelude.{ℕ, Bool, not, ◌&&◌, length, ◌==◌}
use Rattle.costs.specs.Costs.{Ops}
use Rattle.networks.specs.Meaning.{Net, link_at, usable}

-- the number of sites and of links; of a link its start, its end, whether it is usable, and its cost
pub record View (C : Type 0) : Type 0 where
  pub sites : ℕ
  pub links : ℕ
  pub start : ℕ → ℕ
  pub end : ℕ → ℕ
  pub usable : ℕ → Bool
  pub cost : ℕ → C

-- the view of a network by a cost kind
abbrev pub view : {C : Type 0} → Ops C → Net → View C
view k n = record {
  sites = n.sites;
  links = length n.links;
  start = λ e. (link_at n e).start;
  end = λ e. (link_at n e).end;
  usable = λ e. usable (link_at n e);
  cost = λ e. k.link (record { metres = (link_at n e).metres; poles = (link_at n e).poles });
}

-- the same with one link left out
abbrev pub without : {C : Type 0} → ℕ → View C → View C
without f v = record {
  sites = v.sites;
  links = v.links;
  start = v.start;
  end = v.end;
  usable = λ e. v.usable e && not (e == f);
  cost = v.cost;
}
