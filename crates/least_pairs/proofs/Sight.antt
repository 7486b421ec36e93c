-- Views on which a planning can be right.
use Rattle.std.proofs.Common.{◌≡◌, ℕ, ◌<◌, true}
use Rattle.costs.specs.Costs.{Ops, Le}
use Rattle.least_pairs.specs.Views.{View}

-- a sound view: usable links are links between two different sites and cost zero or more
pub record SoundView {C : Type 0} (k : Ops C) (v : View C) : Type 0 where
  pub link : (e : ℕ) → v.usable e ≡ true → e < v.links
  pub start : (e : ℕ) → v.usable e ≡ true → v.start e < v.sites
  pub end : (e : ℕ) → v.usable e ≡ true → v.end e < v.sites
  pub apart : (e : ℕ) → v.usable e ≡ true → v.start e ≡ v.end e → ⊥
  pub least : (e : ℕ) → v.usable e ≡ true → Le k k.zero (v.cost e)
