-- What a survey answers, by cases of the result.
use Rattle.std.specs.Prelude.{◌≡◌, ℕ, ◌<◌, Bool, true, false, ltb, List, drop, Ok, Err, Result, nat_lt, slice_index_or}
use Rattle.costs.specs.Costs.{Ops}
use Rattle.networks.specs.Meaning.{Net}
use Rattle.least_pairs.specs.Views.{view}
use Rattle.least_pairs.specs.Plans.{Entry, root_entry, total_entry, no_route_entry, one_link_entry, survey}
use Rattle.least_pairs.specs.Theorems.{RightSurvey}
use Rattle.planner_tables.specs.declared.refusing.PlannerRefusal.{PlannerRefusal}
use Rattle.planner_tables.specs.declared.refusing.PlannerRefusal.TheVariants.{NotSites, TableTooShort, NoRoute, OneLink}
use Rattle.surveys.specs.declared.outcome.Outcome.{Outcome}
use Rattle.surveys.specs.declared.outcome.Outcome.TheVariants as its

-- the entry of a survey that each outcome is
abbrev pub told : {C : Type 0} → Outcome C → Entry C
told its.Root = root_entry
told (its.Total total) = total_entry total
told its.NoRoute = no_route_entry
told (its.OneLink link) = one_link_entry link

-- the outcome of a site, which is right
pub record OutcomeIs {C : Type 0} (k : Ops C) (n : Net) (root w : ℕ) (o : Outcome C) : Type 0 where
  pub is : told o ≡ survey k (view k n) root w
  pub right : RightSurvey k (view k n) root w (told o)

-- a root that is a site, and tables that are long enough or not
pub record RootAsked (sites root : ℕ) (room long : Bool) : Type 0 where
  pub root_stands : ltb root sites ≡ true
  pub room_is : room ≡ long

-- what a survey answers: a refusal leaves the survey table as it was; else it has an outcome for each site, and the entries past these are as they were
abbrev pub Surveyed : {C : Type 0} → Ops C → Net → ℕ → Bool → Result ℕ PlannerRefusal → List (Outcome C) → List (Outcome C) → Type 0
Surveyed k n root room (Err NotSites) table after = (nat_lt root n.sites ≡ false) × (after ≡ table)
Surveyed k n root room (Err TableTooShort) table after = RootAsked n.sites root room false × (after ≡ table)
Surveyed k n root room (Err NoRoute) table after = ⊥
Surveyed k n root room (Err (OneLink link)) table after = ⊥
Surveyed k n root room (Ok sites) table after =
    RootAsked n.sites root room true
    × (sites ≡ n.sites)
    × ((w : ℕ) → w < n.sites → OutcomeIs k n root w (slice_index_or after w its.Root))
    × (drop n.sites after ≡ drop n.sites table)
