-- The planner's refusals: which each is in the list of all refusals.
use Rattle.planner_tables.specs.declared.refusing.PlannerRefusal.{PlannerRefusal}
use Rattle.planner_tables.specs.declared.refusing.PlannerRefusal.TheVariants as its
use Rattle.refusals.specs.declared.Refusal.{Refusal}
use Rattle.refusals.specs.declared.Refusal.TheVariants as listed

-- which refusal of the list each case is
abbrev pub refusal : PlannerRefusal → Refusal
refusal its.NotSites = listed.NotSites
refusal its.TableTooShort = listed.TableTooShort
refusal its.NoRoute = listed.NoRoute
refusal (its.OneLink link) = listed.OneLink link
