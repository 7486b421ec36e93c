-- What is proved of plannings, over every sound network and every lawful cost kind.
use Rattle.std.specs.Prelude.{◌≡◌, ℕ, ◌<◌, List, ◌≢◌}
use Rattle.costs.specs.Costs.{Ops}
use Rattle.networks.specs.Meaning.{Net, Sound}
use Rattle.least_pairs.specs.Views.{View, view}
use Rattle.least_pairs.specs.Routes.{Route, Pair, NoRoute, Shared}
use Rattle.least_pairs.specs.Runs.{State}
use Rattle.least_pairs.specs.Laws.{RunLaws, Same}
use Rattle.least_pairs.specs.Plans.{first_job, second_job, first_run, second_run, answer, Entry, root_entry, total_entry, no_route_entry, one_link_entry, survey}
use Rattle.least_pairs.specs.Rightness.{Says, Exactly, NoSiteTwice, Right, RightEntry}
use Rattle.least_pairs.specs.Sizing.{SumsFit}

-- a statement of every view of a sound network, with a root and a target that are two different sites
abbrev pub OfEveryTarget : {C : Type 0} → Ops C → (View C → ℕ → ℕ → Type 0) → Type 0
OfEveryTarget k P = (n : Net) → Sound n → (root target : ℕ) → root < n.sites → target < n.sites → (root ≢ target) → P (view k n) root target

-- a statement of every view of a sound network, with a root that is a site
abbrev pub OfEveryRoot : {C : Type 0} → Ops C → (View C → ℕ → Type 0) → Type 0
OfEveryRoot k P = (n : Net) → Sound n → (root : ℕ) → root < n.sites → P (view k n) root

-- an answered pair is least and its total is its cost; no route and one link are answered only where true, the link being the one that all routes meet first
abbrev pub AnswersAreTrue : {C : Type 0} → Ops C → Type 0
AnswersAreTrue k = OfEveryTarget k (λ v root target. Says k v root target (answer k v root target))

-- each answer comes wherever it is true
abbrev pub AnswersComeExactlyWhenTrue : {C : Type 0} → Ops C → Type 0
AnswersComeExactlyWhenTrue k = OfEveryTarget k (λ v root target. Exactly v root target (answer k v root target))

-- no route of an answered pair visits a site twice, and each has at least one link and fewer than there are sites
abbrev pub RoutesVisitNoSiteTwice : {C : Type 0} → Ops C → Type 0
RoutesVisitNoSiteTwice k = OfEveryTarget k (λ v root target. NoSiteTwice v root (answer k v root target))

-- the three together
abbrev pub AnswersAreRight : {C : Type 0} → Ops C → Type 0
AnswersAreRight k = OfEveryTarget k (λ v root target. Right k v root target (answer k v root target))

-- an entry of a survey that is right, and comes wherever it is true
pub record RightSurvey {C : Type 0} (k : Ops C) (v : View C) (root w : ℕ) (entry : Entry C) : Type 0 where
  pub says : RightEntry k v root w entry
  pub at_root : w ≡ root → entry ≡ root_entry
  pub none : (w ≢ root) → NoRoute v root w → entry ≡ no_route_entry
  pub cut : (w ≢ root) → (e : ℕ) (es : List ℕ) → Route v root w es → Shared v root w e → (f : ℕ) × (entry ≡ one_link_entry f)
  pub two : (w ≢ root) → (one two : List ℕ) → Pair v root w one two → (z : C) × (entry ≡ total_entry z)

-- every entry of a survey is right
abbrev pub SurveysAreRight : {C : Type 0} → Ops C → Type 0
SurveysAreRight k = OfEveryRoot k (λ v root. (w : ℕ) → w < v.sites → RightSurvey k v root w (survey k v root w))

-- every sum that a planning works out is exact
abbrev pub SumsAreExact : {C : Type 0} → Ops C → Type 0
SumsAreExact k = OfEveryRoot k (λ v root. SumsFit k v root (first_run k v root) (second_run k v root (first_run k v root)))

-- both runs keep the laws of a finished run, and the laws determine what they leave
abbrev pub RunsKeepTheirLaws : {C : Type 0} → Ops C → Type 0
RunsKeepTheirLaws {C = C} k = OfEveryRoot k (λ v root.
    RunLaws k (first_job v) root (first_run k v root)
    × ((s : State C) → RunLaws k (first_job v) root s → Same s (first_run k v root))
    × RunLaws k (second_job k v root (first_run k v root)) root (second_run k v root (first_run k v root))
    × ((s : State C) → RunLaws k (second_job k v root (first_run k v root)) root s → Same s (second_run k v root (first_run k v root))))
