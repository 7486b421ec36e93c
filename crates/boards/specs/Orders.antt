-- What stands whatever the order of calls on a board.
use Rattle.std.specs.Prelude.{◌≡◌, ℕ, ◌+◌, ◌<◌, ◌≤◌, Bool, true, false, List, length, take, Ok, Err, Result, nat_lt, slice_index_or}
use Rattle.costs.specs.Costs.{Ops}
use Rattle.networks.specs.Meaning.{Net, link_at}
use Rattle.networks.specs.declared.model.NetworkRefusal.{NetworkRefusal}
use Rattle.networks.specs.Telling.{told, channels}
use Rattle.least_pairs.specs.Views.{view}
use Rattle.least_pairs.specs.Plans.{no_route, one_link, pair}
use Rattle.least_pairs.specs.Rightness.{Right}
use Rattle.least_pairs.specs.Theorems.{RightSurvey}
use Rattle.certificates.specs.Format.{Fields, certificate_bytes}
use Rattle.planner_tables.specs.declared.refusing.PlannerRefusal.{PlannerRefusal}
use Rattle.planner_tables.specs.declared.refusing.PlannerRefusal.TheVariants.{NotSites, TableTooShort, NoRoute, OneLink}
use Rattle.quotes.specs.Quotes.{two_sites, Asked, Quoted}
use Rattle.quotes.specs.declared.quotation.Quote.{Quote}
use Rattle.surveys.specs.Surveys.{RootAsked, Surveyed, told as entry_told}
use Rattle.surveys.specs.declared.outcome.Outcome.{Outcome}
use Rattle.surveys.specs.declared.outcome.Outcome.TheVariants as its
use Rattle.ledger.specs.Rows.{confirmed, hold_answer}
use Rattle.registers.specs.States.{State, shown}
use Rattle.registers.specs.Events.{Event}
use Rattle.registers.specs.Registers.{Register, register, links, circuits_over, runs_over}
use Rattle.registers.specs.Histories.{Came, Agrees}
use Rattle.registers.specs.Theorems.{HeldSo, EntryHeldSo}
use Rattle.boards.specs.Calls.{HoldAnswered, release_answer, Issued}
use Rattle.boards.specs.declared.hold.Held.{Held}
use Rattle.boards.specs.declared.refusing.HoldRefusal.{HoldRefusal}
use Rattle.boards.specs.declared.refusing.HoldRefusal.TheVariants as not_held
use Rattle.boards.specs.declared.refusing.IssueRefusal.{IssueRefusal}
use Rattle.boards.specs.declared.refusing.IssueRefusal.TheVariants as not_issued

-- a planner's refusal is true of a network, where tables are long enough or not: no two different sites; else a table too short; else no route, or the link that all routes use and meet first
abbrev pub TrueRefusal : {C : Type 0} → Ops C → Net → ℕ → ℕ → Bool → PlannerRefusal → Type 0
TrueRefusal k n root target room NotSites = two_sites n.sites root target ≡ false
TrueRefusal k n root target room TableTooShort = Asked n.sites root target room false
TrueRefusal k n root target room NoRoute = Asked n.sites root target room true × Right k (view k n) root target no_route
TrueRefusal k n root target room (OneLink link) = Asked n.sites root target room true × Right k (view k n) root target (one_link link)

-- a quote is true of a network: a pair is a least pair of routes at this total, and no route, one link and a pair are each answered exactly where true
abbrev pub TrueQuote : {C : Type 0} → Ops C → Net → ℕ → ℕ → Bool → Result (Quote C) PlannerRefusal → List ℕ → List ℕ → Type 0
TrueQuote k n root target room (Ok q) one two = Asked n.sites root target room true × Right k (view k n) root target (pair (take q.one one) (take q.two two) q.total)
TrueQuote k n root target room (Err why) one two = TrueRefusal k n root target room why

-- a survey is true of a network, site by site
abbrev pub TrueSurvey : {C : Type 0} → Ops C → Net → ℕ → Bool → Result ℕ PlannerRefusal → List (Outcome C) → Type 0
TrueSurvey k n root room (Ok sites) table = RootAsked n.sites root room true × (sites ≡ n.sites) × ((w : ℕ) → w < n.sites → RightSurvey k (view k n) root w (entry_told (slice_index_or table w its.Root)))
TrueSurvey k n root room (Err NotSites) table = nat_lt root n.sites ≡ false
TrueSurvey k n root room (Err TableTooShort) table = RootAsked n.sites root room false
TrueSurvey k n root room (Err NoRoute) table = ⊥
TrueSurvey k n root room (Err (OneLink link)) table = ⊥

-- a hold is true of a register: its circuits refuse the circuit so; else its pair is a least pair of routes over its links, or the planner's refusal is true of them
abbrev pub TrueHold : {C : Type 0} → Ops C → Register → ℕ → ℕ → ℕ → Bool → Result Held HoldRefusal → List ℕ → List ℕ → Type 0
TrueHold {C = C} k r circuit root target room (Ok h) one two =
    (hold_answer r.circuits circuit ≡ Ok tt)
    × Asked (links r).sites root target room true
    × ((total : C) × Right k (view k (links r)) root target (pair (take h.one one) (take h.two two) total))
TrueHold k r circuit root target room (Err (not_held.Ledger why)) one two = hold_answer r.circuits circuit ≡ Err why
TrueHold k r circuit root target room (Err (not_held.Planner why)) one two = (hold_answer r.circuits circuit ≡ Ok tt) × TrueRefusal k (links r) root target room why

-- what is told of a link's channels: those taken are those at the beginning, and one for each circuit that runs over the link; nothing is told where there is no such link
abbrev pub TrueChannels : Net → List Event → ℕ → Result (ℕ × ℕ) NetworkRefusal → Type 0
TrueChannels given events link (Ok both) = both.1 ≡ (link_at given link).taken + circuits_over (register given events).circuits link
TrueChannels given events link (Err why) = nat_lt link (length given.links) ≡ false

-- a certificate written: the register's circuit is confirmed, and it says what its circuit's hold was asked for and answered, with the sums of the links as they stood then; refused, the register's circuit is not confirmed, or the buffer is too short for what it says
abbrev pub TrueCertificate : Net → List Event → ℕ → Result ℕ IssueRefusal → List ℕ → List ℕ → Type 0
TrueCertificate given events circuit (Ok count) before after =
    (f : Fields)
    × (take count after ≡ certificate_bytes f)
    × ((register given events).circuits circuit ≡ confirmed f)
    × HeldSo given events circuit f
TrueCertificate given events circuit (Err (not_issued.Ledger why)) before after = release_answer (register given events).circuits circuit ≡ Err why
TrueCertificate given events circuit (Err not_issued.BufferTooShort) before after = (f : Fields) × ((register given events).circuits circuit ≡ confirmed f) × (length before < length (certificate_bytes f))

-- what stands of a board and its register: whatever it answers next is true of the register as it is before that call
pub record Trusted {C : Type 0} (k : Ops C) (number : ℕ) (given : Net) (events : List Event) (s : State) : Type 0 where
  -- it is the board of which the register tells, so that each call accepts and refuses what is right by the register
  pub agrees : Agrees number given events s
  -- a quote, a survey and a hold, by this cost kind, are true of the register
  pub quotes : (root target : ℕ) (room : Bool) (answer : Result (Quote C) PlannerRefusal) (one two one_after two_after : List ℕ) → Quoted k (shown s) root target room answer one two one_after two_after → TrueQuote k (links (register given events)) root target room answer one_after two_after
  pub surveys : (root : ℕ) (room : Bool) (answer : Result ℕ PlannerRefusal) (table after : List (Outcome C)) → Surveyed k (shown s) root room answer table after → TrueSurvey k (links (register given events)) root room answer after
  pub holds : (circuit root target : ℕ) (room : Bool) (answer : Result Held HoldRefusal) (one two one_after two_after : List ℕ) → HoldAnswered k s circuit root target room answer one two one_after two_after → TrueHold k (register given events) circuit root target room answer one_after two_after
  -- so are the channels told as taken, where no circuit runs over a link twice
  pub taken : (link : ℕ) → TrueChannels given events link (told channels (shown s) link)
  pub once : (circuit link : ℕ) → runs_over ((register given events).circuits circuit) link ≤ 1
  -- what stands in a row was held so, and a certificate written is true
  pub rows : (circuit : ℕ) → EntryHeldSo given events circuit (s.rows circuit)
  pub certificates : (circuit : ℕ) (answer : Result ℕ IssueRefusal) (before after : List ℕ) → Issued s.rows circuit answer before after → TrueCertificate given events circuit answer before after

-- so for every board number, every network given, and every order and number of calls, refused ones included
abbrev pub WhateverTheOrder : {C : Type 0} → Ops C → Type 0
WhateverTheOrder k = (number : ℕ) (given : Net) (events : List Event) (s : State) → Came number given events s → Trusted k number given events s
