-- What is answered over what a board shows is true of the register's links.
use Rattle.std.proofs.Common.{ℕ, Bool, List, Ok, Err, Result}
use Rattle.costs.specs.Costs.{Ops}
use Rattle.networks.specs.Meaning.{Net}
use Rattle.planner_tables.specs.declared.refusing.PlannerRefusal.{PlannerRefusal}
use Rattle.planner_tables.specs.declared.refusing.PlannerRefusal.TheVariants.{NotSites, TableTooShort, NoRoute, OneLink}
use Rattle.quotes.specs.Quotes.{Quoted}
use Rattle.quotes.specs.declared.quotation.Quote.{Quote}
use Rattle.surveys.specs.Surveys.{Surveyed}
use Rattle.surveys.specs.declared.outcome.Outcome.{Outcome}
use Rattle.registers.specs.Registers.{Register, links}
use Rattle.registers.specs.Histories.{told_by}
use Rattle.boards.specs.Calls.{HoldAnswered}
use Rattle.boards.specs.Orders.{TrueQuote, TrueSurvey, TrueHold}
use Rattle.boards.specs.declared.hold.Held.{Held}
use Rattle.boards.specs.declared.refusing.HoldRefusal.{HoldRefusal}
use Rattle.boards.specs.declared.refusing.HoldRefusal.TheVariants as not_held

module _ {C : Type 0} (k : Ops C) (n : Net) where
  -- a quote
  pub true_quote : (root target : ℕ) (room : Bool) (answer : Result (Quote C) PlannerRefusal) (one two one_after two_after : List ℕ) → Quoted k n root target room answer one two one_after two_after → TrueQuote k n root target room answer one_after two_after
  true_quote root target room (Err NotSites) one two one_after two_after h = h.0
  true_quote root target room (Err TableTooShort) one two one_after two_after h = h.0
  true_quote root target room (Err NoRoute) one two one_after two_after h = (h.0, h.1.right)
  true_quote root target room (Err (OneLink link)) one two one_after two_after h = (h.0, h.1.right)
  true_quote root target room (Ok q) one two one_after two_after h = (h.0, h.1.right)

  -- a survey
  pub true_survey : (root : ℕ) (room : Bool) (answer : Result ℕ PlannerRefusal) (table after : List (Outcome C)) → Surveyed k n root room answer table after → TrueSurvey k n root room answer after
  true_survey root room (Err NotSites) table after h = h.0
  true_survey root room (Err TableTooShort) table after h = h.0
  true_survey root room (Err NoRoute) table after h = h
  true_survey root room (Err (OneLink link)) table after h = h
  true_survey root room (Ok sites) table after h = (h.0, h.1, λ w low. (h.2 w low).right)

-- a hold, of the board that a register tells of
pub true_hold : {C : Type 0} (k : Ops C) (number : ℕ) (r : Register) (circuit root target : ℕ) (room : Bool) (answer : Result Held HoldRefusal) (one two one_after two_after : List ℕ) → HoldAnswered k (told_by number r) circuit root target room answer one two one_after two_after → TrueHold k r circuit root target room answer one_after two_after
true_hold k number r circuit root target room (Err (not_held.Ledger why)) one two one_after two_after h = h.0
true_hold k number r circuit root target room (Err (not_held.Planner why)) one two one_after two_after h = (h.0, true_quote k (links r) root target room (Err why) one two one_after two_after h.1)
true_hold {C = C} k number r circuit root target room (Ok held) one two one_after two_after h =
    let quoted = h.1 in
    let answered = true_quote k (links r) root target room (Ok (record { one = held.one; two = held.two; total = quoted.0 })) one two one_after two_after quoted.1 in
    (h.0, answered.0, (quoted.0, answered.1))
