-- What stands whatever the order of calls on a board.
use Rattle.std.proofs.Common.{◌≡◌, ℕ, ◌+◌, ◌<◌, Bool, true, false, cond, List, length, Ok, Err, Result, nat_lt, sym, refl, ap, ◌∙◌, subst}
use Rattle.std.proofs.lemmas.Bool.{ltb-true}
use Rattle.costs.specs.Costs.{Ops}
use Rattle.networks.specs.Meaning.{Net, link_at}
use Rattle.networks.specs.declared.model.NetworkRefusal.TheVariants.{LinkTooHigh}
use Rattle.networks.specs.Telling.{told, channels}
use Rattle.networks.specs.Changing.{retaken}
use Rattle.networks.proofs.Numbering.{length_numbered}
use Rattle.layers.specs.Shown.{closing, charging, charged_over}
use Rattle.ledger.specs.Rows.{confirmed}
use Rattle.registers.specs.States.{State, shown}
use Rattle.registers.specs.Events.{Event}
use Rattle.registers.specs.Registers.{Register, register, links, circuits_over, with_circuits}
use Rattle.registers.specs.Histories.{Agrees}
use Rattle.registers.specs.Theorems.{EntryHeldSo}
use Rattle.registers.proofs.Agreeing.{boards_agree}
use Rattle.registers.proofs.Circuits.{circuits_run_once, circuits_are_held_so, taken_are_counted, register_given}
use Rattle.planner_tables.specs.declared.refusing.PlannerRefusal.{PlannerRefusal}
use Rattle.quotes.specs.Quotes.{Quoted}
use Rattle.quotes.specs.declared.quotation.Quote.{Quote}
use Rattle.surveys.specs.Surveys.{Surveyed}
use Rattle.surveys.specs.declared.outcome.Outcome.{Outcome}
use Rattle.boards.specs.declared.hold.Held.{Held}
use Rattle.boards.specs.declared.refusing.HoldRefusal.{HoldRefusal}
use Rattle.boards.specs.declared.refusing.IssueRefusal.{IssueRefusal}
use Rattle.boards.specs.declared.refusing.IssueRefusal.TheVariants as not_issued
use Rattle.boards.specs.Calls.{HoldAnswered, release_answer, Issued}
use Rattle.boards.specs.Orders.{WhateverTheOrder, TrueQuote, TrueSurvey, TrueHold, TrueChannels, TrueCertificate}
use Rattle.boards.proofs.Truths.{true_quote, true_survey, true_hold}

-- a board that agrees with a register shows its links
pub shows_links : (number : ℕ) (given : Net) (events : List Event) (s : State) → Agrees number given events s → shown s ≡ links (register given events)
shows_links number given events s is = ap shown is

-- as many links as the network given has
links_length : (r : Register) → length (links r).links ≡ length r.given.links
links_length r =
    length_numbered (closing r.closed) 0 (charged_over r.amounts (with_circuits r)).links
    ∙ length_numbered (charging r.amounts) 0 (with_circuits r).links
    ∙ length_numbered (λ k. retaken (λ t. t + circuits_over r.circuits k)) 0 r.given.links

-- what is told of a link's channels
told_right : (given : Net) (events : List Event) (link : ℕ) (b : Bool) → (b ≡ true → (link_at (links (register given events)) link).taken ≡ (link_at given link).taken + circuits_over (register given events).circuits link) → (b ≡ false → nat_lt link (length given.links) ≡ false) → TrueChannels given events link (cond b (Ok (channels (link_at (links (register given events)) link))) (Err LinkTooHigh))
told_right given events link true there past = there refl
told_right given events link false there past = past refl

pub channels_right : (number : ℕ) (given : Net) (events : List Event) (s : State) → Agrees number given events s → (link : ℕ) → TrueChannels given events link (told channels (shown s) link)
channels_right number given events s is link =
    let r = register given events in
    let same : length (links r).links ≡ length given.links = links_length r ∙ ap (λ n. length n.links) (register_given given events) in
    subst (λ n. TrueChannels given events link (told channels n link)) (sym (shows_links number given events s is))
    (told_right given events link (nat_lt link (length (links r).links))
    (λ there. taken_are_counted given events link (subst (λ m. link < m) same (ltb-true link (length (links r).links) there)))
    (λ past. ap (nat_lt link) (sym same) ∙ past))

-- a certificate written
pub certificate_right : (number : ℕ) (given : Net) (events : List Event) (s : State) → Agrees number given events s → (circuit : ℕ) (answer : Result ℕ IssueRefusal) (before after : List ℕ) → Issued s.rows circuit answer before after → TrueCertificate given events circuit answer before after
certificate_right number given events s is circuit (Ok count) before after (f, row, own, wrote) =
    let entry : (register given events).circuits circuit ≡ confirmed f = sym (ap (λ t. t.rows circuit) is) ∙ row in
    (f, wrote.1, entry, subst (EntryHeldSo given events circuit) entry (circuits_are_held_so given events circuit))
certificate_right number given events s is circuit (Err (not_issued.Ledger why)) before after issued = ap (λ t. release_answer t.rows circuit) (sym is) ∙ issued.0
certificate_right number given events s is circuit (Err not_issued.BufferTooShort) before after ((f, row, short), same) = (f, sym (ap (λ t. t.rows circuit) is) ∙ row, short)

-- what is answered over what a board shows is true of the links of every register that it agrees with
pub quote_right : {C : Type 0} (k : Ops C) (s : State) (root target : ℕ) (room : Bool) (answer : Result (Quote C) PlannerRefusal) (one two one_after two_after : List ℕ) → Quoted k (shown s) root target room answer one two one_after two_after → (number : ℕ) (given : Net) (events : List Event) → Agrees number given events s → TrueQuote k (links (register given events)) root target room answer one_after two_after
quote_right k s root target room answer one two one_after two_after h number given events is =
    subst (λ n. TrueQuote k n root target room answer one_after two_after) (shows_links number given events s is) (true_quote k (shown s) root target room answer one two one_after two_after h)

pub survey_right : {C : Type 0} (k : Ops C) (s : State) (root : ℕ) (room : Bool) (answer : Result ℕ PlannerRefusal) (table after : List (Outcome C)) → Surveyed k (shown s) root room answer table after → (number : ℕ) (given : Net) (events : List Event) → Agrees number given events s → TrueSurvey k (links (register given events)) root room answer after
survey_right k s root room answer table after h number given events is =
    subst (λ n. TrueSurvey k n root room answer after) (shows_links number given events s is) (true_survey k (shown s) root room answer table after h)

pub hold_right : {C : Type 0} (k : Ops C) (s : State) (circuit root target : ℕ) (room : Bool) (answer : Result Held HoldRefusal) (one two one_after two_after : List ℕ) → HoldAnswered k s circuit root target room answer one two one_after two_after → (number : ℕ) (given : Net) (events : List Event) → Agrees number given events s → TrueHold k (register given events) circuit root target room answer one_after two_after
hold_right k s circuit root target room answer one two one_after two_after h number given events is =
    true_hold k number (register given events) circuit root target room answer one two one_after two_after (subst (λ t. HoldAnswered k t circuit root target room answer one two one_after two_after) is h)

pub whatever_the_order : {C : Type 0} (k : Ops C) → WhateverTheOrder k
whatever_the_order k number given events s came =
    let is = boards_agree number given events s came in
    record {
      agrees = is;
      quotes = λ root target room answer one two one_after two_after h. quote_right k s root target room answer one two one_after two_after h number given events is;
      surveys = λ root room answer table after h. survey_right k s root room answer table after h number given events is;
      holds = λ circuit root target room answer one two one_after two_after h. hold_right k s circuit root target room answer one two one_after two_after h number given events is;
      taken = channels_right number given events s is;
      once = circuits_run_once number given events s came;
      rows = λ circuit. subst (EntryHeldSo given events circuit) (ap (λ t. t.rows circuit) (sym is)) (circuits_are_held_so given events circuit);
      certificates = certificate_right number given events s is;
    }
