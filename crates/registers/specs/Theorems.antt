-- What is proved of boards and their registers.
use Rattle.std.specs.Prelude.{◌≡◌, ℕ, ◌+◌, ◌<◌, ◌≤◌, Bool, true, false, not, ◌&&◌, List, ◌∷◌, ◌++◌, length, ◌==◌}
use Rattle.std.specs.List.{list_all}
use Rattle.networks.specs.Meaning.{Net, link_at}
use Rattle.certificates.specs.Format.{Fields}
use Rattle.pair_certificates.specs.Pairs.{pair_fields}
use Rattle.ledger.specs.Rows.{Entry, vacant, held, confirmed}
use Rattle.registers.specs.Events.{Call, tell, close, reopen, surcharge, quote, survey, hold, confirm, withdraw, release, certificate, Event}
use Rattle.registers.specs.States.{State}
use Rattle.registers.specs.Registers.{register, links, circuits_over, runs_over}
use Rattle.registers.specs.Histories.{Steps, Came, Agrees}

-- a call that enters a circuit or removes it
abbrev pub enters_or_removes : ℕ → Call → Bool
enters_or_removes c tell = false
enters_or_removes c (close link) = false
enters_or_removes c (reopen link) = false
enters_or_removes c (surcharge link amount) = false
enters_or_removes c (quote root target) = false
enters_or_removes c (survey root) = false
enters_or_removes c (hold circuit root target) = c == circuit
enters_or_removes c (confirm board circuit) = false
enters_or_removes c (withdraw board circuit) = c == circuit
enters_or_removes c (release circuit) = c == circuit
enters_or_removes c (certificate circuit) = false

-- none of some events was an accepted call that enters a circuit or removes it
abbrev pub untouched : ℕ → List Event → Bool
untouched c events = list_all (λ e. not (e.accepted && enters_or_removes c e.call)) events

-- of the accepted calls that entered or removed a circuit the newest was a hold, and a certificate says of it what that hold was asked for, the routes that it answered, and their sums on the links as they stood before it
pub record HeldSo (given : Net) (events : List Event) (c : ℕ) (f : Fields) : Type 0 where
  pub later : List Event
  pub earlier : List Event
  pub root : ℕ
  pub target : ℕ
  pub one : List ℕ
  pub two : List ℕ
  pub whole : events ≡ later ++ record { call = hold c root target; accepted = true; one = one; two = two } ∷ earlier
  pub since : untouched c later ≡ true
  pub says : f ≡ pair_fields (links (register given earlier)) c root target one two

-- what stands in a circuit's row was held so
abbrev pub EntryHeldSo : Net → List Event → ℕ → Entry → Type 0
EntryHeldSo given events c vacant = Unit {0}
EntryHeldSo given events c (held f) = HeldSo given events c f
EntryHeldSo given events c (confirmed f) = HeldSo given events c f

-- one call: a board that agrees with a register before agrees with the fed register after
abbrev pub CallsKeepAgreement : Type 0
CallsKeepAgreement = (number : ℕ) (given : Net) (events : List Event) (e : Event) (s t : State) → Agrees number given events s → Steps s e t → Agrees number given (e ∷ events) t

-- a board agrees with its register after all its calls
abbrev pub BoardsAgree : Type 0
BoardsAgree = (number : ℕ) (given : Net) (events : List Event) (s : State) → Came number given events s → Agrees number given events s

-- after any calls no circuit runs over a link twice
abbrev pub CircuitsRunOnce : Type 0
CircuitsRunOnce = (number : ℕ) (given : Net) (events : List Event) (s : State) → Came number given events s → (c k : ℕ) → runs_over ((register given events).circuits c) k ≤ 1

-- whatever a register was fed, each of its circuits was held so
abbrev pub CircuitsAreHeldSo : Type 0
CircuitsAreHeldSo = (given : Net) (events : List Event) (c : ℕ) → EntryHeldSo given events c ((register given events).circuits c)

-- on the links of a register those channels are taken that were at the beginning, and one for each circuit that runs over the link
abbrev pub TakenAreCounted : Type 0
TakenAreCounted = (given : Net) (events : List Event) (k : ℕ) → k < length given.links → (link_at (links (register given events)) k).taken ≡ (link_at given k).taken + circuits_over (register given events).circuits k
