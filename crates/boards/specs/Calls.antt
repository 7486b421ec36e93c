-- What the calls of a board answer, and what they do to it.
use Rattle.std.specs.Prelude.{◌≡◌, ℕ, ◌<◌, Bool, cond, List, [], ◌∷◌, length, take, Ok, Err, Result, is_ok}
use Rattle.costs.specs.Costs.{Ops}
use Rattle.networks.specs.Meaning.{Net}
use Rattle.certificates.specs.Format.{Fields, certificate_bytes}
use Rattle.certificates.specs.Limits.{circuit_sound}
use Rattle.certificates.specs.Calls.{Wrote}
use Rattle.ledger.specs.Rows.{Entry, confirmed, is_confirmed, hold_answer}
use Rattle.ledger.specs.declared.refusing.LedgerRefusal.{LedgerRefusal}
use Rattle.ledger.specs.declared.refusing.LedgerRefusal.TheVariants.{NotCircuit, WrongRow}
use Rattle.quotes.specs.Quotes.{Quoted, Unchanged}
use Rattle.registers.specs.States.{State, shown}
use Rattle.registers.specs.Events.{Call, hold, Event}
use Rattle.registers.specs.Histories.{Steps, Came, Agrees}
use Rattle.boards.specs.declared.hold.Hold.{Hold}
use Rattle.boards.specs.declared.hold.Held.{Held}
use Rattle.boards.specs.declared.hold.ReturnedHold.{ReturnedHold}
use Rattle.boards.specs.declared.refusing.HoldRefusal.{HoldRefusal}
use Rattle.boards.specs.declared.refusing.HoldRefusal.TheVariants as not_held
use Rattle.boards.specs.declared.refusing.IssueRefusal.{IssueRefusal}
use Rattle.boards.specs.declared.refusing.IssueRefusal.TheVariants as not_issued

-- a call that answers no routes, and whether it was accepted
abbrev pub event : Call → Bool → Event
event call accepted = record { call = call; accepted = accepted; one = []; two = [] }

-- what a call does to a board: one step; so it continues the history of every board that has come so far, and a board that agrees with a register before agrees with the fed register after
pub record Does (s : State) (e : Event) (t : State) : Type 0 where
  pub steps : Steps s e t
  pub history : (number : ℕ) (given : Net) (events : List Event) → Came number given events s → Came number given (e ∷ events) t
  pub agreement : (number : ℕ) (given : Net) (events : List Event) → Agrees number given events s → Agrees number given (e ∷ events) t

-- what a hold answers: the ledger's refusal; else the planner's; either leaves both route tables as they were; else the pair is that of the planner's quote, and the hold is of this board and this circuit
abbrev pub HoldAnswered : {C : Type 0} → Ops C → State → ℕ → ℕ → ℕ → Bool → Result Held HoldRefusal → List ℕ → List ℕ → List ℕ → List ℕ → Type 0
HoldAnswered k s circuit root target room (Err (not_held.Ledger why)) one two one_after two_after = (hold_answer s.rows circuit ≡ Err why) × Unchanged one two one_after two_after
HoldAnswered k s circuit root target room (Err (not_held.Planner why)) one two one_after two_after = (hold_answer s.rows circuit ≡ Ok tt) × Quoted k (shown s) root target room (Err why) one two one_after two_after
HoldAnswered {C = C} k s circuit root target room (Ok h) one two one_after two_after =
    (hold_answer s.rows circuit ≡ Ok tt)
    × ((total : C) × Quoted k (shown s) root target room (Ok (record { one = h.one; two = h.two; total = total })) one two one_after two_after)
    × (h.hold.board ≡ s.number)
    × (h.hold.circuit ≡ circuit)

-- the links of the routes that a hold answered stand at the front of the route tables
abbrev pub routes_held : Result Held HoldRefusal → List ℕ → List ℕ → List ℕ × List ℕ
routes_held (Ok h) one two = (take h.one one, take h.two two)
routes_held (Err why) one two = ([], [])

-- a hold as it was fed
abbrev pub hold_event : ℕ → ℕ → ℕ → Result Held HoldRefusal → List ℕ → List ℕ → Event
hold_event circuit root target answer one two = record { call = hold circuit root target; accepted = is_ok answer; one = (routes_held answer one two).0; two = (routes_held answer one two).1 }

-- a hold that is not accepted is handed back
abbrev pub HandedBack : Hold → Result (Unit {0}) ReturnedHold → Type 0
HandedBack h (Ok x) = Unit {0}
HandedBack h (Err back) = back.hold ≡ h

-- a release is accepted for a circuit that is confirmed
abbrev pub release_answer : (ℕ → Entry) → ℕ → Result (Unit {0}) LedgerRefusal
release_answer rows circuit = cond (circuit_sound circuit) (cond (is_confirmed (rows circuit)) (Ok tt) (Err WrongRow)) (Err NotCircuit)

-- what a certificate answers: the bytes of what the confirmed row says, with the circuit's number, stand at the front of the buffer; a refusal leaves the buffer as it was
abbrev pub Issued : (ℕ → Entry) → ℕ → Result ℕ IssueRefusal → List ℕ → List ℕ → Type 0
Issued rows circuit (Ok count) before after = (f : Fields) × (rows circuit ≡ confirmed f) × (f.circuit ≡ circuit) × Wrote f before (Ok count) after
Issued rows circuit (Err (not_issued.Ledger why)) before after = (release_answer rows circuit ≡ Err why) × (after ≡ before)
Issued rows circuit (Err not_issued.BufferTooShort) before after = ((f : Fields) × (rows circuit ≡ confirmed f) × (length before < length (certificate_bytes f))) × (after ≡ before)
