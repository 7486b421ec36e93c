-- What a desk has in hand, and what its calls do.
use Rattle.std.specs.Prelude.{◌≡◌, ℕ, Bool, true, not, ◌&&◌, cond, List, [], ◌∷◌, take, map, filter, Some, None, Option, Ok, Err, Result, is_ok, is_some, ◌==◌}
use Rattle.std.specs.List.{range_with_len}
use Rattle.refusals.specs.declared.Refusal.{Refusal}
use Rattle.refusals.specs.declared.Refusal.TheVariants as listed
use Rattle.ledger.specs.Rows.{Entry, is_held}
use Rattle.registers.specs.Events.{Call, hold, confirm, withdraw, Event}
use Rattle.registers.specs.States.{State}
use Rattle.boards.specs.declared.hold.Hold.{Hold}
use Rattle.boards.specs.declared.hold.Held.{Held}
use Rattle.boards.specs.declared.refusing.HoldRefusal.{HoldRefusal}
use Rattle.boards.specs.Calls.{event, Does}
use Rattle.desks.specs.declared.ending.Ending.{Ending}
use Rattle.desks.specs.declared.ending.Ending.TheVariants.{Confirm, Withdraw}

-- each hold in hand is one of a board of this number, for the circuit of its slot
abbrev pub Matched : ℕ → (ℕ → Option Hold) → Type 0
Matched number holds = (c : ℕ) (h : Hold) → holds c ≡ Some h → (h.board ≡ number) × (h.circuit ≡ c)

-- in hand are the holds of exactly the circuits whose rows are held
abbrev pub Whole : (ℕ → Entry) → (ℕ → Option Hold) → Type 0
Whole rows holds = (c : ℕ) → is_some (holds c) ≡ is_held (rows c)

-- what the board answered: a hold of its own for the circuit, which the desk keeps
abbrev pub as_held : ℕ → ℕ → Result (ℕ × ℕ) HoldRefusal → Result Held HoldRefusal
as_held number circuit (Ok counts) = Ok (record {
  hold = record { board = number; circuit = circuit };
  one = counts.0;
  two = counts.1;
})
as_held number circuit (Err why) = Err why

-- the links of the routes that a hold answered stand at the front of the route tables
abbrev pub routes_kept : Result (ℕ × ℕ) HoldRefusal → List ℕ → List ℕ → List ℕ × List ℕ
routes_kept (Ok counts) one two = (take counts.0 one, take counts.1 two)
routes_kept (Err why) one two = ([], [])

-- a hold as it was fed: the desk keeps the hold, and answers how many links each route has
abbrev pub kept : ℕ → ℕ → ℕ → Result (ℕ × ℕ) HoldRefusal → List ℕ → List ℕ → Event
kept circuit root target answer one two = record {
  call = hold circuit root target;
  accepted = is_ok answer;
  one = (routes_kept answer one two).0;
  two = (routes_kept answer one two).1;
}

-- a board accepts the holds of a board of some number for a circuit: it has this number, and the
-- circuit's row is held
abbrev pub accepts : State → ℕ → ℕ → Bool
accepts s board circuit = board == s.number && is_held (s.rows circuit)

-- what another board makes of an offered hold: where such a hold is in hand, and that board does
-- not accept it, it is refused with its two numbers
abbrev pub offer_answer : State → ℕ → State → Option Refusal
offer_answer own circuit other =
    cond (is_held (own.rows circuit) && not (accepts other own.number circuit))
    (Some (listed.NotHeld own.number circuit)) None

-- the call by which a hold is to end
abbrev pub ending_call : Ending → ℕ → ℕ → Call
ending_call Confirm board circuit = confirm board circuit
ending_call Withdraw board circuit = withdraw board circuit

-- the circuits whose rows are held, the lowest first
abbrev pub held_circuits : (ℕ → Entry) → List ℕ
held_circuits rows = filter (λ c. is_held (rows c)) (range_with_len 1 32)

-- the withdrawals of some circuits of a board
abbrev pub withdrawals : ℕ → List ℕ → List Event
withdrawals board circuits = map (λ c. event (withdraw board c) true) circuits

-- what some calls one after the other do to a board, the newest first
abbrev pub DoesAll : State → List Event → State → Type 0
DoesAll s [] t = t ≡ s
DoesAll s (e ∷ es) t = (u : State) × DoesAll s es u × Does u e t
