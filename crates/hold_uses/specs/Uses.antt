-- What comes of a hold that is confirmed and whose circuit is released.
use Rattle.std.specs.Prelude.{◌≡◌, true, false, Ok, Err, Result, is_ok}
use Rattle.registers.specs.States.{State}
use Rattle.registers.specs.Events.{confirm, release}
use Rattle.ledger.specs.declared.refusing.LedgerRefusal.{LedgerRefusal}
use Rattle.boards.specs.Calls.{event, Does}
use Rattle.boards.specs.declared.hold.Hold.{Hold}
use Rattle.boards.specs.declared.hold.ReturnedHold.{ReturnedHold}

-- the hold is confirmed and then the circuit released, or the hold is handed back
abbrev pub LetGo : State → Hold → Result (Result (Unit {0}) LedgerRefusal) ReturnedHold → State → Type 0
LetGo s h (Ok released) t = (u : State) × Does s (event (confirm h.board h.circuit) true) u × Does u (event (release h.circuit) (is_ok released)) t
LetGo s h (Err back) t = (back.hold ≡ h) × Does s (event (confirm h.board h.circuit) false) t
