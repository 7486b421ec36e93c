-- What a quote that was answered gives a hold, and what a board makes of it.
use Rattle.std.specs.Prelude.{◌≡◌, ℕ, true, List, Ok}
use Rattle.certificates.specs.Limits.{within}
use Rattle.pair_certificates.specs.Pairs.{pair_fields}
use Rattle.ledger.specs.Rows.{hold_answer}
use Rattle.registers.specs.States.{State, shown}
use Rattle.registers.specs.Events.{hold, Event}
use Rattle.registers.specs.Histories.{Free}

-- the circuit can be held, its links can be taken, and its certificate is within the limits
pub record Settleable (s : State) (circuit root target : ℕ) (one two : List ℕ) : Type 0 where
  pub row : hold_answer s.rows circuit ≡ Ok tt
  pub free : Free (shown s) one two
  pub limits : within (pair_fields (shown s) circuit root target one two) ≡ true

-- a hold accepted with these routes
abbrev pub accepted_hold : ℕ → ℕ → ℕ → List ℕ → List ℕ → Event
accepted_hold circuit root target one two = record { call = hold circuit root target; accepted = true; one = one; two = two }
