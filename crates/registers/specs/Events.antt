-- The calls on a board, and what a register is fed of them.
use Rattle.std.specs.Prelude.{ℕ, Bool, List}

-- what is asked of a board: something of its links, a quote for root and target, a survey of a root; a hold is told by its board's number and its circuit
pub data Call : Type 0 where
  tell : Call
  close : (link : ℕ) → Call
  reopen : (link : ℕ) → Call
  surcharge : (link amount : ℕ) → Call
  quote : (root target : ℕ) → Call
  survey : (root : ℕ) → Call
  hold : (circuit root target : ℕ) → Call
  confirm : (board circuit : ℕ) → Call
  withdraw : (board circuit : ℕ) → Call
  release : (circuit : ℕ) → Call
  certificate : (circuit : ℕ) → Call

-- a call, whether it was accepted, and the two routes that an accepted hold answered
pub record Event : Type 0 where
  pub call : Call
  pub accepted : Bool
  pub one : List ℕ
  pub two : List ℕ
