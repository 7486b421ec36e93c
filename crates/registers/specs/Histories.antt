-- What the calls of a board do to it, and what a board has come to after any number of them.
use Rattle.std.specs.Prelude.{◌≡◌, ℕ, ◌+◌, ◌≤◌, ◌<◌, Bool, true, false, cond, ◌&&◌, List, [], ◌∷◌, ◌++◌, length, ◌==◌, nat_le, nat_lt}
use Rattle.costs.specs.Counting.{occurs}
use Rattle.networks.specs.Meaning.{Net, link_at, usable}
use Rattle.route_links.specs.Along.{taken_along, given_along}
use Rattle.certificates.specs.Limits.{circuit_sound}
use Rattle.pair_certificates.specs.Pairs.{pair_fields}
use Rattle.ledger.specs.Rows.{Entry, vacant, held, confirmed, entered, confirmed_entry, is_vacant, is_held, is_confirmed, held_rows}
use Rattle.registers.specs.Events.{Call, tell, close, reopen, surcharge, quote, survey, hold, confirm, withdraw, release, certificate, Event}
use Rattle.registers.specs.States.{State, shown, begun}
use Rattle.registers.specs.Registers.{Register, register, with_circuits}

-- the links of both routes of an entry
abbrev pub routes_of : Entry → List ℕ
routes_of vacant = []
routes_of (held f) = f.one ++ f.two
routes_of (confirmed f) = f.one ++ f.two

-- with one link's mark set
abbrev pub marked : ℕ → Bool → State → State
marked link mark s = record { number = s.number; bottom = s.bottom; closed = λ k. cond (k == link) mark (s.closed k); amounts = s.amounts; rows = s.rows }

-- with one link's amount set
abbrev pub charged : ℕ → ℕ → State → State
charged link amount s = record { number = s.number; bottom = s.bottom; closed = s.closed; amounts = λ k. cond (k == link) amount (s.amounts k); rows = s.rows }

-- with one row filled, and a channel taken on each link of its routes
abbrev pub holding : ℕ → ℕ → ℕ → List ℕ → List ℕ → State → State
holding circuit root target one two s = record { number = s.number; bottom = taken_along (one ++ two) s.bottom; closed = s.closed; amounts = s.amounts; rows = entered circuit (held (pair_fields (shown s) circuit root target one two)) s.rows }

-- with one row confirmed
abbrev pub confirming : ℕ → State → State
confirming circuit s = record { number = s.number; bottom = s.bottom; closed = s.closed; amounts = s.amounts; rows = entered circuit (confirmed_entry (s.rows circuit)) s.rows }

-- with one row vacated, and a channel given back on each link of its routes
abbrev pub vacating : ℕ → State → State
vacating circuit s = record { number = s.number; bottom = given_along (routes_of (s.rows circuit)) s.bottom; closed = s.closed; amounts = s.amounts; rows = entered circuit vacant s.rows }

-- what an accepted call makes of a board
abbrev pub moved : Call → List ℕ → List ℕ → State → State
moved tell one two s = s
moved (close link) one two s = marked link true s
moved (reopen link) one two s = marked link false s
moved (surcharge link amount) one two s = charged link amount s
moved (quote root target) one two s = s
moved (survey root) one two s = s
moved (hold circuit root target) one two s = holding circuit root target one two s
moved (confirm board circuit) one two s = confirming circuit s
moved (withdraw board circuit) one two s = vacating circuit s
moved (release circuit) one two s = vacating circuit s
moved (certificate circuit) one two s = s

-- a board after one event more: what is refused alters nothing
abbrev pub after : Event → State → State
after e s = cond e.accepted (moved e.call e.one e.two s) s

-- two routes over links that a network has usable, no link used twice
pub record Free (n : Net) (one two : List ℕ) : Type 0 where
  pub usable_each : (k : ℕ) → 1 ≤ occurs k one + occurs k two → usable (link_at n k) ≡ true
  pub none_twice : (k : ℕ) → occurs k one + occurs k two ≤ 1

-- a hold is accepted for a circuit whose row is vacant, while fewer than eight are held, with two routes over usable links
pub record Holds (s : State) (circuit : ℕ) (one two : List ℕ) : Type 0 where
  pub circuit_stands : circuit_sound circuit ≡ true
  pub row_vacant : is_vacant (s.rows circuit) ≡ true
  pub row_free : held_rows s.rows < 8
  pub routes : Free (shown s) one two

-- which calls a board accepts, told of what it was before: the calls on links, confirmations, withdrawals and releases exactly where they are right; of a hold that is accepted, what it takes
abbrev pub Allowed : Call → Bool → List ℕ → List ℕ → State → Type 0
Allowed tell accepted one two s = Unit {0}
Allowed (close link) accepted one two s = accepted ≡ nat_lt link (length s.bottom.links)
Allowed (reopen link) accepted one two s = accepted ≡ nat_lt link (length s.bottom.links)
Allowed (surcharge link amount) accepted one two s = accepted ≡ (nat_lt link (length s.bottom.links) && nat_le amount 1000000)
Allowed (quote root target) accepted one two s = Unit {0}
Allowed (survey root) accepted one two s = Unit {0}
Allowed (hold circuit root target) accepted one two s = accepted ≡ true → Holds s circuit one two
Allowed (confirm board circuit) accepted one two s = accepted ≡ (board == s.number && (circuit_sound circuit && is_held (s.rows circuit)))
Allowed (withdraw board circuit) accepted one two s = accepted ≡ (board == s.number && (circuit_sound circuit && is_held (s.rows circuit)))
Allowed (release circuit) accepted one two s = accepted ≡ (circuit_sound circuit && is_confirmed (s.rows circuit))
Allowed (certificate circuit) accepted one two s = Unit {0}

-- what one call does: it is accepted or refused as it may be, and leaves the board so
pub record Steps (s : State) (e : Event) (t : State) : Type 0 where
  pub allowed : Allowed e.call e.accepted e.one e.two s
  pub leaves : t ≡ after e s

-- what a board of this number, begun with this network, has come to after these events, the newest first
abbrev pub Came : ℕ → Net → List Event → State → Type 0
Came number given [] s = s ≡ begun number given
Came number given (e ∷ es) s = (t : State) × Came number given es t × Steps t e s

-- the board of a number that a register tells of
abbrev pub told_by : ℕ → Register → State
told_by number r = record { number = number; bottom = with_circuits r; closed = r.closed; amounts = r.amounts; rows = r.circuits }

-- a board agrees with the register of a network given and of the events since: it is the board that this register tells of
abbrev pub Agrees : ℕ → Net → List Event → State → Type 0
Agrees number given events s = s ≡ told_by number (register given events)
