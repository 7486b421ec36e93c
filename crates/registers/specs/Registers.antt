-- The register of a board: what its calls make of the network given, independent of how the board is made.
use Rattle.std.specs.Prelude.{ℕ, ◌+◌, Bool, true, false, cond, List, [], ◌∷◌, ◌==◌}
use Rattle.costs.specs.Counting.{occurs}
use Rattle.networks.specs.Meaning.{Net}
use Rattle.networks.specs.Changing.{changed, retaken}
use Rattle.piles.specs.Piles.{piled}
use Rattle.pair_certificates.specs.Pairs.{pair_fields}
use Rattle.ledger.specs.Rows.{Entry, vacant, held, confirmed, entered, confirmed_entry, over_circuits}
use Rattle.registers.specs.Events.{Call, tell, close, reopen, surcharge, quote, survey, hold, confirm, withdraw, release, certificate, Event}

-- the network given, which links are closed, the amounts on links, and the circuits: held or confirmed, each with its root, its target, its routes, and the sums of their links
pub record Register : Type 0 where
  pub given : Net
  pub closed : ℕ → Bool
  pub amounts : ℕ → ℕ
  pub circuits : ℕ → Entry

-- how often a circuit runs over a link
abbrev pub runs_over : Entry → ℕ → ℕ
runs_over vacant k = 0
runs_over (held f) k = occurs k f.one + occurs k f.two
runs_over (confirmed f) k = occurs k f.one + occurs k f.two

-- how many circuits run over a link
abbrev pub circuits_over : (ℕ → Entry) → ℕ → ℕ
circuits_over circuits k = over_circuits (λ c. runs_over (circuits c) k)

-- the network given, with one channel more taken on a link for each circuit that runs over it
abbrev pub with_circuits : Register → Net
with_circuits r = changed (λ k. retaken (λ t. t + circuits_over r.circuits k)) r.given

-- its links: those given, dark where closed, their metres raised by the amounts and cut off, one channel more taken for each circuit that runs over them
abbrev pub links : Register → Net
links r = piled r.closed r.amounts (with_circuits r)

-- nothing closed, no amounts and no circuit
abbrev pub empty : Net → Register
empty given = record { given = given; closed = λ k. false; amounts = λ k. 0; circuits = λ c. vacant }

-- with one link's mark set
abbrev pub with_mark : ℕ → Bool → Register → Register
with_mark link mark r = record { given = r.given; closed = λ k. cond (k == link) mark (r.closed k); amounts = r.amounts; circuits = r.circuits }

-- with one link's amount set
abbrev pub with_amount : ℕ → ℕ → Register → Register
with_amount link amount r = record { given = r.given; closed = r.closed; amounts = λ k. cond (k == link) amount (r.amounts k); circuits = r.circuits }

-- with one circuit's entry set
abbrev pub with_circuit : ℕ → Entry → Register → Register
with_circuit c e r = record { given = r.given; closed = r.closed; amounts = r.amounts; circuits = entered c e r.circuits }

-- what an accepted call makes of a register; a hold's routes come with it, and its sums are those of the links as the register shows them
abbrev pub altered : Call → List ℕ → List ℕ → Register → Register
altered tell one two r = r
altered (close link) one two r = with_mark link true r
altered (reopen link) one two r = with_mark link false r
altered (surcharge link amount) one two r = with_amount link amount r
altered (quote root target) one two r = r
altered (survey root) one two r = r
altered (hold circuit root target) one two r = with_circuit circuit (held (pair_fields (links r) circuit root target one two)) r
altered (confirm board circuit) one two r = with_circuit circuit (confirmed_entry (r.circuits circuit)) r
altered (withdraw board circuit) one two r = with_circuit circuit vacant r
altered (release circuit) one two r = with_circuit circuit vacant r
altered (certificate circuit) one two r = r

-- a register fed with one event more: what is refused alters nothing
abbrev pub fed : Event → Register → Register
fed e r = cond e.accepted (altered e.call e.one e.two r) r

-- the register of a network given and of all events since, the newest first
abbrev pub register : Net → List Event → Register
register given [] = empty given
register given (e ∷ es) = fed e (register given es)
