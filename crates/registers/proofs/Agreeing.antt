-- A board agrees with its register: call by call, and after any calls.
use Rattle.std.proofs.Common.{rules, tests, ◌≡◌, ℕ, ◌+◌, ◌-◌, Bool, true, false, cond, List, [], ◌∷◌, ◌++◌, sym, refl, ap, ◌∙◌, subst, arith}
use Rattle.std.proofs.lemmas.Bool.{both_ways}
use Rattle.costs.specs.Counting.{occurs}
use Rattle.networks.specs.declared.model.Link.{Link}
use Rattle.networks.specs.Meaning.{Net}
use Rattle.networks.specs.Changing.{changed, retaken}
use Rattle.networks.proofs.Numbering.{numbered_twice, numbered_same, numbered_none}
use Rattle.route_links.specs.Along.{taken_along, given_along}
use Rattle.certificates.specs.Format.{Fields}
use Rattle.certificates.specs.Limits.{circuit_sound}
use Rattle.pair_certificates.specs.Pairs.{pair_fields}
use Rattle.ledger.specs.Rows.{Entry, vacant, held, confirmed, entered, confirmed_entry, is_vacant}
use Rattle.registers.specs.Events.{Call, tell, close, reopen, surcharge, quote, survey, hold, confirm, withdraw, release, certificate}
use Rattle.registers.specs.States.{State, begun}
use Rattle.registers.specs.Registers.{Register, register, links, circuits_over, runs_over, with_circuits, with_circuit, empty, altered}
use Rattle.registers.specs.Histories.{Allowed, after, moved, told_by, routes_of}
use Rattle.registers.specs.Theorems.{CallsKeepAgreement, BoardsAgree}
use Rattle.ledger.proofs.Sums.{over_entered, over_none}

-- a link with so many channels taken
abbrev with_taken : Link → ℕ → Link
with_taken l t = retaken (λ _. t) l

-- how often a number stands in two lists together
occurs_append : (j : ℕ) (xs ys : List ℕ) → occurs j (xs ++ ys) ≡ occurs j xs + occurs j ys
occurs_append j [] ys = omega arith
occurs_append j (x ∷ xs) ys = omega (arith, occurs_append j xs ys)

-- two changes of channels taken, one after the other, that come to a third
retaken_twice : (f g h : ℕ → ℕ → ℕ) → ((k t : ℕ) → f k (g k t) ≡ h k t) → (n : Net) → changed (λ k. retaken (f k)) (changed (λ k. retaken (g k)) n) ≡ changed (λ k. retaken (h k)) n
retaken_twice f g h same n =
    ap (λ ls. record { sites = n.sites; links = ls })
    (numbered_twice (λ k. retaken (f k)) (λ k. retaken (g k)) 0 n.links
    ∙ numbered_same (λ k l. retaken (f k) (retaken (g k) l)) (λ k. retaken (h k)) (λ k l. ap (λ t. with_taken l t) (same k l.taken)) 0 n.links)

-- a link's circuits, where one circuit's entry is replaced
over_replaced : (c : ℕ) (e : Entry) (circuits : ℕ → Entry) (k : ℕ) → circuit_sound c ≡ true → circuits_over (entered c e circuits) k + runs_over (circuits c) k ≡ circuits_over circuits k + runs_over e k
over_replaced c e circuits k stands = over_entered (λ x. runs_over x k) circuits c e stands

-- a circuit entered in a vacant row: as many channels more are taken as its routes use
entering : (c : ℕ) (f : Fields) (r : Register) → circuit_sound c ≡ true → is_vacant (r.circuits c) ≡ true → taken_along (f.one ++ f.two) (with_circuits r) ≡ with_circuits (with_circuit c (held f) r)
entering c f r stands none =
    retaken_twice (λ k t. t + occurs k (f.one ++ f.two)) (λ k t. t + circuits_over r.circuits k) (λ k t. t + circuits_over (entered c (held f) r.circuits) k) each r.given
  where
    nothing : (e : Entry) → is_vacant e ≡ true → (k : ℕ) → runs_over e k ≡ 0
    nothing vacant h k = refl
    nothing (held g) h k = absurd (both_ways false refl h)
    nothing (confirmed g) h k = absurd (both_ways false refl h)

    each : (k t : ℕ) → (t + circuits_over r.circuits k) + occurs k (f.one ++ f.two) ≡ t + circuits_over (entered c (held f) r.circuits) k
    each k t = omega (arith, over_replaced c (held f) r.circuits k stands, nothing (r.circuits c) none k, occurs_append k f.one f.two)

-- a circuit removed: as many channels are given back as its routes use
removing : (c : ℕ) (r : Register) → circuit_sound c ≡ true → given_along (routes_of (r.circuits c)) (with_circuits r) ≡ with_circuits (with_circuit c vacant r)
removing c r stands =
    retaken_twice (λ k t. t - occurs k (routes_of (r.circuits c))) (λ k t. t + circuits_over r.circuits k) (λ k t. t + circuits_over (entered c vacant r.circuits) k) each r.given
  where
    route : (e : Entry) (k : ℕ) → occurs k (routes_of e) ≡ runs_over e k
    route vacant k = refl
    route (held f) k = occurs_append k f.one f.two
    route (confirmed f) k = occurs_append k f.one f.two

    each : (k t : ℕ) → (t + circuits_over r.circuits k) - occurs k (routes_of (r.circuits c)) ≡ t + circuits_over (entered c vacant r.circuits) k
    each k t = omega (arith, over_replaced c vacant r.circuits k stands, route (r.circuits c) k)

-- a circuit confirmed: its routes are as they were
confirmed_runs : (e : Entry) (k : ℕ) → runs_over (confirmed_entry e) k ≡ runs_over e k
confirmed_runs vacant k = refl
confirmed_runs (held f) k = refl
confirmed_runs (confirmed f) k = refl

confirming_keeps : (c : ℕ) (r : Register) → circuit_sound c ≡ true → with_circuits r ≡ with_circuits (with_circuit c (confirmed_entry (r.circuits c)) r)
confirming_keeps c r stands =
    ap (λ ls. record { sites = r.given.sites; links = ls })
    (numbered_same (λ k. retaken (λ t. t + circuits_over r.circuits k)) (λ k. retaken (λ t. t + circuits_over (entered c (confirmed_entry (r.circuits c)) r.circuits) k)) (λ k l. ap (λ t. with_taken l t) (each k l.taken)) 0 r.given.links)
  where
    each : (k t : ℕ) → t + circuits_over r.circuits k ≡ t + circuits_over (entered c (confirmed_entry (r.circuits c)) r.circuits) k
    each k t = omega (arith, over_replaced c (confirmed_entry (r.circuits c)) r.circuits k stands, confirmed_runs (r.circuits c) k)

-- another network under both layers
abbrev on_bottom : ℕ → Register → Net → State
on_bottom number r n = record { number = number; bottom = n; closed = r.closed; amounts = r.amounts; rows = r.circuits }

-- a call that is accepted: what it makes of the board that a register tells of is the board that the fed register tells of
accepted_agrees : (number : ℕ) (r : Register) (call : Call) (one two : List ℕ) → Allowed call true one two (told_by number r) → moved call one two (told_by number r) ≡ told_by number (altered call one two r)
accepted_agrees number r tell one two h = refl
accepted_agrees number r (close link) one two h = refl
accepted_agrees number r (reopen link) one two h = refl
accepted_agrees number r (surcharge link amount) one two h = refl
accepted_agrees number r (quote root target) one two h = refl
accepted_agrees number r (survey root) one two h = refl
accepted_agrees number r (hold circuit root target) one two h =
    let fits = h refl in
    let f = pair_fields (links r) circuit root target one two in
    ap (on_bottom number (with_circuit circuit (held f) r)) (entering circuit f r fits.circuit_stands fits.row_vacant)
accepted_agrees number r (confirm board circuit) one two h = ap (on_bottom number (with_circuit circuit (confirmed_entry (r.circuits circuit)) r)) (confirming_keeps circuit r (search (rules, tests)))
accepted_agrees number r (withdraw board circuit) one two h = ap (on_bottom number (with_circuit circuit vacant r)) (removing circuit r (search (rules, tests)))
accepted_agrees number r (release circuit) one two h = ap (on_bottom number (with_circuit circuit vacant r)) (removing circuit r (search (rules, tests)))
accepted_agrees number r (certificate circuit) one two h = refl

-- a call, accepted or refused
event_agrees : (accepted : Bool) (number : ℕ) (r : Register) (call : Call) (one two : List ℕ) → Allowed call accepted one two (told_by number r) → cond accepted (moved call one two (told_by number r)) (told_by number r) ≡ told_by number (cond accepted (altered call one two r) r)
event_agrees true number r call one two h = accepted_agrees number r call one two h
event_agrees false number r call one two h = refl

pub calls_keep_agreement : CallsKeepAgreement
calls_keep_agreement number given events e s t is steps =
    steps.leaves
    ∙ ap (after e) is
    ∙ event_agrees e.accepted number (register given events) e.call e.one e.two (subst (λ x. Allowed e.call e.accepted e.one e.two x) is steps.allowed)

-- a board just begun has no channel taken for a circuit
pub begun_agrees : (number : ℕ) (given : Net) → begun number given ≡ told_by number (empty given)
begun_agrees number given =
    ap (on_bottom number (empty given))
    (sym (ap (λ ls. record { sites = given.sites; links = ls }) (numbered_none (λ k. retaken (λ t. t + circuits_over (λ c. vacant) k)) (λ k l. ap (λ t. with_taken l t) (omega (arith, over_none (λ c. 0) (λ c. refl)))) 0 given.links)))

pub boards_agree : BoardsAgree
boards_agree number given [] s came = came ∙ begun_agrees number given
boards_agree number given (e ∷ es) s (t, came, steps) = calls_keep_agreement number given es e t s (boards_agree number given es t came) steps
