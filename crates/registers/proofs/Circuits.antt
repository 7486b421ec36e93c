-- What a register's circuits are: held as asked and answered, on no link twice, and counted among the channels taken.
use Rattle.std.proofs.Common.{◌≡◌, ℕ, ◌+◌, ◌<◌, ◌≤◌, Bool, true, false, not, cond, eqb, ◌&&◌, List, [], ◌∷◌, length, sym, refl, ap, ◌∙◌, subst, inl, inr, arith}
use Rattle.std.proofs.lemmas.Bool.{cases_eq, cond-true, cond-false, eq-eqb, ne_eqb}
use Rattle.std.specs.Cmp.Derive.{both_true}
use Rattle.networks.specs.declared.model.Link.{Link}
use Rattle.networks.specs.Meaning.{Net, link_at}
use Rattle.networks.specs.Changing.{retaken}
use Rattle.networks.proofs.Numbering.{length_numbered, link_at_changed}
use Rattle.layers.specs.Shown.{closing, charging, charged_over}
use Rattle.certificates.specs.Format.{Fields}
use Rattle.pair_certificates.specs.Pairs.{pair_fields}
use Rattle.ledger.specs.Rows.{Entry, vacant, held, confirmed, entered, confirmed_entry}
use Rattle.registers.specs.Events.{Call, tell, close, reopen, surcharge, quote, survey, hold, confirm, withdraw, release, certificate, Event}
use Rattle.registers.specs.States.{State}
use Rattle.registers.specs.Registers.{Register, register, links, circuits_over, runs_over, with_circuits, with_circuit, altered}
use Rattle.registers.specs.Histories.{Allowed}
use Rattle.registers.specs.Theorems.{HeldSo, EntryHeldSo, enters_or_removes, CircuitsRunOnce, CircuitsAreHeldSo, TakenAreCounted}

-- what is true of an entry and of all others is true where one is replaced by it
replaced : (P : ℕ → Entry → Type 0) (c : ℕ) (e : Entry) (rows : ℕ → Entry) (d : ℕ) → (d ≡ c → P d e) → ((d ≡ c → ⊥) → P d (rows d)) → P d (entered c e rows d)
replaced P c e rows d here there =
    elim (cases_eq d c) [
      | inl is ↦ subst (P d) (sym (cond-true (eqb d c) e (rows d) (eq-eqb d c is))) (here is)
      | inr other ↦ subst (P d) (sym (cond-false (eqb d c) e (rows d) (ne_eqb d c other))) (there other)
    ]

-- every circuit of a register runs over a link once at most
abbrev Once : Register → Type 0
Once r = (c k : ℕ) → runs_over (r.circuits c) k ≤ 1

confirmed_once : (e : Entry) (k : ℕ) → runs_over e k ≤ 1 → runs_over (confirmed_entry e) k ≤ 1
confirmed_once vacant k h = h
confirmed_once (held f) k h = h
confirmed_once (confirmed f) k h = h

replaced_once : (c : ℕ) (e : Entry) (r : Register) → ((k : ℕ) → runs_over e k ≤ 1) → Once r → Once (with_circuit c e r)
replaced_once c e r one all d k = replaced (λ _ x. runs_over x k ≤ 1) c e r.circuits d (λ _. one k) (λ _. all d k)

accepted_once : (call : Call) (one two : List ℕ) (s : State) (r : Register) → Allowed call true one two s → Once r → Once (altered call one two r)
accepted_once tell one two s r h all = all
accepted_once (close link) one two s r h all = all
accepted_once (reopen link) one two s r h all = all
accepted_once (surcharge link amount) one two s r h all = all
accepted_once (quote root target) one two s r h all = all
accepted_once (survey root) one two s r h all = all
accepted_once (hold circuit root target) one two s r h all = let fits = h refl in replaced_once circuit (held (pair_fields (links r) circuit root target one two)) r fits.routes.none_twice all
accepted_once (confirm board circuit) one two s r h all = replaced_once circuit (confirmed_entry (r.circuits circuit)) r (λ k. confirmed_once (r.circuits circuit) k (all circuit k)) all
accepted_once (withdraw board circuit) one two s r h all = replaced_once circuit vacant r (λ k. omega arith) all
accepted_once (release circuit) one two s r h all = replaced_once circuit vacant r (λ k. omega arith) all
accepted_once (certificate circuit) one two s r h all = all

event_once : (accepted : Bool) (call : Call) (one two : List ℕ) (s : State) (r : Register) → Allowed call accepted one two s → Once r → Once (cond accepted (altered call one two r) r)
event_once true call one two s r h all = accepted_once call one two s r h all
event_once false call one two s r h all = all

pub circuits_run_once : CircuitsRunOnce
circuits_run_once number given [] s came c k = omega arith
circuits_run_once number given (e ∷ es) s (t, came, steps) c k = event_once e.accepted e.call e.one e.two t (register given es) steps.allowed (circuits_run_once number given es t came) c k

-- one event more that neither enters a circuit nor removes it
longer : (given : Net) (es : List Event) (e : Event) (c : ℕ) (f : Fields) → not (e.accepted && enters_or_removes c e.call) ≡ true → HeldSo given es c f → HeldSo given (e ∷ es) c f
longer given es e c f leaves h =
    record {
      later = e ∷ h.later;
      earlier = h.earlier;
      root = h.root;
      target = h.target;
      one = h.one;
      two = h.two;
      whole = ap (λ l. e ∷ l) h.whole;
      since = both_true leaves h.since;
      says = h.says;
    }

entry_longer : (given : Net) (es : List Event) (e : Event) (c : ℕ) (x : Entry) → not (e.accepted && enters_or_removes c e.call) ≡ true → EntryHeldSo given es c x → EntryHeldSo given (e ∷ es) c x
entry_longer given es e c vacant leaves h = tt
entry_longer given es e c (held f) leaves h = longer given es e c f leaves h
entry_longer given es e c (confirmed f) leaves h = longer given es e c f leaves h

-- an accepted call
abbrev done : Call → List ℕ → List ℕ → Event
done call one two = record { call = call; accepted = true; one = one; two = two }

-- a hold just accepted
just_held : (given : Net) (es : List Event) (c root target : ℕ) (one two : List ℕ) → HeldSo given (done (hold c root target) one two ∷ es) c (pair_fields (links (register given es)) c root target one two)
just_held given es c root target one two = record { later = []; earlier = es; root = root; target = target; one = one; two = two; whole = refl; since = refl; says = refl }

confirmed_so : (given : Net) (es : List Event) (c : ℕ) (x : Entry) → EntryHeldSo given es c x → EntryHeldSo given es c (confirmed_entry x)
confirmed_so given es c vacant h = h
confirmed_so given es c (held f) h = h
confirmed_so given es c (confirmed f) h = h

accepted_so : (given : Net) (es : List Event) (call : Call) (one two : List ℕ) → ((d : ℕ) → EntryHeldSo given es d ((register given es).circuits d)) → (c : ℕ) → EntryHeldSo given (done call one two ∷ es) c ((altered call one two (register given es)).circuits c)
accepted_so given es tell one two all c = entry_longer given es (done tell one two) c ((register given es).circuits c) refl (all c)
accepted_so given es (close link) one two all c = entry_longer given es (done (close link) one two) c ((register given es).circuits c) refl (all c)
accepted_so given es (reopen link) one two all c = entry_longer given es (done (reopen link) one two) c ((register given es).circuits c) refl (all c)
accepted_so given es (surcharge link amount) one two all c = entry_longer given es (done (surcharge link amount) one two) c ((register given es).circuits c) refl (all c)
accepted_so given es (quote root target) one two all c = entry_longer given es (done (quote root target) one two) c ((register given es).circuits c) refl (all c)
accepted_so given es (survey root) one two all c = entry_longer given es (done (survey root) one two) c ((register given es).circuits c) refl (all c)
accepted_so given es (hold circuit root target) one two all c =
    replaced (EntryHeldSo given (done (hold circuit root target) one two ∷ es)) circuit (held (pair_fields (links (register given es)) circuit root target one two)) (register given es).circuits c
    (λ is. subst (λ d. HeldSo given (done (hold circuit root target) one two ∷ es) d (pair_fields (links (register given es)) circuit root target one two)) (sym is) (just_held given es circuit root target one two))
    (λ other. entry_longer given es (done (hold circuit root target) one two) c ((register given es).circuits c) (ap not (ne_eqb c circuit other)) (all c))
accepted_so given es (confirm board circuit) one two all c =
    replaced (EntryHeldSo given (done (confirm board circuit) one two ∷ es)) circuit (confirmed_entry ((register given es).circuits circuit)) (register given es).circuits c
    (λ is. entry_longer given es (done (confirm board circuit) one two) c (confirmed_entry ((register given es).circuits circuit)) refl (subst (λ d. EntryHeldSo given es c (confirmed_entry ((register given es).circuits d))) is (confirmed_so given es c ((register given es).circuits c) (all c))))
    (λ other. entry_longer given es (done (confirm board circuit) one two) c ((register given es).circuits c) refl (all c))
accepted_so given es (withdraw board circuit) one two all c =
    replaced (EntryHeldSo given (done (withdraw board circuit) one two ∷ es)) circuit vacant (register given es).circuits c
    (λ is. tt)
    (λ other. entry_longer given es (done (withdraw board circuit) one two) c ((register given es).circuits c) (ap not (ne_eqb c circuit other)) (all c))
accepted_so given es (release circuit) one two all c =
    replaced (EntryHeldSo given (done (release circuit) one two ∷ es)) circuit vacant (register given es).circuits c
    (λ is. tt)
    (λ other. entry_longer given es (done (release circuit) one two) c ((register given es).circuits c) (ap not (ne_eqb c circuit other)) (all c))
accepted_so given es (certificate circuit) one two all c = entry_longer given es (done (certificate circuit) one two) c ((register given es).circuits c) refl (all c)

event_so : (given : Net) (es : List Event) (accepted : Bool) (call : Call) (one two : List ℕ) → ((d : ℕ) → EntryHeldSo given es d ((register given es).circuits d)) → (c : ℕ) → EntryHeldSo given (record { call = call; accepted = accepted; one = one; two = two } ∷ es) c ((cond accepted (altered call one two (register given es)) (register given es)).circuits c)
event_so given es true call one two all c = accepted_so given es call one two all c
event_so given es false call one two all c = entry_longer given es (record { call = call; accepted = false; one = one; two = two }) c ((register given es).circuits c) refl (all c)

pub circuits_are_held_so : CircuitsAreHeldSo
circuits_are_held_so given [] c = tt
circuits_are_held_so given (e ∷ es) c = event_so given es e.accepted e.call e.one e.two (circuits_are_held_so given es) c

-- no call alters what network was given
altered_given : (call : Call) (one two : List ℕ) (r : Register) → (altered call one two r).given ≡ r.given
altered_given tell one two r = refl
altered_given (close link) one two r = refl
altered_given (reopen link) one two r = refl
altered_given (surcharge link amount) one two r = refl
altered_given (quote root target) one two r = refl
altered_given (survey root) one two r = refl
altered_given (hold circuit root target) one two r = refl
altered_given (confirm board circuit) one two r = refl
altered_given (withdraw board circuit) one two r = refl
altered_given (release circuit) one two r = refl
altered_given (certificate circuit) one two r = refl

fed_given : (accepted : Bool) (call : Call) (one two : List ℕ) (r : Register) → (cond accepted (altered call one two r) r).given ≡ r.given
fed_given true call one two r = altered_given call one two r
fed_given false call one two r = refl

pub register_given : (given : Net) (events : List Event) → (register given events).given ≡ given
register_given given [] = refl
register_given given (e ∷ es) = fed_given e.accepted e.call e.one e.two (register given es) ∙ register_given given es

-- the channels taken that a register's links show
links_taken : (r : Register) (k : ℕ) → k < length r.given.links → (link_at (links r) k).taken ≡ (link_at r.given k).taken + circuits_over r.circuits k
links_taken r k low =
    let first : ℕ → Link → Link = λ j. retaken (λ t. t + circuits_over r.circuits j) in
    let one = with_circuits r in
    let two = charged_over r.amounts one in
    let low_one : k < length one.links = subst (λ m. k < m) (sym (length_numbered first 0 r.given.links)) low in
    let low_two : k < length two.links = subst (λ m. k < m) (sym (length_numbered (charging r.amounts) 0 one.links)) low_one in
    ap (λ l. l.taken) (link_at_changed (closing r.closed) two k low_two)
    ∙ ap (λ l. l.taken) (link_at_changed (charging r.amounts) one k low_one)
    ∙ ap (λ l. l.taken) (link_at_changed first r.given k low)

pub taken_are_counted : TakenAreCounted
taken_are_counted given events k low =
    let r = register given events in
    let is = register_given given events in
    links_taken r k (subst (λ n. k < length n.links) (sym is) low) ∙ ap (λ n. (link_at n k).taken + circuits_over r.circuits k) is
