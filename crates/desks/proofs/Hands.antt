-- What the calls of a board leave of the holds in hand.
use Rattle.std.proofs.Common.{◌≡◌, ℕ, ◌&&◌, ◌==◌, Bool, true, false, not, cond, List, Some, None, Option, Err, Result, sym, refl, ap, ◌∙◌, subst}
use Rattle.std.specs.Prelude.{is_some}
use Rattle.std.proofs.lemmas.Bool.{both_ways, and_from, and_parts, eqb-true, eq-eqb}
use Rattle.certificates.specs.Limits.{circuit_sound}
use Rattle.ledger.specs.Rows.{Entry, vacant, held, confirmed, entered, confirmed_entry, is_vacant, is_held, is_confirmed}
use Rattle.ledger.specs.Keeping.{rows_in}
use Rattle.ledger.specs.declared.ledger.Ledger.{Ledger}
use Rattle.ledger.proofs.Rules.{not_held}
use Rattle.registers.specs.States.{State}
use Rattle.registers.specs.Events.{Call, hold, release, confirm, withdraw, Event}
use Rattle.registers.specs.Histories.{Steps, moved}
use Rattle.boards.specs.declared.hold.Hold.{Hold}
use Rattle.boards.specs.declared.hold.ReturnedHold.{ReturnedHold}
use Rattle.boards.specs.Calls.{event, Does, HandedBack}
use Rattle.boards.proofs.States.{does}
use Rattle.refusals.specs.declared.Refusal.{Refusal}
use Rattle.refusals.specs.declared.Refusal.TheVariants.{NotHeld}
use Rattle.desks.specs.Slots.{with_slot}
use Rattle.desks.specs.Desks.{Matched, Whole, accepts}

-- what is in hand at a state of a board
abbrev pub At : State → (ℕ → Option Hold) → Type 0
At s holds = Matched s.number holds × Whole s.rows holds

-- an empty slot has no hold
nothing : {h : Hold} → ◌≡◌ {A = Option Hold} None (Some h) → ⊥
nothing e = cc

same_hold : (g h : Hold) → ◌≡◌ {A = Option Hold} (Some g) (Some h) → g ≡ h
same_hold g h e = cc

-- an entry is not both held and confirmed, nor held and vacant
apart : (x : Entry) → is_confirmed x ≡ true → is_held x ≡ false
apart vacant k = absurd (both_ways false refl k)
apart (held f) k = absurd (both_ways false refl k)
apart (confirmed f) k = refl

-- a row that is held is a circuit's
held_in : (b : Bool) (x : Entry) → is_held (cond b x vacant) ≡ true → b ≡ true
held_in true x h = refl
held_in false x h = absurd (both_ways false refl h)

pub held_sound : (l : Ledger) (c : ℕ) → is_held (rows_in l c) ≡ true → circuit_sound c ≡ true
held_sound l c h = held_in (circuit_sound c) _ h

-- the same slots, told otherwise
pub as_told :
    (s : State) (holds after : ℕ → Option Hold) → ((c : ℕ) → after c ≡ holds c) → At s holds
    → At s after
as_told s holds after same before = (λ c h e. before.0 c h (sym (same c) ∙ e), λ c. ap is_some (same c) ∙ before.1 c)

-- one slot and its circuit's row replaced
whole_with :
    (rows : ℕ → Entry) (holds : ℕ → Option Hold) (c : ℕ) (x : Entry) (o : Option Hold)
    → Whole rows holds → is_some o ≡ is_held x → Whole (entered c x rows) (with_slot c o holds)
whole_with rows holds c x o whole same d = at_slot (d == c)
  where
    at_slot : (b : Bool) → is_some (cond b o (holds d)) ≡ is_held (cond b x (rows d))
    at_slot true = same
    at_slot false = whole d

matched_none :
    (n : ℕ) (holds : ℕ → Option Hold) (c : ℕ) → Matched n holds
    → Matched n (with_slot c None holds)
matched_none n holds c matched d h = at_slot (d == c)
  where
    at_slot : (b : Bool) → cond b None (holds d) ≡ Some h → (h.board ≡ n) × (h.circuit ≡ d)
    at_slot true e = absurd (nothing e)
    at_slot false e = matched d h e

matched_some :
    (n : ℕ) (holds : ℕ → Option Hold) (c : ℕ) (g : Hold) → Matched n holds → g.board ≡ n
    → g.circuit ≡ c → Matched n (with_slot c (Some g) holds)
matched_some n holds c g matched board circuit d h = at_slot (d == c) refl
  where
    at_slot :
        (b : Bool) → (d == c) ≡ b → cond b (Some g) (holds d) ≡ Some h
        → (h.board ≡ n) × (h.circuit ≡ d)
    at_slot true is e = subst (λ y. (y.board ≡ n) × (y.circuit ≡ d)) (same_hold g h e) (board, circuit ∙ sym (eqb-true d c is))
    at_slot false is e = matched d h e

-- what stood of one slot with its own hold in it stands of all
put_back :
    (holds : ℕ → Option Hold) (c : ℕ) (g : Hold) → holds c ≡ Some g → (d : ℕ)
    → with_slot c (Some g) (with_slot c None holds) d ≡ holds d
put_back holds c g is d = at_slot (d == c) refl
  where
    at_slot : (b : Bool) → (d == c) ≡ b → cond b (Some g) (cond b None (holds d)) ≡ holds d
    at_slot true e = sym (ap holds (eqb-true d c e) ∙ is)
    at_slot false e = refl

-- an empty slot emptied
pub still_empty :
    (holds : ℕ → Option Hold) (c : ℕ) → holds c ≡ None → (d : ℕ)
    → with_slot c None holds d ≡ holds d
still_empty holds c is d = at_slot (d == c) refl
  where
    at_slot : (b : Bool) → (d == c) ≡ b → cond b None (holds d) ≡ holds d
    at_slot true e = sym (ap holds (eqb-true d c e) ∙ is)
    at_slot false e = refl

-- after a call that leaves what is in hand, if it is accepted
pub left :
    (s t : State) (e : Event) (holds : ℕ → Option Hold) → Steps s e t → At s holds
    → (e.accepted ≡ true → At (moved e.call e.one e.two s) holds) → At t holds
left s t e holds steps before changed = subst (λ x. At x holds) (sym steps.leaves) (either e.accepted refl)
  where
    either : (b : Bool) → e.accepted ≡ b → At (cond b (moved e.call e.one e.two s) s) holds
    either true is = changed is
    either false is = before

-- after a release: the row was confirmed, and is vacant
pub released :
    (s t : State) (circuit : ℕ) (ok : Bool) (holds : ℕ → Option Hold)
    → Steps s (event (release circuit) ok) t → At s holds → At t holds
released s t circuit ok holds steps before =
    left s t (event (release circuit) ok) holds steps before
    (λ is.
    let was : is_held (s.rows circuit) ≡ false = apart (s.rows circuit) (and_parts _ _ (sym steps.allowed ∙ is)).1 in
    (before.0, λ d. unheld d (d == circuit) refl was))
  where
    unheld :
        (d : ℕ) (b : Bool) → (d == circuit) ≡ b → is_held (s.rows circuit) ≡ false
        → is_some (holds d) ≡ is_held (cond b vacant (s.rows d))
    unheld d true e was = before.1 d ∙ (ap (λ c. is_held (s.rows c)) (eqb-true d circuit e) ∙ was)
    unheld d false e was = before.1 d

-- after a hold: the row was vacant, and is held now, and the slot has the hold that was given for it
pub held_now :
    (s t : State) (circuit root target : ℕ) (one two : List ℕ) (g : Hold) (holds : ℕ → Option Hold)
    → Steps s (record { call = hold circuit root target; accepted = true; one = one; two = two }) t
    → At s holds → g.board ≡ s.number → g.circuit ≡ circuit
    → At t (with_slot circuit (Some g) holds)
held_now s t circuit root target one two g holds steps before board is =
    subst (λ x. At x (with_slot circuit (Some g) holds)) (sym steps.leaves)
    (matched_some s.number holds circuit g before.0 board is, whole_with s.rows holds circuit _ (Some g) before.1 refl)

pub slot_free :
    (s t : State) (circuit root target : ℕ) (one two : List ℕ) (holds : ℕ → Option Hold)
    → Steps s (record { call = hold circuit root target; accepted = true; one = one; two = two }) t
    → At s holds → holds circuit ≡ None
slot_free s t circuit root target one two holds steps before = empty (s.rows circuit) (holds circuit) (steps.allowed refl).row_vacant (before.1 circuit)
  where
    empty : (x : Entry) (o : Option Hold) → is_vacant x ≡ true → is_some o ≡ is_held x → o ≡ None
    empty vacant None free same = refl
    empty vacant (Some h) free same = absurd (both_ways false refl (sym same))
    empty (held f) o free same = absurd (both_ways false refl free)
    empty (confirmed f) o free same = absurd (both_ways false refl free)

-- the hold in a slot is one of this board and its circuit, whose row is held
pub backed :
    (s : State) (holds : ℕ → Option Hold) (circuit : ℕ) (h : Hold) → At s holds
    → holds circuit ≡ Some h
    → (h.board ≡ s.number) × (h.circuit ≡ circuit) × (is_held (s.rows circuit) ≡ true)
backed s holds circuit h before here =
    let p = before.0 circuit h here in
    (p.0, p.1, sym (before.1 circuit) ∙ ap is_some here)

-- the two calls that end a hold
abbrev pub Accepts : State → ℕ → ℕ → Bool
Accepts s board circuit = board == s.number && (circuit_sound circuit && is_held (s.rows circuit))

-- a hold in hand is accepted
pub is_accepted :
    (s : State) (holds : ℕ → Option Hold) (circuit : ℕ) (h : Hold) (ok : Bool)
    → ok ≡ Accepts s h.board h.circuit → At s holds → holds circuit ≡ Some h
    → circuit_sound circuit ≡ true → ok ≡ true
is_accepted s holds circuit h ok allowed before here sound =
    let p = backed s holds circuit h before here in
    allowed ∙ and_from _ _ (eq-eqb _ _ p.0) (and_from _ _ (ap circuit_sound p.1 ∙ sound) (ap (λ c. is_held (s.rows c)) p.1 ∙ p.2))

-- with no hold in hand, none would be
pub is_refused :
    (s : State) (circuit : ℕ) → is_held (s.rows circuit) ≡ false
    → false ≡ Accepts s s.number circuit
is_refused s circuit not = refused (s.number == s.number) (circuit_sound circuit) (is_held (s.rows circuit)) not
  where
    refused : (a b c : Bool) → c ≡ false → false ≡ (a && (b && c))
    refused true true c e = sym e
    refused true false c e = refl
    refused false b c e = refl

-- a call told by the board and the circuit of the desk
pub retold :
    (call : ℕ → ℕ → Call) (s t : State) (board circuit : ℕ) (h : Hold) (ok told : Bool)
    → h.board ≡ board → h.circuit ≡ circuit → ok ≡ told
    → Does s (event (call h.board h.circuit) ok) t → Does s (event (call board circuit) told) t
retold call s t board circuit h ok told b c k d = subst (λ x. Does s x t) (λ i. event (call (b i) (c i)) (k i)) d

-- a confirmation or a withdrawal of a hold that was taken out of its slot
pub confirmed_out :
    (s t : State) (circuit : ℕ) (holds : ℕ → Option Hold)
    → Steps s (event (confirm s.number circuit) true) t → At s holds
    → At t (with_slot circuit None holds)
confirmed_out s t circuit holds steps before =
    subst (λ x. At x (with_slot circuit None holds)) (sym steps.leaves)
    (matched_none s.number holds circuit before.0, whole_with s.rows holds circuit (confirmed_entry (s.rows circuit)) None before.1 (sym (not_held (s.rows circuit))))

pub withdrawn_out :
    (s t : State) (circuit : ℕ) (holds : ℕ → Option Hold)
    → Steps s (event (withdraw s.number circuit) true) t → At s holds
    → At t (with_slot circuit None holds)
withdrawn_out s t circuit holds steps before =
    subst (λ x. At x (with_slot circuit None holds)) (sym steps.leaves)
    (matched_none s.number holds circuit before.0, whole_with s.rows holds circuit vacant None before.1 refl)

-- with no hold in hand no call is made, and it would have been refused
pub confirm_none :
    (s : State) (circuit : ℕ) → is_held (s.rows circuit) ≡ false
    → Does s (event (confirm s.number circuit) false) s
confirm_none s circuit not = does (record { allowed = is_refused s circuit not; leaves = refl })

pub withdraw_none :
    (s : State) (circuit : ℕ) → is_held (s.rows circuit) ≡ false
    → Does s (event (withdraw s.number circuit) false) s
withdraw_none s circuit not = does (record { allowed = is_refused s circuit not; leaves = refl })

-- a hold that another board does not accept is refused there
pub refused_abroad :
    (s : State) (board circuit : ℕ) (h : Hold) (ok : Bool) → ok ≡ Accepts s h.board h.circuit
    → h.board ≡ board → h.circuit ≡ circuit → accepts s board circuit ≡ false → ok ≡ false
refused_abroad s board circuit h ok allowed b c not =
    allowed ∙ (λ i. Accepts s (b i) (c i)) ∙ none (board == s.number) (circuit_sound circuit) (is_held (s.rows circuit)) not
  where
    none : (a b c : Bool) → (a && c) ≡ false → (a && (b && c)) ≡ false
    none true true c e = e
    none true false c e = refl
    none false b c e = refl

-- no hold, where all rows are vacant
pub none_at :
    (s : State) (holds : ℕ → Option Hold) → ((c : ℕ) → holds c ≡ None)
    → ((c : ℕ) → s.rows c ≡ vacant) → At s holds
none_at s holds empty rows = (λ c h e. absurd (nothing (sym (empty c) ∙ e)), λ c. ap is_some (empty c) ∙ sym (ap is_held (rows c)))

-- an accepted call on a hold in hand, told by the board and the circuit of the desk
pub told_here :
    (call : ℕ → ℕ → Call) (s t : State) (circuit : ℕ) (h : Hold) (ok : Bool) (holds : ℕ → Option Hold)
    → At s holds → holds circuit ≡ Some h → circuit_sound circuit ≡ true
    → ok ≡ Accepts s h.board h.circuit → Does s (event (call h.board h.circuit) ok) t
    → Does s (event (call s.number circuit) true) t
told_here call s t circuit h ok holds before here sound allowed done =
    let p = backed s holds circuit h before here in
    retold call s t s.number circuit h ok true p.0 p.1 (is_accepted s holds circuit h ok allowed before here sound) done

-- what is answered of an offered hold
pub offered :
    (number circuit : ℕ) (refusal : Refusal) (own foreign : Bool) → own ≡ true → foreign ≡ false
    → refusal ≡ NotHeld number circuit
    → Some refusal ≡ cond (own && not foreign) (Some (NotHeld number circuit)) None
offered number circuit refusal own foreign stands abroad is = ap Some is ∙ sym (λ i. cond (stands i && not (abroad i)) (Some (NotHeld number circuit)) None)

-- the hold that is handed back is the one that was offered
pub handed_back :
    (h : Hold) (answer told : Result (Unit {0}) ReturnedHold) (back : ReturnedHold)
    → HandedBack h answer → told ≡ answer → told ≡ Err back → back.hold ≡ h
handed_back h answer told back handed is err = subst (HandedBack h) (sym is ∙ err) handed

-- a hold that was taken out of its slot, put into it again
pub put_again :
    (holds taken after : ℕ → Option Hold) (c : ℕ) (g h : Hold) → holds c ≡ Some g → h ≡ g
    → ((d : ℕ) → taken d ≡ with_slot c None holds d)
    → ((d : ℕ) → after d ≡ with_slot c (Some h) taken d) → (d : ℕ) → after d ≡ holds d
put_again holds taken after c g h here same out back d =
    back d ∙ (λ i. cond (d == c) (Some (same i)) (out d i)) ∙ put_back holds c g here d
