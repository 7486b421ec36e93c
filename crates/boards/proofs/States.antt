-- What calls make of a board's state.
use Rattle.std.proofs.Common.{◌≡◌, ℕ, true, false, cond, ◌==◌, List, ◌++◌, Ok, Err, Result, is_ok, sym, refl, ap, ◌∙◌, subst}
use Rattle.std.proofs.lemmas.Bool.{both_ways}
use Rattle.std.specs.Cmp.Derive.{both_true}
use Rattle.networks.specs.Meaning.{Net}
use Rattle.certificates.specs.Format.{Fields}
use Rattle.certificates.specs.Limits.{circuit_sound}
use Rattle.certificates.specs.Calls.{Made, held as fields_held}
use Rattle.certificates.specs.declared.certificate.Certificate.{Certificate}
use Rattle.certificates.specs.declared.faults.CertificateRefusal.{CertificateRefusal}
use Rattle.ledger.specs.Rows.{Entry, vacant, held, confirmed, is_vacant, is_held, is_confirmed, confirm_answer}
use Rattle.ledger.specs.Keeping.{rows_in}
use Rattle.ledger.specs.declared.ledger.Ledger.{Ledger}
use Rattle.ledger.specs.declared.refusing.LedgerRefusal.{LedgerRefusal}
use Rattle.ledger.specs.declared.refusing.LedgerRefusal.TheVariants.{WrongRow}
use Rattle.ledger.proofs.Rules.{stands_sound}
use Rattle.registers.specs.States.{State, begun}
use Rattle.registers.specs.Registers.{empty}
use Rattle.registers.specs.Events.{Call, Event}
use Rattle.registers.specs.Events as asked
use Rattle.registers.specs.Histories.{Steps, Holds, holding, confirming, vacating, routes_of, told_by}
use Rattle.registers.proofs.Agreeing.{calls_keep_agreement, begun_agrees}
use Rattle.boards.specs.Calls.{event, Does}

-- what one call does keeps agreement with every register
pub does : {s t : State} {e : Event} → Steps s e t → Does s e t
does {s} {t} {e} steps = record { steps = steps; history = λ number given events came. (s, came, steps); agreement = λ number given events is. calls_keep_agreement number given events e s t is steps }

-- the same in each part
pub record Same (s t : State) : Type 0 where
  pub number : s.number ≡ t.number
  pub bottom : s.bottom ≡ t.bottom
  pub closed : (k : ℕ) → s.closed k ≡ t.closed k
  pub amounts : (k : ℕ) → s.amounts k ≡ t.amounts k
  pub rows : (c : ℕ) → s.rows c ≡ t.rows c

pub same : (s t : State) → Same s t → s ≡ t
same s t h = λ x. record { number = h.number x; bottom = h.bottom x; closed = λ k. h.closed k x; amounts = λ k. h.amounts k x; rows = λ c. h.rows c x }

-- a board just begun agrees with its register, which was fed nothing
pub begins_agreeing : (number : ℕ) (given : Net) (t : State) → Same t (begun number given) → t ≡ told_by number (empty given)
begins_agreeing number given t h = same t (begun number given) h ∙ begun_agrees number given

-- a row that is not vacant is that of a circuit
pub sound_held : (l : Ledger) (c : ℕ) (f : Fields) → rows_in l c ≡ held f → circuit_sound c ≡ true
sound_held l c f is = stands_sound l.rows c (ap is_vacant is)

pub sound_confirmed : (l : Ledger) (c : ℕ) (f : Fields) → rows_in l c ≡ confirmed f → circuit_sound c ≡ true
sound_confirmed l c f is = stands_sound l.rows c (ap is_vacant is)

-- a row that can be confirmed is held
abbrev answered : Entry → Result (Unit {0}) LedgerRefusal
answered e = cond (is_held e) (Ok tt) (Err WrongRow)

held_answered : (e : Entry) → answered e ≡ Ok tt → is_held e ≡ true
held_answered vacant h = absurd (both_ways false refl (ap is_ok h))
held_answered (held f) h = refl
held_answered (confirmed f) h = absurd (both_ways false refl (ap is_ok h))

held_stands : (e : Entry) → is_held e ≡ true → is_vacant e ≡ false
held_stands vacant h = absurd (both_ways false refl h)
held_stands (held f) h = refl
held_stands (confirmed f) h = refl

-- the routes of a row are those of its certificate
pub routes_given : (a b : List ℕ) (f : Fields) (e : Entry) → a ≡ f.one → b ≡ f.two → routes_of e ≡ f.one ++ f.two → a ++ b ≡ routes_of e
routes_given a b f e first second is = (λ x. first x ++ second x) ∙ sym is

-- a hold of this board confirmed
pub confirm_does : {s t : State} (l : Ledger) (board circuit : ℕ) → (board == s.number) ≡ true → s.rows ≡ rows_in l → confirm_answer (rows_in l) circuit ≡ Ok tt → Same t (confirming circuit s) → Does s (event (asked.confirm board circuit) true) t
confirm_does {s} {t} l board circuit own is answer leaves =
    let h : is_held (rows_in l circuit) ≡ true = held_answered (rows_in l circuit) answer in
    let stands = both_true own (both_true (stands_sound l.rows circuit (held_stands (rows_in l circuit) h)) (ap (λ r. is_held (r circuit)) is ∙ h)) in
    does (record { allowed = sym stands; leaves = same t (confirming circuit s) leaves })

-- a hold of this board withdrawn
pub withdraw_does : {s t : State} (l : Ledger) (board circuit : ℕ) (f : Fields) → (board == s.number) ≡ true → s.rows ≡ rows_in l → rows_in l circuit ≡ held f → Same t (vacating circuit s) → Does s (event (asked.withdraw board circuit) true) t
withdraw_does {s} {t} l board circuit f own is row leaves =
    let stands = both_true own (both_true (sound_held l circuit f row) (ap (λ r. is_held (r circuit)) is ∙ ap is_held row)) in
    does (record { allowed = sym stands; leaves = same t (vacating circuit s) leaves })

-- a confirmed circuit released
pub release_does : {s t : State} (l : Ledger) (circuit : ℕ) (f : Fields) → s.rows ≡ rows_in l → rows_in l circuit ≡ confirmed f → Same t (vacating circuit s) → Does s (event (asked.release circuit) true) t
release_does {s} {t} l circuit f is row leaves =
    let stands = both_true (sound_confirmed l circuit f row) (ap (λ r. is_confirmed (r circuit)) is ∙ ap is_confirmed row) in
    does (record { allowed = sym stands; leaves = same t (vacating circuit s) leaves })

-- a held circuit accepted
pub hold_does : {s t : State} {circuit root target : ℕ} {one two : List ℕ} → Holds s circuit one two → t ≡ holding circuit root target one two s → Does s (record { call = asked.hold circuit root target; accepted = true; one = one; two = two }) t
hold_does holds leaves = does (record { allowed = λ _. holds; leaves = leaves })

-- what a certificate was made of
pub made_fields : (f : Fields) (made : Result Certificate CertificateRefusal) (c : Certificate) → made ≡ Ok c → Made f made → fields_held c ≡ f
made_fields f made c is h = (subst (λ m. Made f m) is h).1
