-- What is left in hand, and of the board, while a desk ends.
use Rattle.std.proofs.Common.{◌≡◌, ℕ, zero, suc, ◌-◌, ◌<◌, ◌&&◌, Bool, true, false, cond, List, [], ◌∷◌, Some, None, Option, length, take, drop, nat_le, nat_lt, inl, inr, sym, refl, ap, ◌∙◌, subst, arith, slice_index_or}
use Rattle.std.specs.Prelude.{filter}
use Rattle.std.specs.List.{range_with_len}
use Rattle.std.proofs.Math.Seq.{drop-cons}
use Rattle.std.proofs.lemmas.Bool.{cases_Bool, cases_eq, and_from, eq-eqb, le-leb, lt-ltb, le-ltb, ltb-true, ltb-false}
use Rattle.std.proofs.lemmas.List.{get_or-take, length-take}
use Rattle.std.proofs.lemmas.List.FromFn.{length-range_with_len, get_or-range_with_len}
use Rattle.certificates.specs.Limits.{circuit_sound}
use Rattle.ledger.specs.Rows.{Entry, vacant, entered, is_held}
use Rattle.ledger.proofs.Sums.{is_sound, entered_elsewhere}
use Rattle.registers.specs.States.{State}
use Rattle.registers.specs.Events.{withdraw}
use Rattle.boards.specs.declared.hold.Hold.{Hold}
use Rattle.boards.specs.Calls.{event, Does}
use Rattle.desks.specs.Slots.{hand}
use Rattle.desks.specs.Desks.{withdrawals, DoesAll}
use Rattle.desks.proofs.Hands.{At, backed, retold}

-- the circuits, the lowest first
abbrev pub circuits : List ℕ
circuits = range_with_len 1 32

-- the slots but the last
take_within : {A : Type 0} (n : ℕ) (xs : List A) → take n (take (suc n) xs) ≡ take n xs
take_within zero xs = refl
take_within (suc n) [] = refl
take_within (suc n) (x ∷ xs) = ap (λ l. x ∷ l) (take_within n xs)

pub shorter :
    {A : Type 0} (slots left rest : List A) (m n : ℕ) → left ≡ take m slots
    → rest ≡ take (m - 1) left → m ≡ suc n → rest ≡ take n slots
shorter slots left rest m n is cut size =
    let place : m - 1 ≡ n = omega (arith, size) in
    cut ∙ (λ i. take (place i) (is i)) ∙ ap (λ k. take n (take k slots)) size ∙ take_within n slots

-- the last slot is that of the next circuit
pub last :
    (slots left : List (Option Hold)) (m n : ℕ) (o : Option Hold) → left ≡ take m slots
    → m ≡ suc n → o ≡ slice_index_or left n None → hand slots (suc n) ≡ o
last slots left m n o is size out =
    let low : nat_le 1 (suc n) ≡ true = le-leb 1 (suc n) (omega arith) in
    let place : suc n - 1 ≡ n = omega arith in
    (λ i. cond (low i) (slice_index_or slots (place i) None) None)
    ∙ sym (ap (λ xs. slice_index_or xs n None) is ∙ get_or-take m slots n None (omega (arith, size)))
    ∙ sym out

-- how many slots are left
pub below :
    {A : Type 0} (slots left : List A) (m n : ℕ) → length slots ≡ 32 → left ≡ take m slots
    → length left ≡ m → m ≡ suc n → n < 32
below slots left m n room is long size = omega (arith, length-take m slots, ap length is)

-- the circuits from the next on
drop_next : (n : ℕ) → n < 32 → drop n circuits ≡ suc n ∷ drop (suc n) circuits
drop_next n low =
    let at = get_or-range_with_len 1 32 n 0 low in
    drop-cons circuits n 0 (omega (arith, length-range_with_len 1 32))
    ∙ ap (λ c. c ∷ drop (suc n) circuits) (at ∙ omega arith)

pub passed :
    (p : ℕ → Bool) (n : ℕ) → n < 32 → p (suc n) ≡ true
    → filter p (drop n circuits) ≡ suc n ∷ filter p (drop (suc n) circuits)
passed p n low is = ap (filter p) (drop_next n low) ∙ ap (λ b. cond b (suc n ∷ filter p (drop (suc n) circuits)) (filter p (drop (suc n) circuits))) is

pub left_out :
    (p : ℕ → Bool) (n : ℕ) → n < 32 → p (suc n) ≡ false
    → filter p (drop n circuits) ≡ filter p (drop (suc n) circuits)
left_out p n low is = ap (filter p) (drop_next n low) ∙ ap (λ b. cond b (suc n ∷ filter p (drop (suc n) circuits)) (filter p (drop (suc n) circuits))) is

-- the rows, where the held circuits above a number were withdrawn
abbrev pub Above : (ℕ → Entry) → ℕ → (ℕ → Entry) → Type 0
Above rows n now = (c : ℕ) → now c ≡ cond (nat_lt n c && is_held (rows c)) vacant (rows c)

idle : (x b : Bool) (r : Entry) → b ≡ false → cond (x && b) vacant r ≡ r
idle true b r e = ap (λ z. cond z vacant r) e
idle false b r e = refl

past : (n c : ℕ) → (c ≡ suc n → ⊥) → nat_lt (suc n) c ≡ nat_lt n c
past n c other = elim (cases_Bool (nat_lt n c)) [
  | inl above ↦ let low = ltb-true n c above in lt-ltb (suc n) c (omega (arith, other)) ∙ sym above
  | inr below ↦ let high = ltb-false n c below in le-ltb (suc n) c (omega arith) ∙ sym below
]

-- a row not above is as it was
pub untouched : (rows now : ℕ → Entry) (n : ℕ) → Above rows (suc n) now → now (suc n) ≡ rows (suc n)
untouched rows now n above = above (suc n) ∙ ap (λ b. cond (b && is_held (rows (suc n))) vacant (rows (suc n))) (le-ltb (suc n) (suc n) (omega arith))

pub none_next :
    (rows now : ℕ → Entry) (n : ℕ) → is_held (rows (suc n)) ≡ false → Above rows (suc n) now
    → Above rows n now
none_next rows now n not above c = elim (cases_eq c (suc n)) [
  | inl is ↦ let no : is_held (rows c) ≡ false = ap (λ k. is_held (rows k)) is ∙ not in
      above c ∙ idle (nat_lt (suc n) c) (is_held (rows c)) (rows c) no ∙ sym (idle (nat_lt n c) (is_held (rows c)) (rows c) no)
  | inr other ↦ above c ∙ ap (λ b. cond (b && is_held (rows c)) vacant (rows c)) (past n c other)
]

held_next :
    (rows now after : ℕ → Entry) (n : ℕ) → is_held (rows (suc n)) ≡ true
    → ((c : ℕ) → after c ≡ entered (suc n) vacant now c) → Above rows (suc n) now
    → Above rows n after
held_next rows now after n held told above c = elim (cases_eq c (suc n)) [
  | inl is ↦ let yes : is_held (rows c) ≡ true = ap (λ k. is_held (rows k)) is ∙ held in
      let low : nat_lt n c ≡ true = lt-ltb n c (omega (arith, is)) in
      told c ∙ ap (λ b. cond b vacant (now c)) (eq-eqb c (suc n) is) ∙ sym (λ i. cond (low i && yes i) vacant (rows c))
  | inr other ↦ told c ∙ entered_elsewhere (suc n) vacant now c other ∙ above c ∙ ap (λ b. cond (b && is_held (rows c)) vacant (rows c)) (past n c other)
]

-- a hold that was in the slot of the next circuit, withdrawn
module _ (s t u : State) (slots : List (Option Hold)) (n : ℕ) (h : Hold) (ok : Bool) (before : At s (hand slots)) (low : n < 32) (here : hand slots (suc n) ≡ Some h) (number : t.number ≡ s.number) (above : Above s.rows (suc n) t.rows) (done : Does t (event (withdraw h.board h.circuit) ok) u) where
  pub accepted : ok ≡ true
  accepted =
      let p = backed s (hand slots) (suc n) h before here in
      done.steps.allowed
      ∙ and_from _ _ (eq-eqb _ _ (p.0 ∙ sym number))
      (and_from _ _ (ap circuit_sound p.1 ∙ is_sound (suc n) (omega arith) (omega arith)) (ap (λ c. is_held (t.rows c)) p.1 ∙ ap is_held (untouched s.rows t.rows n above) ∙ p.2))

  pub made : Does t (event (withdraw s.number (suc n)) true) u
  made =
      let p = backed s (hand slots) (suc n) h before here in
      retold withdraw t u s.number (suc n) h ok true p.0 p.1 accepted done

  pub number_after : u.number ≡ s.number
  number_after = ap (λ x. x.number) made.steps.leaves ∙ number

  pub above_after : Above s.rows n u.rows
  above_after =
      let p = backed s (hand slots) (suc n) h before here in
      held_next s.rows t.rows u.rows n p.2 (λ c. ap (λ x. x.rows c) made.steps.leaves) above

  pub done_after :
      DoesAll s (withdrawals s.number (filter (λ c. is_held (s.rows c)) (drop (suc n) circuits))) t
      → DoesAll s (withdrawals s.number (filter (λ c. is_held (s.rows c)) (drop n circuits))) u
  done_after so_far =
      let p = backed s (hand slots) (suc n) h before here in
      let all : DoesAll s (withdrawals s.number (suc n ∷ filter (λ c. is_held (s.rows c)) (drop (suc n) circuits))) u = (t, so_far, made) in
      subst (λ cs. DoesAll s (withdrawals s.number cs) u) (sym (passed (λ c. is_held (s.rows c)) n low p.2)) all
