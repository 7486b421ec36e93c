-- The ledger's rule after a change of one entry.
use Rattle.std.proofs.Common.{◌≡◌, ℕ, ◌+◌, ◌<◌, ◌≤◌, Bool, true, false, cond, ltb, Ok, Err, Result, inl, inr, refl, sym, ap, ◌∙◌, arith}
use Rattle.std.proofs.lemmas.Bool.{cases_Bool, cases_eq, both_ways, ltb-true, cond-true, cond-false}
use Rattle.certificates.specs.Limits.{circuit_sound}
use Rattle.ledger.specs.Rows.{Entry, vacant, held, confirmed, entries, entered, is_vacant, is_held, is_numbered, confirmed_entry, held_rows, hold_answer}
use Rattle.ledger.specs.declared.refusing.LedgerRefusal.{LedgerRefusal}
use Rattle.ledger.specs.declared.rows.Rows.{Rows}
use Rattle.ledger.proofs.Sums.{over_same, over_none, over_after, entered_here, entered_elsewhere}

refused : {why : LedgerRefusal} → ◌≡◌ {A = Result (Unit {0}) LedgerRefusal} (Err why) (Ok tt) → ⊥
refused e = cc

at_most_one : (b : Bool) → cond b 1 0 ≤ 1
at_most_one true = omega arith
at_most_one false = omega arith

-- where no row is held, few are
pub none_held : (rows : ℕ → Entry) → ((d : ℕ) → rows d ≡ vacant) → held_rows rows ≤ 8
none_held rows none = let e : held_rows rows ≡ 0 = over_none (λ d. cond (is_held (rows d)) 1 0) (λ d. ap (λ x. cond (is_held x) 1 0) (none d)) in omega arith

pub none_numbered : (rows : ℕ → Entry) → ((d : ℕ) → rows d ≡ vacant) → (d : ℕ) → is_numbered (rows d) d ≡ true
none_numbered rows none d = ap (λ x. is_numbered x d) (none d)

-- the entries after one of them was replaced
module _ (rows after : ℕ → Entry) (c : ℕ) (e : Entry) (told : (d : ℕ) → after d ≡ entered c e rows d) where
  -- fewer than eight held, and one more
  pub one_more : circuit_sound c ≡ true → held_rows rows < 8 → held_rows after ≤ 8
  one_more sound few =
      let changed : held_rows after + cond (is_held (rows c)) 1 0 ≡ held_rows rows + cond (is_held e) 1 0 = over_after (λ x. cond (is_held x) 1 0) rows after c e told sound in
      let most = at_most_one (is_held e) in
      omega arith

  -- no more are held
  pub no_more : is_held e ≡ false → held_rows rows ≤ 8 → held_rows after ≤ 8
  no_more free few = elim (cases_Bool (circuit_sound c)) [
    | inl sound ↦ let changed : held_rows after + cond (is_held (rows c)) 1 0 ≡ held_rows rows + cond (is_held e) 1 0 = over_after (λ x. cond (is_held x) 1 0) rows after c e told sound in
        let nothing : ◌≡◌ {A = ℕ} (cond (is_held e) 1 0) 0 = ap (λ b. cond b 1 0) free in
        omega arith
    | inr unsound ↦ let same : held_rows after ≡ held_rows rows = over_same (λ d. cond (is_held (after d)) 1 0) (λ d. cond (is_held (rows d)) 1 0) (λ d sound. ap (λ x. cond (is_held x) 1 0) (told d ∙ entered_elsewhere c e rows d (λ k. both_ways (circuit_sound d) (ap circuit_sound k ∙ unsound) sound))) in
        omega arith
  ]

  -- an entry of the right number keeps all so
  pub still_numbered : ((d : ℕ) → is_numbered (rows d) d ≡ true) → is_numbered e c ≡ true → (d : ℕ) → is_numbered (after d) d ≡ true
  still_numbered all one d = elim (cases_eq d c) [
    | inl k ↦ ap (λ x. is_numbered x d) (told d) ∙ (λ i. is_numbered (entered c e rows (k i)) (k i)) ∙ ap (λ x. is_numbered x c) (entered_here c e rows) ∙ one
    | inr other ↦ ap (λ x. is_numbered x d) (told d ∙ entered_elsewhere c e rows d other) ∙ all d
  ]

-- a confirmed entry is not held, and its number is the same
pub not_held : (x : Entry) → is_held (confirmed_entry x) ≡ false
not_held vacant = refl
not_held (held f) = refl
not_held (confirmed f) = refl

pub same_number : (x : Entry) (c : ℕ) → is_numbered (confirmed_entry x) c ≡ is_numbered x c
same_number vacant c = refl
same_number (held f) c = refl
same_number (confirmed f) c = refl

-- where a circuit can be held, it is a circuit and fewer than eight are held
pub can_hold : (rows : ℕ → Entry) (c : ℕ) → hold_answer rows c ≡ Ok tt → (circuit_sound c ≡ true) × (held_rows rows < 8)
can_hold rows c answer = elim (cases_Bool (circuit_sound c)) [
  | inr unsound ↦ absurd (refused (sym (cond-false (circuit_sound c) _ _ unsound) ∙ answer))
  | inl sound ↦ elim (cases_Bool (is_vacant (rows c))) [
    | inr taken ↦ absurd (refused (sym (cond-false _ _ _ taken) ∙ (sym (cond-true (circuit_sound c) _ _ sound) ∙ answer)))
    | inl free ↦ elim (cases_Bool (ltb (held_rows rows) 8)) [
      | inr many ↦ absurd (refused (sym (cond-false _ _ _ many) ∙ (sym (cond-true _ _ _ free) ∙ (sym (cond-true (circuit_sound c) _ _ sound) ∙ answer))))
      | inl few ↦ (sound, ltb-true _ _ few)
    ]
  ]
]

-- an entry that is not vacant is a circuit's
pub stands_sound : (rows : Rows) (c : ℕ) → is_vacant (entries rows c) ≡ false → circuit_sound c ≡ true
stands_sound rows c stands = elim (cases_Bool (circuit_sound c)) [
  | inl sound ↦ sound
  | inr unsound ↦ absurd (both_ways _ stands (ap is_vacant (cond-false (circuit_sound c) _ _ unsound)))
]
