-- Sums over the circuits.
use Rattle.std.proofs.Common.{◌≡◌, ℕ, zero, suc, ◌+◌, ◌≤◌, true, inl, inr, refl, ap, ◌∙◌, arith}
use Rattle.std.proofs.lemmas.Bool.{cases_eq, and_from, and_parts, le-leb, leb-true, eq-eqb, ne_eqb, cond-true, cond-false}
use Rattle.certificates.specs.Limits.{circuit_sound}
use Rattle.ledger.specs.Rows.{Entry, entered, summed, over_circuits}

-- what is equal for each of the circuits 1 to n has one sum
summed_same : (f g : ℕ → ℕ) (n : ℕ) → ((c : ℕ) → 1 ≤ c → c ≤ n → f c ≡ g c) → summed f n ≡ summed g n
unfolding summed
summed_same f g zero same = refl
summed_same f g (suc n) same = λ i. summed_same f g n (λ c low high. same c low (omega arith)) i + same (suc n) (omega arith) (omega arith) i

summed_plus : (f g : ℕ → ℕ) (n : ℕ) → summed (λ c. f c + g c) n ≡ summed f n + summed g n
unfolding summed
summed_plus f g zero = refl
summed_plus f g (suc n) = omega (arith, summed_plus f g n)

-- what differs for one circuit alone has sums that differ as it does there
summed_changed : (f g : ℕ → ℕ) (c n : ℕ) → 1 ≤ c → c ≤ n → ((d : ℕ) → (d ≡ c → ⊥) → f d ≡ g d) → summed f n + g c ≡ summed g n + f c
unfolding summed
summed_changed f g c zero low high same = absurd (omega arith)
summed_changed f g c (suc n) low high same = elim (cases_eq (suc n) c) [
  | inl e ↦ let below : summed f n ≡ summed g n = summed_same f g n (λ d from to. same d (λ k. absurd (omega arith))) in
      let here : f (suc n) ≡ f c = ap f e in
      let there : g (suc n) ≡ g c = ap g e in
      omega arith
  | inr other ↦ let below : summed f n + g c ≡ summed g n + f c = summed_changed f g c n low (omega arith) same in
      let here : f (suc n) ≡ g (suc n) = same (suc n) other in
      omega arith
]

-- circuits are numbered 1 to 32
pub is_sound : (c : ℕ) → 1 ≤ c → c ≤ 32 → circuit_sound c ≡ true
is_sound c low high = and_from _ _ (le-leb 1 c low) (le-leb c 32 high)

pub sound_is : (c : ℕ) → circuit_sound c ≡ true → (1 ≤ c) × (c ≤ 32)
sound_is c sound = let p = and_parts _ _ sound in (leb-true 1 c p.0, leb-true c 32 p.1)

-- what is equal for each circuit has one sum
pub over_same : (f g : ℕ → ℕ) → ((c : ℕ) → circuit_sound c ≡ true → f c ≡ g c) → over_circuits f ≡ over_circuits g
unfolding over_circuits
over_same f g same = summed_same f g 32 (λ c low high. same c (is_sound c low high))

-- the sum of sums
pub over_plus : (f g : ℕ → ℕ) → over_circuits (λ c. f c + g c) ≡ over_circuits f + over_circuits g
unfolding over_circuits
over_plus f g = summed_plus f g 32

summed_none : (n : ℕ) → summed (λ c. 0) n ≡ 0
unfolding summed
summed_none zero = refl
summed_none (suc n) = omega (arith, summed_none n)

-- nothing for each circuit is nothing in all
pub over_none : (f : ℕ → ℕ) → ((c : ℕ) → f c ≡ 0) → over_circuits f ≡ 0
unfolding over_circuits
over_none f none = summed_same f (λ c. 0) 32 (λ c low high. none c) ∙ summed_none 32

-- sums of what differs for one circuit alone
pub over_changed : (f g : ℕ → ℕ) (c : ℕ) → circuit_sound c ≡ true → ((d : ℕ) → (d ≡ c → ⊥) → f d ≡ g d) → over_circuits f + g c ≡ over_circuits g + f c
unfolding over_circuits
over_changed f g c sound same = let p = sound_is c sound in summed_changed f g c 32 p.0 p.1 same

-- a circuit's entry replaced is the new one there, and any other is as it was
pub entered_here : (c : ℕ) (e : Entry) (rows : ℕ → Entry) → entered c e rows c ≡ e
entered_here c e rows = cond-true _ _ _ (eq-eqb c c refl)

pub entered_elsewhere : (c : ℕ) (e : Entry) (rows : ℕ → Entry) (d : ℕ) → (d ≡ c → ⊥) → entered c e rows d ≡ rows d
entered_elsewhere c e rows d other = cond-false _ _ _ (ne_eqb d c other)

-- the sum over the entries, one of which was replaced
pub over_entered : (f : Entry → ℕ) (rows : ℕ → Entry) (c : ℕ) (e : Entry) → circuit_sound c ≡ true → over_circuits (λ d. f (entered c e rows d)) + f (rows c) ≡ over_circuits (λ d. f (rows d)) + f e
over_entered f rows c e sound =
    over_changed (λ d. f (entered c e rows d)) (λ d. f (rows d)) c sound (λ d other. ap f (entered_elsewhere c e rows d other))
    ∙ ap (λ x. over_circuits (λ d. f (rows d)) + f x) (entered_here c e rows)

-- the same, of entries that are told one by one
pub over_after : (f : Entry → ℕ) (rows after : ℕ → Entry) (c : ℕ) (e : Entry) → ((d : ℕ) → after d ≡ entered c e rows d) → circuit_sound c ≡ true → over_circuits (λ d. f (after d)) + f (rows c) ≡ over_circuits (λ d. f (rows d)) + f e
over_after f rows after c e told sound =
    ap (λ n. n + f (rows c)) (over_same (λ d. f (after d)) (λ d. f (entered c e rows d)) (λ d is. ap f (told d)))
    ∙ over_entered f rows c e sound
