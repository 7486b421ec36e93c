-- How many sites are held, and that there is room for one more.
use Rattle.std.proofs.Common.{◌≡◌, ℕ, zero, suc, ◌+◌, ◌<◌, ◌≤◌, Bool, true, false, cond, eqb, is_some, Some, None, Option, sym, refl, ap, ◌∙◌, subst, inl, inr, arith}
use Rattle.std.proofs.lemmas.Bool.{cases_eq, cond-false, ne_eqb}
use Rattle.queue.specs.Entries.{among, Once, Below}
use Rattle.queue.specs.Queues.{number}
use Rattle.queue.specs.declared.entries.Entry.{Entry}
use Rattle.queue.proofs.Standing.{found, absent, placed, once_fewer}

-- what a number that passes a test or not adds
abbrev one : Bool → ℕ
one b = cond b 1 0

-- tests that agree pass equally many numbers
pub number_same : (p q : ℕ → Bool) (m : ℕ) → ((i : ℕ) → i < m → p i ≡ q i) → number p m ≡ number q m
number_same p q zero agree = refl
number_same p q (suc m) agree =
    ap (λ x. x + one (p m)) (number_same p q m (λ i h. agree i (omega arith)))
    ∙ ap (λ b. number q m + one b) (agree m (omega arith))

-- a test that passes one more number
pub number_more : (p q : ℕ → Bool) (m a : ℕ) → a < m → p a ≡ true → q a ≡ false → ((i : ℕ) → (i ≡ a → ⊥) → p i ≡ q i) → number p m ≡ suc (number q m)
number_more p q zero a h yes_p no_q agree = absurd (omega arith)
number_more p q (suc m) a h yes_p no_q agree =
    elim (cases_eq m a) [
      | inl e ↦
          let before_a : number p m ≡ number q m = number_same p q m (λ i low. agree i (λ t. omega arith)) in
          let here_p : one (p m) ≡ 1 = ap (λ b. one b) (ap p e ∙ yes_p) in
          let here_q : one (q m) ≡ 0 = ap (λ b. one b) (ap q e ∙ no_q) in
          omega arith
      | inr other ↦
          let below_m : number p m ≡ suc (number q m) = number_more p q m a (omega arith) yes_p no_q agree in
          let here : one (p m) ≡ one (q m) = ap (λ b. one b) (agree m other) in
          omega arith
    ]

-- no more numbers pass a test than there are
pub number_most : (p : ℕ → Bool) (m : ℕ) → number p m ≤ m
number_most p zero = omega arith
number_most p (suc m) =
    let ih = number_most p m in
    elim (p m) as (λ b. number p m + one b ≤ suc m) [ true ↦ omega arith | false ↦ omega arith ]

-- where one number does not pass, fewer do
pub number_fewer : (p : ℕ → Bool) (m a : ℕ) → a < m → p a ≡ false → number p m < m
number_fewer p zero a h fails = absurd (omega arith)
number_fewer p (suc m) a h fails =
    elim (cases_eq m a) [
      | inl e ↦
          let most = number_most p m in
          let here : one (p m) ≡ 0 = ap (λ b. one b) (ap p e ∙ fails) in
          omega arith
      | inr other ↦
          let ih : number p m < m = number_fewer p m a (omega arith) fails in
          elim (p m) as (λ b. number p m + one b < suc m) [ true ↦ omega arith | false ↦ omega arith ]
    ]

-- where nothing passes, none do
pub number_none : (p : ℕ → Bool) (m : ℕ) → ((i : ℕ) → p i ≡ false) → number p m ≡ 0
number_none p zero fails = refl
number_none p (suc m) fails =
    let ih : number p m ≡ 0 = number_none p m fails in
    let here : one (p m) ≡ 0 = ap (λ b. one b) (fails m) in
    omega arith

-- as many sites are held as there are entries, where each stands once and none is past the room
pub sized : {C : Type 0} (f : ℕ → Entry C) (n room : ℕ) → Once f n → Below f n room → number (λ s. is_some (among f n s)) room ≡ n
sized f zero room o past = number_none (λ s. is_some (among f zero s)) room (λ i. refl)
sized f (suc n) room o past =
    let a = (f n).site in
    let here : among f (suc n) a ≡ Some (f n).cost = found f (suc n) a n o (omega arith) refl in
    let low : a < room = past n (omega arith) in
    let away : among f n a ≡ None = absent f n a (λ i h e. let z : i ≡ n = o i n (omega arith) (omega arith) e in omega arith) in
    let rest : (s : ℕ) → (s ≡ a → ⊥) → among f (suc n) s ≡ among f n s =
    λ s other. cond-false (eqb a s) (Some (f n).cost) (among f n s) (ne_eqb a s (λ e. other (sym e))) in
    let past_n : Below f n room = λ i h. past i (omega arith) in
    number_more (λ s. is_some (among f (suc n) s)) (λ s. is_some (among f n s)) room a low (ap is_some here) (ap is_some away) (λ s other. ap is_some (rest s other))
    ∙ ap suc (sized f n room (once_fewer f n o) past_n)

-- where a site below the room is not held, there is room for one more entry
pub room_left : {C : Type 0} (f : ℕ → Entry C) (n room s : ℕ) → Once f n → Below f n room → s < room → among f n s ≡ None → n < room
room_left f n room s o past low none =
    let all = sized f n room o past in
    let few = number_fewer (λ w. is_some (among f n w)) room s low (ap is_some none) in
    omega arith

-- a change of what is held of a site below the room leaves all sites below it
pub below_changed : {C : Type 0} (f g : ℕ → Entry C) (n m s room : ℕ) (v : Option C) → s < room → Once f n → Once g m
    → ((w : ℕ) → among g m w ≡ cond (eqb w s) v (among f n w)) → Below f n room → Below g m room
below_changed f g n m s room v low o o' held below i h =
    elim (cases_eq (g i).site s) [
      | inl e ↦ omega arith
      | inr other ↦
          let was : among f n (g i).site ≡ Some (g i).cost =
          sym (held (g i).site ∙ cond-false (eqb (g i).site s) v (among f n (g i).site) (ne_eqb (g i).site s other)) ∙ found g m (g i).site i o' h refl in
          let p = placed f n (g i).site (g i).cost o was in
          subst (λ t. t < room) p.2 (below p.0 p.1)
    ]
