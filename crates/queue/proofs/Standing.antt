-- What stands among the first entries, and what an exchange of two leaves.
use Rattle.std.proofs.Common.{◌≡◌, ℕ, zero, suc, ◌<◌, cond, eqb, ◌⊎◌, Some, None, sym, refl, ap, ◌∙◌, subst, inl, inr, arith}
use Rattle.std.proofs.lemmas.Bool.{eq-eqb, ne_eqb, cond-true, cond-false, cases_eq}
use Rattle.std.proofs.lemmas.List.Edits.{Swapped}
use Rattle.queue.specs.Entries.{among, Once, Rearranged}
use Rattle.queue.specs.declared.entries.Entry.{Entry}

-- fewer places hold each site once too
pub once_fewer : {C : Type 0} (f : ℕ → Entry C) (n : ℕ) → Once f (suc n) → Once f n
once_fewer f n o i j hi hj e = o i j (omega arith) (omega arith) e

-- where a site stands at a place, it is held at the cost there
pub found : {C : Type 0} (f : ℕ → Entry C) (n s i : ℕ) → Once f n → i < n → (f i).site ≡ s → among f n s ≡ Some (f i).cost
found f zero s i o h e = absurd (omega arith)
found f (suc n) s i o h e =
    elim (cases_eq n i) [
      | inl same ↦
          cond-true (eqb (f n).site s) (Some (f n).cost) (among f n s) (eq-eqb (f n).site s (ap (λ j. (f j).site) same ∙ e))
          ∙ ap (λ j. Some (f j).cost) same
      | inr other ↦
          cond-false (eqb (f n).site s) (Some (f n).cost) (among f n s)
          (ne_eqb (f n).site s (λ t. other (o n i (omega arith) h (t ∙ sym e))))
          ∙ found f n s i (once_fewer f n o) (omega arith) e
    ]

-- where a site stands at no place, it is not held
pub absent : {C : Type 0} (f : ℕ → Entry C) (n s : ℕ) → ((i : ℕ) → i < n → (f i).site ≡ s → ⊥) → among f n s ≡ None
absent f zero s away = refl
absent f (suc n) s away =
    cond-false (eqb (f n).site s) (Some (f n).cost) (among f n s) (ne_eqb (f n).site s (away n (omega arith)))
    ∙ absent f n s (λ i h. away i (omega arith))

-- a site stands at some place or at none
pub stands : {C : Type 0} (f : ℕ → Entry C) (n s : ℕ) → ((i : ℕ) × (i < n) × ((f i).site ≡ s)) ⊎ ((i : ℕ) → i < n → (f i).site ≡ s → ⊥)
stands f zero s = inr (λ i h e. omega arith)
stands f (suc n) s =
    elim (cases_eq (f n).site s) [
      | inl here ↦ inl (n, omega arith, here)
      | inr not_here ↦ elim (stands f n s) [
        | inl p ↦ inl (p.0, omega (arith, p.1), p.2)
        | inr away ↦ inr (λ i h e. elim (cases_eq i n) [
          | inl same ↦ not_here (ap (λ j. (f j).site) (sym same) ∙ e)
          | inr other ↦ away i (omega arith) e
        ])
      ]
    ]

-- a site that is held stands at a place, at its cost
pub placed : {C : Type 0} (f : ℕ → Entry C) (n s : ℕ) (c : C) → Once f n → among f n s ≡ Some c → (i : ℕ) × (i < n) × ((f i).site ≡ s) × ((f i).cost ≡ c)
placed f n s c o h =
    elim (stands f n s) [
      | inl p ↦ (p.0, p.1, p.2, (let e = found f n s p.0 o p.1 p.2 in cc))
      | inr away ↦ absurd (let e = absent f n s away in let z : ◌≡◌ {A = ℕ} 0 1 = cc in omega arith)
    ]

-- entries that are matched by a map that undoes itself are the same entries
pub rearranged_by : {C : Type 0} (f g : ℕ → Entry C) (n : ℕ) (to : ℕ → ℕ)
    → ((i : ℕ) → i < n → to i < n) → ((i : ℕ) → to (to i) ≡ i) → ((i : ℕ) → g i ≡ f (to i)) → Once f n → Rearranged f g n
rearranged_by f g n to within undone moved o =
    let once_g : Once g n = λ i j hi hj e.
    let t : to i ≡ to j = o (to i) (to j) (within i hi) (within j hj) (ap (λ x. x.site) (sym (moved i)) ∙ e ∙ ap (λ x. x.site) (moved j)) in
    sym (undone i) ∙ ap to t ∙ undone j in
    record {
      once = once_g;
      same = λ s. elim (stands f n s) [
        | inl p ↦
            let back : g (to p.0) ≡ f p.0 = moved (to p.0) ∙ ap f (undone p.0) in
            found g n s (to p.0) once_g (within p.0 p.1) (ap (λ x. x.site) back ∙ p.2)
            ∙ ap (λ x. Some x.cost) back
            ∙ sym (found f n s p.0 o p.1 p.2)
        | inr away ↦
            absent g n s (λ i h e. away (to i) (within i h) (ap (λ x. x.site) (sym (moved i)) ∙ e))
            ∙ sym (absent f n s away)
      ];
    }

-- the place that an exchange of two puts in the place of another
exchange : ℕ → ℕ → ℕ → ℕ
exchange a b i = cond (eqb i a) b (cond (eqb i b) a i)

exchange_first : (a b i : ℕ) → i ≡ a → exchange a b i ≡ b
unfolding exchange
exchange_first a b i e = cond-true (eqb i a) b (cond (eqb i b) a i) (eq-eqb i a e)

exchange_second : (a b i : ℕ) → i ≡ b → exchange a b i ≡ a
unfolding exchange
exchange_second a b i e =
    elim (cases_eq i a) [
      | inl same ↦ cond-true (eqb i a) b (cond (eqb i b) a i) (eq-eqb i a same) ∙ sym e ∙ same
      | inr other ↦ cond-false (eqb i a) b (cond (eqb i b) a i) (ne_eqb i a other) ∙ cond-true (eqb i b) a i (eq-eqb i b e)
    ]

exchange_other : (a b i : ℕ) → (i ≡ a → ⊥) → (i ≡ b → ⊥) → exchange a b i ≡ i
unfolding exchange
exchange_other a b i p q = cond-false (eqb i a) b (cond (eqb i b) a i) (ne_eqb i a p) ∙ cond-false (eqb i b) a i (ne_eqb i b q)

-- a place is the first, the second or another
which : (a b i : ℕ) → (i ≡ a) ⊎ ((i ≡ b) ⊎ ((i ≡ a → ⊥) × (i ≡ b → ⊥)))
which a b i = elim (cases_eq i a) [ inl e ↦ inl e | inr p ↦ elim (cases_eq i b) [ inl e ↦ inr (inl e) | inr q ↦ inr (inr (p, q)) ] ]

-- an exchange of two of the first entries leaves the same entries
pub rearranged_swap : {C : Type 0} (f g : ℕ → Entry C) (n a b : ℕ) → a < n → b < n → Swapped f g a b → Once f n → Rearranged f g n
rearranged_swap f g n a b ha hb sw o =
    rearranged_by f g n (exchange a b)
    (λ i h. elim (which a b i) [
      | inl e ↦ subst (λ j. j < n) (sym (exchange_first a b i e)) hb
      | inr r ↦ elim r [
        | inl e ↦ subst (λ j. j < n) (sym (exchange_second a b i e)) ha
        | inr d ↦ subst (λ j. j < n) (sym (exchange_other a b i d.0 d.1)) h
      ]
    ])
    (λ i. elim (which a b i) [
      | inl e ↦ ap (exchange a b) (exchange_first a b i e) ∙ exchange_second a b b refl ∙ sym e
      | inr r ↦ elim r [
        | inl e ↦ ap (exchange a b) (exchange_second a b i e) ∙ exchange_first a b a refl ∙ sym e
        | inr d ↦ ap (exchange a b) (exchange_other a b i d.0 d.1) ∙ exchange_other a b i d.0 d.1
      ]
    ])
    (λ i. elim (which a b i) [
      | inl e ↦ ap g e ∙ sw.0 ∙ ap f (sym (exchange_first a b i e))
      | inr r ↦ elim r [
        | inl e ↦ ap g e ∙ sw.1 ∙ ap f (sym (exchange_second a b i e))
        | inr d ↦ sw.2 i d.0 d.1 ∙ ap f (sym (exchange_other a b i d.0 d.1))
      ]
    ]) o

-- one rearrangement after another
pub rearranged_trans : {C : Type 0} (f g h : ℕ → Entry C) (n : ℕ) → Rearranged f g n → Rearranged g h n → Rearranged f h n
rearranged_trans f g h n p q = record { once = q.once; same = λ s. q.same s ∙ p.same s }
