-- Lemmas on heaps in which one entry is written, and on the first entry.
use Rattle.std.proofs.Common.{◌≡◌, ℕ, zero, suc, ◌<◌, false, cond, eqb, List, length, get_or, set, Some, None, Option, sym, refl, ap, ◌∙◌, subst, inl, inr, arith}
use Rattle.std.proofs.lemmas.Bool.{cases_eq, cond-true, cond-false, eq-eqb, ne_eqb}
use Rattle.std.proofs.lemmas.List.{get_or_read, get_or-set_same, get_or-set_other}
use Rattle.std.proofs.lemmas.List.Edits.{Swapped}
use Rattle.costs.specs.Costs.{Ops, Laws}
use Rattle.queue.specs.Entries.{entry_at, before, among, Once, PlaceOf, Rearranged}
use Rattle.queue.specs.Heaps.{above, Heap, HeapAbove, HeapBelow, IsHeap, Sifted, Changed, First}
use Rattle.queue.specs.declared.entries.Entry.{Entry}
use Rattle.queue.proofs.Precedence.{at_most_trans, before_self}
use Rattle.queue.proofs.Rising.{moved}
use Rattle.queue.proofs.Standing.{found, absent, stands, placed, once_fewer, rearranged_swap}

-- an entry is written at a place, and all others stay
abbrev pub Written : {C : Type 0} → (ℕ → Entry C) → (ℕ → Entry C) → ℕ → Entry C → Type 0
Written f g at x = (g at ≡ x) × ((i : ℕ) → (i ≡ at → ⊥) → g i ≡ f i)

-- a write to a table
pub written_set : {C : Type 0} (k : Ops C) (xs : List (Entry C)) (at : ℕ) (x : Entry C) → at < length xs → Written (entry_at k xs) (entry_at k (set xs at x)) at x
written_set k xs at x h = (get_or-set_same xs at x (record { cost = k.zero; site = 0 }) h, λ i other. get_or-set_other xs at i x (record { cost = k.zero; site = 0 }) other)

-- what is held where another cost is written for the site at a place
module _ {C : Type 0} (f g : ℕ → Entry C) (n at : ℕ) (x : Entry C) (high : at < n) (same_site : x.site ≡ (f at).site) (w : Written f g at x) (o : Once f n) where
  -- each site stands where it stood
  site_stays : (i : ℕ) → (g i).site ≡ (f i).site
  site_stays i = elim (cases_eq i at) [
    | inl e ↦ ap (λ j. (g j).site) e ∙ ap (λ y. y.site) w.0 ∙ same_site ∙ ap (λ j. (f j).site) (sym e)
    | inr other ↦ ap (λ y. y.site) (w.1 i other)
  ]

  pub change_once : Once g n
  change_once i j hi hj e = o i j hi hj (sym (site_stays i) ∙ e ∙ site_stays j)

  pub change_held : (s : ℕ) → among g n s ≡ cond (eqb s (f at).site) (Some x.cost) (among f n s)
  change_held s = elim (cases_eq s (f at).site) [
    | inl e ↦
        found g n s at change_once high (site_stays at ∙ sym e)
        ∙ ap (λ y. Some y.cost) w.0
        ∙ sym (cond-true (eqb s (f at).site) (Some x.cost) (among f n s) (eq-eqb s (f at).site e))
    | inr other ↦
        elim (stands f n s) as (λ _. among g n s ≡ among f n s) [
          | inl p ↦
              let far : p.0 ≡ at → ⊥ = λ e. other (sym p.2 ∙ ap (λ j. (f j).site) e) in
              found g n s p.0 change_once p.1 (site_stays p.0 ∙ p.2)
              ∙ ap (λ y. Some y.cost) (w.1 p.0 far)
              ∙ sym (found f n s p.0 o p.1 p.2)
          | inr away ↦ absent g n s (λ i h e. away i h (sym (site_stays i) ∙ e)) ∙ sym (absent f n s away)
        ]
        ∙ sym (cond-false (eqb s (f at).site) (Some x.cost) (among f n s) (ne_eqb s (f at).site other))
  ]

-- what is held where an entry of a new site is written after the others
module _ {C : Type 0} (f g : ℕ → Entry C) (n : ℕ) (x : Entry C) (w : Written f g n x) (o : Once f n) (away : PlaceOf f n x.site None) where
  -- the first entries stay
  first_stay : (i : ℕ) → i < n → g i ≡ f i
  first_stay i h = w.1 i (λ e. omega arith)

  pub add_once : Once g (suc n)
  add_once i j hi hj e = elim (cases_eq i n) [
    | inl ei ↦ elim (cases_eq j n) [
      | inl ej ↦ ei ∙ sym ej
      | inr oj ↦ absurd (away j (omega arith) (ap (λ y. y.site) (sym (w.1 j oj)) ∙ sym e ∙ ap (λ m. (g m).site) ei ∙ ap (λ y. y.site) w.0))
    ]
    | inr oi ↦ elim (cases_eq j n) [
      | inl ej ↦ absurd (away i (omega arith) (ap (λ y. y.site) (sym (w.1 i oi)) ∙ e ∙ ap (λ m. (g m).site) ej ∙ ap (λ y. y.site) w.0))
      | inr oj ↦ o i j (omega arith) (omega arith) (ap (λ y. y.site) (sym (w.1 i oi)) ∙ e ∙ ap (λ y. y.site) (w.1 j oj))
    ]
  ]

  pub add_held : (s : ℕ) → among g (suc n) s ≡ cond (eqb s x.site) (Some x.cost) (among f n s)
  add_held s = elim (cases_eq s x.site) [
    | inl e ↦
        found g (suc n) s n add_once (omega arith) (ap (λ y. y.site) w.0 ∙ sym e)
        ∙ ap (λ y. Some y.cost) w.0
        ∙ sym (cond-true (eqb s x.site) (Some x.cost) (among f n s) (eq-eqb s x.site e))
    | inr other ↦
        elim (stands f n s) as (λ _. among g (suc n) s ≡ among f n s) [
          | inl p ↦
              found g (suc n) s p.0 add_once (omega (arith, p.1)) (ap (λ y. y.site) (first_stay p.0 p.1) ∙ p.2)
              ∙ ap (λ y. Some y.cost) (first_stay p.0 p.1)
              ∙ sym (found f n s p.0 o p.1 p.2)
          | inr none ↦
              absent g (suc n) s (λ i h e. elim (cases_eq i n) [
                | inl last ↦ other (sym e ∙ ap (λ m. (g m).site) last ∙ ap (λ y. y.site) w.0)
                | inr before_last ↦ none i (omega arith) (ap (λ y. y.site) (sym (w.1 i before_last)) ∙ e)
              ])
              ∙ sym (absent f n s none)
        ]
        ∙ sym (cond-false (eqb s x.site) (Some x.cost) (among f n s) (ne_eqb s x.site other))
  ]

  pub add_order : {k : Ops C} → Heap k f n → HeapAbove k g (suc n) n
  add_order {k} heap = record {
    others = λ i low high far. moved k (first_stay i (omega arith)) (first_stay (above i) (omega arith)) (heap i low (omega arith));
    across = λ i low high up pos. absurd (omega arith);
  }

module _ {C : Type 0} {k : Ops C} (laws : Laws k) where
  -- no entry of a heap comes before the first, by so many steps at most
  first_within : (f : ℕ → Entry C) (n steps i : ℕ) → Heap k f n → i < steps → i < n → before k (f i) (f 0) ≡ false
  first_within f n zero i heap near high = absurd (omega arith)
  first_within f n (suc steps) i heap near high =
      elim (cases_eq i 0) [
        | inl e ↦ moved k (ap f e) refl (before_self laws (f 0))
        | inr pos ↦ at_most_trans laws (f 0) (f (above i)) (f i) (first_within f n steps (above i) heap (omega arith) (omega arith)) (heap i (omega arith) high)
      ]

  -- the first entry of a heap is held, and none comes before it
  pub first_is : (xs : List (Entry C)) (x : Entry C) → 0 < length xs → IsHeap k xs → x ≡ get_or xs 0 x → First k xs x
  first_is xs x pos heap read =
      let f = entry_at k xs in
      let e : x ≡ f 0 = get_or_read xs 0 x pos read (record { cost = k.zero; site = 0 }) in
      record {
        held = found f (length xs) x.site 0 heap.once pos (ap (λ y. y.site) (sym e)) ∙ ap (λ y. Some y.cost) (sym e);
        least = λ w c h.
            let p = placed f (length xs) w c heap.once h in
            let there : before k (f p.0) (f 0) ≡ false = first_within f (length xs) (length xs) p.0 heap.order p.1 p.1 in
            let here : before k (f p.0) x ≡ false = moved k refl e there in
            subst (λ d. before k (record { cost = d; site = w }) x ≡ false) p.3 (subst (λ s. before k (record { cost = (f p.0).cost; site = s }) x ≡ false) p.2 here);
      }

  -- after the first and the last are exchanged only entries right below the first may come before it
  pub taken_order : (f g : ℕ → Entry C) (n m : ℕ) → m < n → Swapped f g 0 m → Heap k f n → HeapBelow k g m 0
  taken_order f g n m fewer sw heap = record {
    others = λ i low high not_up. moved k (sw.2 i (λ e. omega arith) (λ e. omega arith)) (sw.2 (above i) not_up (λ e. omega arith)) (heap i low (omega arith));
    across = λ i low high up pos. absurd (omega arith);
  }

-- what is held but for the last of the entries
pub held_but_last : {C : Type 0} (g : ℕ → Entry C) (m w : ℕ) → Once g (suc m) → among g m w ≡ cond (eqb w (g m).site) None (among g (suc m) w)
held_but_last g m w o = elim (cases_eq w (g m).site) [
  | inl e ↦
      absent g m w (λ i h t. let z : i ≡ m = o i m (omega arith) (omega arith) (t ∙ e) in omega arith)
      ∙ sym (cond-true (eqb w (g m).site) None (among g (suc m) w) (eq-eqb w (g m).site e))
  | inr other ↦
      sym (cond-false (eqb (g m).site w) (Some (g m).cost) (among g m w) (ne_eqb (g m).site w (λ e. other (sym e))))
      ∙ sym (cond-false (eqb w (g m).site) None (among g (suc m) w) (ne_eqb w (g m).site other))
]

-- what is held after the first and the last are exchanged and the last is left out
pub taken_held : {C : Type 0} (f g : ℕ → Entry C) (m w : ℕ) → Once f (suc m) → Swapped f g 0 m → among g m w ≡ cond (eqb w (f 0).site) None (among f (suc m) w)
taken_held f g m w o sw =
    let r : Rearranged f g (suc m) = rearranged_swap f g (suc m) 0 m (omega arith) (omega arith) sw o in
    held_but_last g m w r.once
    ∙ ap (λ y. cond (eqb w y.site) None (among g (suc m) w)) sw.1
    ∙ ap (λ y. cond (eqb w (f 0).site) None y) (r.same w)

-- each site still stands once then
pub taken_once : {C : Type 0} (f g : ℕ → Entry C) (m : ℕ) → Once f (suc m) → Swapped f g 0 m → Once g m
taken_once f g m o sw =
    let r : Rearranged f g (suc m) = rearranged_swap f g (suc m) 0 m (omega arith) (omega arith) sw o in once_fewer g m r.once

-- a change of what is held of a site, and then another order of the entries
pub changed_then : {C : Type 0} {k : Ops C} (xs ys zs : List (Entry C)) (s : ℕ) (v : Option C)
    → ((w : ℕ) → among (entry_at k ys) (length ys) w ≡ cond (eqb w s) v (among (entry_at k xs) (length xs) w)) → Sifted k ys zs → length zs ≡ length ys → Changed k xs s v zs
changed_then {k = k} xs ys zs s v held sifted same = record {
  heap = record { once = subst (Once (entry_at k zs)) (sym same) sifted.held.once; order = subst (Heap k (entry_at k zs)) (sym same) sifted.order };
  held = λ w. ap (λ m. among (entry_at k zs) m w) same ∙ sifted.held.same w ∙ held w;
}
