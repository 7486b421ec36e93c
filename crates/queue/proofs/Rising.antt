-- Lemmas on entries that rise and sink.
use Rattle.std.proofs.Common.{◌≡◌, ℕ, ◌<◌, Bool, true, false, List, length, get_or, Some, sym, refl, ap, ◌∙◌, subst, inl, inr, arith}
use Rattle.std.proofs.lemmas.Bool.{cases_eq}
use Rattle.std.proofs.lemmas.List.Edits.{Swapped}
use Rattle.costs.specs.Costs.{Ops, Laws}
use Rattle.std.proofs.lemmas.List.{get_or_read}
use Rattle.queue.specs.Entries.{entry_at, before}
use Rattle.queue.specs.Heaps.{above, HeapAbove, HeapBelow, LeastBelow}
use Rattle.queue.specs.declared.entries.Entry.{Entry}
use Rattle.queue.proofs.Precedence.{at_most_trans, before_once}

-- a comparison at equal entries
pub moved : {C : Type 0} (k : Ops C) {x y v w : Entry C} → x ≡ v → y ≡ w → before k v w ≡ false → before k x y ≡ false
moved k {x} {y} {v} {w} e d h = subst (λ z. before k z y ≡ false) (sym e) (subst (λ z. before k v z ≡ false) (sym d) h)

module _ {C : Type 0} {k : Ops C} (laws : Laws k) where
  -- an entry that came before the one above it was exchanged with that
  pub rise_step : (f g : ℕ → Entry C) (n at : ℕ) → 0 < at → at < n → HeapAbove k f n at
      → before k (f at) (f (above at)) ≡ true → Swapped f g at (above at) → HeapAbove k g n (above at)
  rise_step f g n at pos h heap less sw = record {
    others = λ i low high other. elim (cases_eq i at) [
      | inl e ↦ moved k (ap g e ∙ sw.0) (ap (λ j. g (above j)) e ∙ sw.1) (before_once laws (f at) (f (above at)) less)
      | inr far ↦ elim (cases_eq (above i) at) [
        | inl up ↦ moved k (sw.2 i far other) (ap g up ∙ sw.0) (heap.across i low high up pos)
        | inr not_at ↦ elim (cases_eq (above i) (above at)) [
          | inl up ↦ moved k (sw.2 i far other) (ap g up ∙ sw.1)
              (at_most_trans laws (f at) (f (above at)) (f i) (before_once laws (f at) (f (above at)) less) (moved k refl (ap f (sym up)) (heap.others i low high far)))
          | inr not_up ↦ moved k (sw.2 i far other) (sw.2 (above i) not_at not_up) (heap.others i low high far)
        ]
      ]
    ];
    across = λ i low high up up_pos.
        let top : g (above (above at)) ≡ f (above (above at)) = sw.2 (above (above at)) (λ e. omega arith) (λ e. omega arith) in
        let over : before k (f (above at)) (f (above (above at))) ≡ false = heap.others (above at) up_pos (omega arith) (λ e. omega arith) in
        elim (cases_eq i at) [
          | inl e ↦ moved k (ap g e ∙ sw.0) top over
          | inr far ↦ moved k (sw.2 i far (λ e. omega arith)) top
              (at_most_trans laws (f (above (above at))) (f (above at)) (f i) over (moved k refl (ap f (sym up)) (heap.others i low high far)))
        ];
  }

  -- the least entry right below another came before it, and was exchanged with it
  pub sink_step : (f g : ℕ → Entry C) (n at to : ℕ) → HeapBelow k f n at → LeastBelow k f n at (Some to)
      → before k (f to) (f at) ≡ true → Swapped f g at to → HeapBelow k g n to
  sink_step f g n at to heap least less sw =
      let pos : 0 < to = least.0 in
      let high_to : to < n = least.1 in
      let up_to : above to ≡ at = least.2 in
      record {
        others = λ i low high other. elim (cases_eq i to) [
          | inl e ↦ moved k (ap g e ∙ sw.1) (ap (λ j. g (above j)) e ∙ ap g up_to ∙ sw.0) (before_once laws (f to) (f at) less)
          | inr far ↦ elim (cases_eq i at) [
            | inl e ↦ moved k (ap g e ∙ sw.0) (ap (λ j. g (above j)) e ∙ sw.2 (above at) (λ t. omega arith) (λ t. omega arith)) (heap.across to pos high_to up_to (omega arith))
            | inr away ↦ elim (cases_eq (above i) at) [
              | inl up ↦ moved k (sw.2 i away far) (ap g up ∙ sw.0) (least.3 i low high up)
              | inr not_up ↦ moved k (sw.2 i away far) (sw.2 (above i) not_up other) (heap.others i low high not_up)
            ]
          ]
        ];
        across = λ i low high up pos_to.
            moved k (sw.2 i (λ t. omega arith) (λ t. omega arith)) (ap g up_to ∙ sw.0)
            (moved k refl (ap f (sym up)) (heap.others i low high (λ t. omega arith)));
      }

-- what a comparison of two entries that were read says of their places
pub read_before : {C : Type 0} (k : Ops C) (xs : List (Entry C)) (i j : ℕ) (x y : Entry C) (b : Bool)
    → i < length xs → j < length xs → x ≡ get_or xs i x → y ≡ get_or xs j y → before k x y ≡ b → before k (entry_at k xs i) (entry_at k xs j) ≡ b
read_before k xs i j x y b hi hj ex ey h =
    subst (λ z. before k z (entry_at k xs j) ≡ b) (get_or_read xs i x hi ex (record { cost = k.zero; site = 0 }))
    (subst (λ z. before k x z ≡ b) (get_or_read xs j y hj ey (record { cost = k.zero; site = 0 })) h)
