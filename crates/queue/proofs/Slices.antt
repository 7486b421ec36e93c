-- The first entries of a table, as a table of their own.
use Rattle.std.proofs.Common.{◌≡◌, ℕ, zero, suc, ◌<◌, ◌≤◌, cond, eqb, List, length, take, Some, sym, refl, ap, ◌∙◌, subst, arith}
use Rattle.std.proofs.lemmas.List.{get_or-take, length-take-le}
use Rattle.costs.specs.Costs.{Ops}
use Rattle.queue.specs.Entries.{entry_at, among, Once}
use Rattle.queue.specs.Heaps.{above, Heap, HeapBelow, IsHeap}
use Rattle.queue.specs.declared.entries.Entry.{Entry}
use Rattle.queue.proofs.Rising.{moved}

-- the same entries stand at the places below a number
abbrev pub Alike : {C : Type 0} → (ℕ → Entry C) → (ℕ → Entry C) → ℕ → Type 0
Alike f g n = (i : ℕ) → i < n → f i ≡ g i

-- the first entries stand where they stood
pub taken_alike : {C : Type 0} (k : Ops C) (xs : List (Entry C)) (n : ℕ) → Alike (entry_at k (take n xs)) (entry_at k xs) n
taken_alike k xs n i h = get_or-take n xs i (record { cost = k.zero; site = 0 }) h

pub alike_sym : {C : Type 0} (f g : ℕ → Entry C) (n : ℕ) → Alike f g n → Alike g f n
alike_sym f g n a i h = sym (a i h)

pub among_alike : {C : Type 0} (f g : ℕ → Entry C) (n s : ℕ) → Alike f g n → among f n s ≡ among g n s
among_alike f g zero s a = refl
among_alike f g (suc n) s a =
    ap (λ e. cond (eqb e.site s) (Some e.cost) (among f n s)) (a n (omega arith))
    ∙ ap (λ o. cond (eqb (g n).site s) (Some (g n).cost) o) (among_alike f g n s (λ i h. a i (omega arith)))

pub once_alike : {C : Type 0} (f g : ℕ → Entry C) (n : ℕ) → Alike f g n → Once g n → Once f n
once_alike f g n a o i j hi hj e = o i j hi hj (ap (λ x. x.site) (sym (a i hi)) ∙ e ∙ ap (λ x. x.site) (a j hj))

pub heap_alike : {C : Type 0} (k : Ops C) (f g : ℕ → Entry C) (n : ℕ) → Alike f g n → Heap k g n → Heap k f n
heap_alike k f g n a heap i low high = moved k (a i high) (a (above i) (omega arith)) (heap i low high)

pub heap_below_alike : {C : Type 0} (k : Ops C) (f g : ℕ → Entry C) (n at : ℕ) → Alike f g n → HeapBelow k g n at → HeapBelow k f n at
heap_below_alike k f g n at a heap = record {
  others = λ i low high not_up. moved k (a i high) (a (above i) (omega arith)) (heap.others i low high not_up);
  across = λ i low high up pos. moved k (a i high) (a (above at) (omega arith)) (heap.across i low high up pos);
}

-- what holds of the first entries of a table holds of them as a table of their own
module _ {C : Type 0} (k : Ops C) (xs : List (Entry C)) (n : ℕ) (fits : n ≤ length xs) where
  pub taken_length : length (take n xs) ≡ n
  taken_length = length-take-le n xs fits

  pub taken_once : Once (entry_at k xs) n → Once (entry_at k (take n xs)) (length (take n xs))
  taken_once o = subst (Once (entry_at k (take n xs))) (sym taken_length) (once_alike (entry_at k (take n xs)) (entry_at k xs) n (taken_alike k xs n) o)

  pub taken_below : (at : ℕ) → HeapBelow k (entry_at k xs) n at → HeapBelow k (entry_at k (take n xs)) (length (take n xs)) at
  taken_below at h = subst (λ m. HeapBelow k (entry_at k (take n xs)) m at) (sym taken_length) (heap_below_alike k (entry_at k (take n xs)) (entry_at k xs) n at (taken_alike k xs n) h)

  pub taken_among : (s : ℕ) → among (entry_at k (take n xs)) (length (take n xs)) s ≡ among (entry_at k xs) n s
  taken_among s = ap (λ m. among (entry_at k (take n xs)) m s) taken_length ∙ among_alike (entry_at k (take n xs)) (entry_at k xs) n s (taken_alike k xs n)

  -- and the other way round
  pub whole_once : IsHeap k (take n xs) → Once (entry_at k xs) n
  whole_once h =
      once_alike (entry_at k xs) (entry_at k (take n xs)) n (alike_sym (entry_at k (take n xs)) (entry_at k xs) n (taken_alike k xs n))
      (subst (Once (entry_at k (take n xs))) taken_length h.once)

  pub whole_order : IsHeap k (take n xs) → Heap k (entry_at k xs) n
  whole_order h =
      heap_alike k (entry_at k xs) (entry_at k (take n xs)) n (alike_sym (entry_at k (take n xs)) (entry_at k xs) n (taken_alike k xs n))
      (subst (Heap k (entry_at k (take n xs))) taken_length h.order)
