-- Lemmas on tables in which an entry is written, added in the last place or taken from the first.
use Rattle.std.proofs.Common.{◌≡◌, ℕ, suc, ◌-◌, ◌<◌, ◌≤◌, cond, eqb, List, ◌++◌, length, set, get_or, take, drop, Some, None, sym, ap, ◌∙◌, subst, arith, length-set}
use Rattle.std.proofs.lemmas.List.{get_or_read, take_at}
use Rattle.std.proofs.lemmas.List.Edits.{Swapped, swapped_from_swap}
use Rattle.std.specs.List.{swap}
use Rattle.costs.specs.Costs.{Ops, Laws}
use Rattle.queue.specs.Entries.{entry_at, among, Once, PlaceOf}
use Rattle.queue.specs.Heaps.{HeapAbove, HeapBelow, IsHeap, Sifted, Changed}
use Rattle.queue.specs.declared.entries.Entry.{Entry}
use Rattle.queue.proofs.Slices.{taken_length, taken_once, taken_below, taken_among, whole_once, whole_order}
use Rattle.queue.proofs.Writing.{Written, written_set, change_held, add_once, add_held, add_order, taken_order, taken_held, changed_then}
use Rattle.queue.proofs.Writing as writing

-- an entry gets another cost, and the entries are sifted
pub changed_cost : {C : Type 0} {k : Ops C} (xs zs : List (Entry C)) (at : ℕ) (old : Entry C) (c : C) → at < length xs → IsHeap k xs → old ≡ get_or xs at old
    → Sifted k (set xs at (record { cost = c; site = old.site })) zs → length zs ≡ length (set xs at (record { cost = c; site = old.site })) → Changed k xs (entry_at k xs at).site (Some c) zs
changed_cost {C = C} {k = k} xs zs at old c high heap read sifted same =
    let x : Entry C = record { cost = c; site = old.site } in
    let ys = set xs at x in
    let f = entry_at k xs in
    let was : old ≡ f at = get_or_read xs at old high read (record { cost = k.zero; site = 0 }) in
    let w : Written f (entry_at k ys) at x = written_set k xs at x high in
    changed_then xs ys zs (f at).site (Some c)
    (λ s. ap (λ m. among (entry_at k ys) m s) (length-set xs at x) ∙ change_held f (entry_at k ys) (length xs) at x high (ap (λ e. e.site) was) w heap.once s)
    sifted same

-- an entry of a new site is written in the last place, after a heap
module _ {C : Type 0} {k : Ops C} (xs : List (Entry C)) (x : Entry C) (some : 0 < length xs) (heap : IsHeap k (take (length xs - 1) xs)) (away : PlaceOf (entry_at k xs) (length xs - 1) x.site None) where
  grown : length (set xs (length xs - 1) x) ≡ suc (length xs - 1)
  grown = length-set xs (length xs - 1) x ∙ omega arith

  others : Once (entry_at k xs) (length xs - 1)
  others = whole_once k xs (length xs - 1) (omega arith) heap

  there : Written (entry_at k xs) (entry_at k (set xs (length xs - 1) x)) (length xs - 1) x
  there = written_set k xs (length xs - 1) x (omega arith)

  pub added_once : Once (entry_at k (set xs (length xs - 1) x)) (length (set xs (length xs - 1) x))
  added_once =
      subst (Once (entry_at k (set xs (length xs - 1) x))) (sym grown)
      (add_once (entry_at k xs) (entry_at k (set xs (length xs - 1) x)) (length xs - 1) x there others away)

  pub added_order : HeapAbove k (entry_at k (set xs (length xs - 1) x)) (length (set xs (length xs - 1) x)) (length xs - 1)
  added_order =
      subst (λ m. HeapAbove k (entry_at k (set xs (length xs - 1) x)) m (length xs - 1)) (sym grown)
      (add_order (entry_at k xs) (entry_at k (set xs (length xs - 1) x)) (length xs - 1) x there others away (whole_order k xs (length xs - 1) (omega arith) heap))

  pub added : (zs : List (Entry C)) → Sifted k (set xs (length xs - 1) x) zs → length zs ≡ length (set xs (length xs - 1) x) → Changed k (take (length xs - 1) xs) x.site (Some x.cost) zs
  added zs sifted same =
      changed_then (take (length xs - 1) xs) (set xs (length xs - 1) x) zs x.site (Some x.cost)
      (λ s. ap (λ m. among (entry_at k (set xs (length xs - 1) x)) m s) grown
      ∙ add_held (entry_at k xs) (entry_at k (set xs (length xs - 1) x)) (length xs - 1) x there others away s
      ∙ ap (cond (eqb s x.site) (Some x.cost)) (sym (taken_among k xs (length xs - 1) (omega arith) s)))
      sifted same

-- the first entry of a heap is exchanged with the last, which is left out then
module _ {C : Type 0} {k : Ops C} (laws : Laws k) (xs ys : List (Entry C)) (some : 0 < length xs) (heap : IsHeap k xs) (same : length ys ≡ length xs) (exchanged : ys ≡ swap xs 0 (length xs - 1)) where
  sw : Swapped (entry_at k xs) (entry_at k ys) 0 (length xs - 1)
  sw = swapped_from_swap xs ys 0 (length xs - 1) (record { cost = k.zero; site = 0 }) some (omega arith) exchanged

  one_more : length xs ≡ suc (length xs - 1)
  one_more = omega arith

  fits : length xs - 1 ≤ length ys
  fits = omega (arith, same)

  all_once : Once (entry_at k xs) (suc (length xs - 1))
  all_once = subst (Once (entry_at k xs)) one_more heap.once

  pub removed_once : Once (entry_at k (take (length xs - 1) ys)) (length (take (length xs - 1) ys))
  removed_once = taken_once k ys (length xs - 1) fits (writing.taken_once (entry_at k xs) (entry_at k ys) (length xs - 1) all_once sw)

  pub removed_order : HeapBelow k (entry_at k (take (length xs - 1) ys)) (length (take (length xs - 1) ys)) 0
  removed_order = taken_below k ys (length xs - 1) fits 0 (taken_order laws (entry_at k xs) (entry_at k ys) (length xs) (length xs - 1) (omega arith) sw heap.order)

  pub removed : (x : Entry C) (zs : List (Entry C)) → x ≡ get_or xs 0 x → Sifted k (take (length xs - 1) ys) zs → length zs ≡ length (take (length xs - 1) ys)
      → Changed k xs x.site None (take (length xs - 1) (zs ++ drop (length xs - 1) ys))
  removed x zs read sifted kept =
      let was = get_or_read xs 0 x some read (record { cost = k.zero; site = 0 }) in
      subst (Changed k xs x.site None) (sym (take_at zs (drop (length xs - 1) ys) (length xs - 1) (kept ∙ taken_length k ys (length xs - 1) fits)))
      (changed_then xs (take (length xs - 1) ys) zs x.site None
      (λ w. taken_among k ys (length xs - 1) fits w
      ∙ taken_held (entry_at k xs) (entry_at k ys) (length xs - 1) w all_once sw
      ∙ ap (λ e. cond (eqb w e.site) None (among (entry_at k xs) (suc (length xs - 1)) w)) (sym was)
      ∙ ap (λ m. cond (eqb w x.site) None (among (entry_at k xs) m w)) (sym one_more))
      sifted kept)
