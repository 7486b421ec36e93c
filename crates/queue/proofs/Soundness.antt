-- A queue stays sound, and holds what its calls say.
use Rattle.std.proofs.Common.{◌≡◌, ℕ, suc, ◌+◌, ◌<◌, ◌≤◌, Bool, true, false, List, ◌++◌, length, take, drop, length-append, arith, ◌-◌, cond, not, ◌&&◌, eqb, ltb, is_some, Some, None, Option, sym, refl, ap, ◌∙◌, subst, inl, inr, add-one}
use Rattle.std.proofs.lemmas.Bool.{cases_eq, cases_Bool, cond-true, cond-false, eq-eqb, ne_eqb, or_parts}
use Rattle.std.proofs.lemmas.List.{length-drop, length-take-le, take_at, take-take, take-append-le}
use Rattle.costs.specs.declared.kind.Cost.{Ghosts}
use Rattle.costs.specs.Costs.{Ops, Laws}
use Rattle.costs.proofs.Order.{lt_self}
use Rattle.queue.specs.Entries.{entry_at, among, Once, Below, PlaceOf}
use Rattle.queue.specs.Heaps.{Heap, Changed, First}
use Rattle.queue.specs.Queues.{held_in, room_of, size_of, number, Put, Took}
use Rattle.queue.specs.declared.entries.Entry.{Entry}
use Rattle.queue.specs.declared.queues.Queue.{Queue}
use Rattle.queue.proofs.Precedence.{at_most_cases}
use Rattle.queue.proofs.Standing.{absent, placed}
use Rattle.queue.proofs.Slices.{taken_alike, taken_among, whole_once, whole_order}
use Rattle.queue.proofs.Sizes.{number_same, number_more, sized, room_left, below_changed}

-- the number of entries in use is the size
pub size_is : {C : Type 0} {m : Ghosts C} (q : Queue C m) → size_of m.ops q ≡ q.len
size_is {m = m} q = sized (entry_at m.ops q.entries.now) q.len (room_of q) q.once q.below

-- what is held of one site is changed: of that many places as before, the first n are in use then
pub record After {C : Type 0} {m : Ghosts C} (q : Queue C m) (ys : List (Entry C)) (n s : ℕ) (v : Option C) : Type 0 where
  pub same : length ys ≡ room_of q
  pub fits : n ≤ length ys
  pub changed : Changed m.ops (take q.len q.entries.now) s v (take n ys)

-- a table of whose entries the first ones are replaced
replaced_length : {A : Type 0} (xs zs : List A) (n : ℕ) → n ≤ length xs → length zs ≡ n → length (zs ++ drop n xs) ≡ length xs
replaced_length xs zs n h e = length-append zs (drop n xs) ∙ omega (arith, length-drop n xs)

module _ {C : Type 0} {m : Ghosts C} (q : Queue C m) where
  -- the entries in use are changed in their places
  pub after_change : (zs : List (Entry C)) (at s : ℕ) (c : C) → length zs ≡ length (take q.len q.entries.now) → PlaceOf (entry_at m.ops q.entries.now) q.len s (Some at)
      → Changed m.ops (take q.len q.entries.now) (entry_at m.ops (take q.len q.entries.now) at).site (Some c) zs
      → After q (zs ++ drop q.len q.entries.now) q.len s (Some c)
  after_change zs at s c e place changed =
      let xs = q.entries.now in
      let len = e ∙ length-take-le q.len xs q.within in
      let same = replaced_length xs zs q.len q.within len in
      let here = ap (λ x. x.site) (taken_alike m.ops xs q.len at place.0) ∙ place.1 in
      record {
        same = same;
        fits = omega (arith, same, q.within);
        changed = subst (Changed m.ops (take q.len xs) s (Some c)) (sym (take_at zs (drop q.len xs) q.len len)) (subst (λ w. Changed m.ops (take q.len xs) w (Some c) zs) here changed);
      }

  -- where a site with room has no entry, there is a place after those in use
  pub place_left : (s : ℕ) → s < room_of q → PlaceOf (entry_at m.ops q.entries.now) q.len s None → q.len + 1 ≤ length q.entries.now
  place_left s low away =
      let left = room_left (entry_at m.ops q.entries.now) q.len (room_of q) s q.once q.below low (absent (entry_at m.ops q.entries.now) q.len s away) in omega (arith, left)

  -- an entry is written after those in use
  pub after_add : (zs : List (Entry C)) (s : ℕ) (c : C) → q.len + 1 ≤ length q.entries.now → length zs ≡ length (take (q.len + 1) q.entries.now)
      → Changed m.ops (take (length (take (q.len + 1) q.entries.now) - 1) (take (q.len + 1) q.entries.now)) s (Some c) zs
      → After q (zs ++ drop (q.len + 1) q.entries.now) (q.len + 1) s (Some c)
  after_add zs s c room e changed =
      let xs = q.entries.now in
      let n = q.len + 1 in
      let all = length-take-le n xs room in
      let len = e ∙ all in
      let same = replaced_length xs zs n room len in
      let last : length (take n xs) - 1 ≡ q.len = omega (arith, all) in
      let old : take (length (take n xs) - 1) (take n xs) ≡ take q.len xs = ap (λ i. take i (take n xs)) last ∙ take-take q.len n xs (omega arith) in
      record {
        same = same;
        fits = omega (arith, same, room);
        changed = subst (Changed m.ops (take q.len xs) s (Some c)) (sym (take_at zs (drop n xs) n len)) (subst (λ l. Changed m.ops l s (Some c) zs) old changed);
      }

  -- an entry is taken out, and the last place falls out of use
  pub after_first : (zs : List (Entry C)) (s : ℕ) → length zs ≡ length (take q.len q.entries.now)
      → Changed m.ops (take q.len q.entries.now) s None (take (length (take q.len q.entries.now) - 1) zs)
      → After q (zs ++ drop q.len q.entries.now) (q.len - 1) s None
  after_first zs s e changed =
      let xs = q.entries.now in
      let all = length-take-le q.len xs q.within in
      let len = e ∙ all in
      let same = replaced_length xs zs q.len q.within len in
      record {
        same = same;
        fits = omega (arith, same, q.within);
        changed =
            subst (Changed m.ops (take q.len xs) s None) (sym (take-append-le (q.len - 1) zs (drop q.len xs) (omega (arith, len))))
            (subst (λ i. Changed m.ops (take q.len xs) s None (take (i - 1) zs)) all changed);
      }

-- what the new entries in use keep
module _ {C : Type 0} {m : Ghosts C} {q : Queue C m} {ys : List (Entry C)} {n s : ℕ} {v : Option C} (after : After q ys n s v) where
  pub once_after : Once (entry_at m.ops ys) n
  once_after = whole_once m.ops ys n after.fits after.changed.heap

  pub order_after : Heap m.ops (entry_at m.ops ys) n
  order_after = whole_order m.ops ys n after.fits after.changed.heap

  pub held_after : (w : ℕ) → among (entry_at m.ops ys) n w ≡ cond (eqb w s) v (held_in m.ops q w)
  held_after w =
      sym (taken_among m.ops ys n after.fits w) ∙ after.changed.held w
      ∙ ap (cond (eqb w s) v) (taken_among m.ops q.entries.now q.len q.within w)

  pub below_after : s < room_of q → Below (entry_at m.ops ys) n (length ys)
  below_after low =
      subst (Below (entry_at m.ops ys) n) (sym after.same)
      (below_changed (entry_at m.ops q.entries.now) (entry_at m.ops ys) q.len n s (room_of q) v low q.once once_after held_after q.below)

-- the size after a site is put in
pub put_size : {C : Type 0} {m : Ghosts C} (k : Ops C) (q p : Queue C m) (s : ℕ) (c : C) → room_of p ≡ room_of q → s < room_of q
    → ((w : ℕ) → held_in k p w ≡ cond (eqb w s) (Some c) (held_in k q w)) → size_of k p ≡ cond (is_some (held_in k q s)) (size_of k q) (size_of k q + 1)
put_size k q p s c same low held =
    let tp : ℕ → Bool = λ w. is_some (held_in k p w) in
    let tq : ℕ → Bool = λ w. is_some (held_in k q w) in
    let here : tp s ≡ true = ap is_some (held s ∙ cond-true (eqb s s) (Some c) (held_in k q s) (eq-eqb s s refl)) in
    let rest : (w : ℕ) → (w ≡ s → ⊥) → tp w ≡ tq w = λ w other. ap is_some (held w ∙ cond-false (eqb w s) (Some c) (held_in k q w) (ne_eqb w s other)) in
    ap (number tp) same
    ∙ elim (cases_Bool (tq s)) [
      | inl was ↦
          number_same tp tq (room_of q) (λ w h. elim (cases_eq w s) [ inl e ↦ ap tp e ∙ here ∙ sym was ∙ ap tq (sym e) | inr other ↦ rest w other ])
          ∙ sym (cond-true (tq s) (number tq (room_of q)) (number tq (room_of q) + 1) was)
      | inr was ↦
          number_more tp tq (room_of q) s low here was rest
          ∙ sym (add-one (number tq (room_of q)))
          ∙ sym (cond-false (tq s) (number tq (room_of q)) (number tq (room_of q) + 1) was)
    ]

-- the size after a site is taken out
pub took_size : {C : Type 0} {m : Ghosts C} (k : Ops C) (q p : Queue C m) (s : ℕ) (c : C) → room_of p ≡ room_of q → s < room_of q → held_in k q s ≡ Some c
    → ((w : ℕ) → held_in k p w ≡ cond (eqb w s) None (held_in k q w)) → size_of k p + 1 ≡ size_of k q
took_size k q p s c same low was held =
    let tp : ℕ → Bool = λ w. is_some (held_in k p w) in
    let tq : ℕ → Bool = λ w. is_some (held_in k q w) in
    let here : tp s ≡ false = ap is_some (held s ∙ cond-true (eqb s s) None (held_in k q s) (eq-eqb s s refl)) in
    let rest : (w : ℕ) → (w ≡ s → ⊥) → tq w ≡ tp w = λ w other. ap is_some (sym (held w ∙ cond-false (eqb w s) None (held_in k q w) (ne_eqb w s other))) in
    let more : number tq (room_of q) ≡ suc (number tp (room_of q)) = number_more tq tp (room_of q) s low (ap is_some was) here rest in
    add-one (number tp (room_of p)) ∙ ap (λ m. suc (number tp m)) same ∙ sym more

-- a site that is held is below the room
pub held_low : {C : Type 0} {m : Ghosts C} (q : Queue C m) (s : ℕ) (c : C) → held_in m.ops q s ≡ Some c → s < room_of q
held_low {m = m} q s c held =
    let p = placed (entry_at m.ops q.entries.now) q.len s c q.once held in
    subst (λ t. t < room_of q) p.2 (q.below p.0 p.1)

-- a site is put in
pub put_is : {C : Type 0} {m : Ghosts C} (q p : Queue C m) (s : ℕ) (c : C) → s < room_of q → After q p.entries.now p.len s (Some c) → Put m.ops q s c p
put_is {m = m} q p s c low after = record {
  held = held_after after;
  size = put_size m.ops q p s c after.same low (held_after after);
  room = after.same;
}

-- the first of the entries in use, with room for its site
module _ {C : Type 0} {m : Ghosts C} (q : Queue C m) (x : Entry C) (first : First m.ops (take q.len q.entries.now) x) where
  pub first_held : held_in m.ops q x.site ≡ Some x.cost
  first_held = sym (taken_among m.ops q.entries.now q.len q.within x.site) ∙ first.held

  pub first_low : x.site < room_of q
  first_low = held_low q x.site x.cost first_held

  -- it is taken out
  pub took_is : Laws m.ops → (p : Queue C m) → After q p.entries.now p.len x.site None → Took m.ops q x p
  took_is laws p after =
      let k = m.ops in
      record {
        was = first_held;
        least = λ w c h.
            let behind = first.least w c (taken_among k q.entries.now q.len q.within w ∙ h) in (
              (or_parts (k.less c x.cost) (not (k.less x.cost c) && ltb w x.site) behind).0,
              λ e. elim (at_most_cases laws x (record { cost = c; site = w }) behind) [
                | inl less ↦ absurd (lt_self laws (subst (λ y. k.less x.cost y ≡ true) e less))
                | inr equal ↦ equal.1
              ],
            );
        held = held_after after;
        size = took_size k q p x.site x.cost after.same first_low first_held (held_after after);
        room = after.same;
      }
