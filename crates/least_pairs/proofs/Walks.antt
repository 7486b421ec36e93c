-- Walks: walks in a row, what they reach, and sums along them.
use Rattle.std.proofs.Common.{◌≡◌, ℕ, ◌≤◌, true, false, ◌⊎◌, List, [], ◌∷◌, ◌++◌, sym, refl, ap, ◌∙◌, subst, inl, inr, arith}
use Rattle.std.specs.List.{AllByRecursion as All}
use Rattle.std.proofs.lemmas.Bool.{both_ways}
use Rattle.costs.specs.Costs.{Ops, Laws, Le, total}
use Rattle.costs.specs.Counting.{occurs}
use Rattle.costs.proofs.Order.{le_trans, le_same, plus_le}
use Rattle.costs.proofs.Totals.{total_least}
use Rattle.costs.proofs.Counted.{without, occurs_without, total_without}
use Rattle.costs.proofs.Quoted.{group, by_le, quoting}
use Rattle.least_pairs.specs.Views.{View}
use Rattle.least_pairs.specs.Routes.{Walk}
use Rattle.least_pairs.specs.Runs.{State, has}
use Rattle.least_pairs.specs.Plans.{first_job, cost_of, reduced}
use Rattle.least_pairs.specs.Laws.{RunLaws}
use Rattle.least_pairs.proofs.Sight.{SoundView}
use Rattle.least_pairs.proofs.Listed.{has_head, has_tail, has_cases, has_occurs, occurs_has}
use Rattle.least_pairs.proofs.Distances.{link_reaches}

-- what holds of all that are in a list holds of each
pub all_has : {P : ℕ → Type 0} (xs : List ℕ) → ((x : ℕ) → has x xs ≡ true → P x) → All P xs
all_has [] h = tt
all_has (x ∷ xs) h = (h x (has_head x xs), all_has xs (λ y t. h y (has_tail y x xs t)))

module _ {C : Type 0} (v : View C) where
  -- two walks in a row
  pub walk_append : (xs ys : List ℕ) (a b c : ℕ) → Walk v a xs b → Walk v b ys c → Walk v a (xs ++ ys) c
  walk_append [] ys a b c w u = subst (λ z. Walk v z ys c) (sym w) u
  walk_append (x ∷ xs) ys a b c w u = (w.0, w.1, walk_append xs ys (v.end x) b c w.2 u)

  -- a walk taken apart
  pub walk_parts : (xs ys : List ℕ) (a c : ℕ) → Walk v a (xs ++ ys) c → (b : ℕ) × Walk v a xs b × Walk v b ys c
  walk_parts [] ys a c w = (a, refl, w)
  walk_parts (x ∷ xs) ys a c w = let p = walk_parts xs ys (v.end x) c w.2 in (p.0, (w.0, w.1, p.1), p.2)

  -- the links of a walk are usable
  pub walk_usable : (xs : List ℕ) (a b : ℕ) → Walk v a xs b → (e : ℕ) → has e xs ≡ true → v.usable e ≡ true
  walk_usable [] a b w e h = absurd (both_ways false refl h)
  walk_usable (x ∷ xs) a b w e h =
      elim (has_cases e x xs h) [
        | inl q ↦ subst (λ z. v.usable z ≡ true) (sym q) w.0
        | inr t ↦ walk_usable xs (v.end x) b w.2 e t
      ]

module _ {C : Type 0} {k : Ops C} {v : View C} {root : ℕ} {first : State C} (laws : Laws k) (sound : SoundView k v) (run : RunLaws k (first_job v) root first) where
  -- the links of a walk from a reached site start at reached sites
  pub walk_starts : (xs : List ℕ) (a b : ℕ) → Walk v a xs b → has a first.order ≡ true → (e : ℕ) → has e xs ≡ true → has (v.start e) first.order ≡ true
  walk_starts [] a b w r e h = absurd (both_ways false refl h)
  walk_starts (x ∷ xs) a b w r e h =
      let here : has (v.start x) first.order ≡ true = subst (λ z. has z first.order ≡ true) (sym w.1) r in
      elim (has_cases e x xs h) [
        | inl q ↦ subst (λ z. has (v.start z) first.order ≡ true) (sym q) here
        | inr t ↦ walk_starts xs (v.end x) b w.2 (link_reaches laws sound run x w.0 here) e t
      ]

  -- a walk from a reached site ends at a reached site
  pub walk_reaches : (xs : List ℕ) (a b : ℕ) → Walk v a xs b → has a first.order ≡ true → has b first.order ≡ true
  walk_reaches [] a b w r = subst (λ z. has z first.order ≡ true) w r
  walk_reaches (x ∷ xs) a b w r = walk_reaches xs (v.end x) b w.2 (link_reaches laws sound run x w.0 (subst (λ z. has z first.order ≡ true) (sym w.1) r))

module _ {C : Type 0} {k : Ops C} (laws : Laws k) (v : View C) where
  -- the rise of a value over a link
  abbrev pub rise : (ℕ → C) → ℕ → C
  rise p e = k.plus (p (v.end e)) (k.negation (p (v.start e)))

  -- over a walk the rises add up to the rise from its first site to its last
  pub total_rise : (p : ℕ → C) (xs : List ℕ) (a b : ℕ) → Walk v a xs b → total k (rise p) xs ≡ k.plus (p b) (k.negation (p a))
  total_rise p [] a b w = sym (ap (λ z. k.plus (p b) (k.negation (p z))) w ∙ laws.plus_negation (p b))
  total_rise p (x ∷ xs) a b w =
      ap (k.plus (rise p x)) (total_rise p xs (v.end x) b w.2)
      ∙ ap (λ z. k.plus (k.plus (p (v.end x)) (k.negation (p z))) (k.plus (p b) (k.negation (p (v.end x))))) w.1
      ∙ group laws (p a ∷ p b ∷ p (v.end x) ∷ []) (search quoting depth 12) tt

  -- what a walk costs: the rise of the distances and the reduced costs
  pub total_reduced : (first : State C) (xs : List ℕ) (a b : ℕ) → Walk v a xs b → total k v.cost xs ≡ k.plus (k.plus (cost_of k (first.labels b)) (k.negation (cost_of k (first.labels a)))) (total k (reduced k v first) xs)
  total_reduced first [] a b w = grind (arith)
  total_reduced first (x ∷ xs) a b w =
      let rest = total k (reduced k v first) xs in
      let da = cost_of k (first.labels a) in
      let db = cost_of k (first.labels b) in
      let dx = cost_of k (first.labels (v.end x)) in
      ap (k.plus (v.cost x)) (total_reduced first xs (v.end x) b w.2)
      ∙ group laws (da ∷ db ∷ dx ∷ v.cost x ∷ rest ∷ []) (search quoting depth 12) tt
      ∙ ap (λ z. k.plus (k.plus db (k.negation da)) (k.plus (k.plus (k.plus (v.cost x) (cost_of k (first.labels z))) (k.negation dx)) rest)) (sym w.1)

  -- the total of f over a list without repeats is at most that of g, and that of f over a second list, if each of the first is in the second or has f at most g
  pub total_charged : (f g : ℕ → C) (xs ys : List ℕ) → ((e : ℕ) → occurs e xs ≤ 1) → ((e : ℕ) → has e xs ≡ true → (1 ≤ occurs e ys) ⊎ Le k (f e) (g e)) → ((e : ℕ) → has e xs ≡ true → Le k k.zero (g e)) → ((e : ℕ) → has e ys ≡ true → Le k k.zero (f e)) → Le k (total k f xs) (k.plus (total k g xs) (total k f ys))
  total_charged f g [] ys once each low high = le_plus_left' (total_least laws f ys (all_has ys high))
    where
      le_plus_left' : {c : C} → Le k k.zero c → Le k k.zero (k.plus k.zero c)
      le_plus_left' {c} h = subst (λ z. Le k k.zero z) (sym (laws.zero_plus c)) h
  total_charged f g (x ∷ xs) ys once each low high =
      let once' : (e : ℕ) → occurs e xs ≤ 1 = λ e. omega (arith, once e) in
      let low' : (e : ℕ) → has e xs ≡ true → Le k k.zero (g e) = λ e t. low e (has_tail e x xs t) in
      elim (each x (has_head x xs)) [
        | inl on ↦
            let ys' = without x ys in
            let each' : (e : ℕ) → has e xs ≡ true → (1 ≤ occurs e ys') ⊎ Le k (f e) (g e) =
            λ e t. elim (each e (has_tail e x xs t)) [
              | inl o ↦ inl (other ys once e t o on)
              | inr h ↦ inr h
            ] in
            let high' : (e : ℕ) → has e ys' ≡ true → Le k k.zero (f e) =
            λ e t. high e (occurs_has e ys (omega (arith, occurs_without e x ys on, has_occurs e ys' t))) in
            let ih = total_charged f g xs ys' once' each' low' high' in
            le_trans laws
            (by_le laws (f x ∷ g x ∷ total k f xs ∷ total k g xs ∷ total k f ys' ∷ []) (plus_le laws (low x (has_head x xs)) ih) (search quoting depth 12) tt)
            (le_same laws (ap (k.plus (k.plus (g x) (total k g xs))) (sym (total_without laws f x ys on))))
        | inr le ↦
            let each' : (e : ℕ) → has e xs ≡ true → (1 ≤ occurs e ys) ⊎ Le k (f e) (g e) = λ e t. each e (has_tail e x xs t) in
            le_trans laws (plus_le laws le (total_charged f g xs ys once' each' low' high)) (le_same laws (sym (laws.assoc (g x) (total k g xs) (total k f ys))))
      ]
    where
      other : (zs : List ℕ) → ((e : ℕ) → occurs e (x ∷ xs) ≤ 1) → (e : ℕ) → has e xs ≡ true → 1 ≤ occurs e zs → 1 ≤ occurs x zs → 1 ≤ occurs e (without x zs)
      other zs single e t o on = omega (arith, single e, has_occurs e xs t, occurs_without e x zs on)
