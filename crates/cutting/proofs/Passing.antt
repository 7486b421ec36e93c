-- The search for a cutting link along a table, and labels read from tables.
use Rattle.std.proofs.Common.{◌≡◌, ℕ, ◌-◌, ◌<◌, ◌≤◌, Bool, true, false, cond, not, eqb, List, [], ◌∷◌, length, get_or, take, Some, None, Option, sym, refl, ap, ◌∙◌, subst, inl, inr, arith, length-take, length-take-le}
use Rattle.std.proofs.lemmas.List.{get_or_default}
use Rattle.std.proofs.lemmas.Bool.{both_ways, cases_lt, cases_Bool, cond-true, cond-false, ne_eqb}
use Rattle.costs.specs.Costs.{Ops}
use Rattle.least_pairs.specs.Views.{View, without}
use Rattle.least_pairs.specs.Runs.{Label, has}
use Rattle.least_pairs.specs.Plans.{first_run, first_cut, labelled}
use Rattle.std.specs.Option.{unwrap_or}
use Rattle.least_pairs.proofs.Listed.{has_cases}
use Rattle.cutting.specs.Cuts.{found_cut}
use Rattle.runs.specs.Tables.{held, Holds}

-- a site has a label where its entry is a link
pub labelled_entry : {C : Type 0} (k : Ops C) (costs : List C) (links turns : List ℕ) (w : ℕ) (o : Option (Label C)) → w < length links → held k costs links turns w ≡ o → not (eqb (get_or links w 0) 65535) ≡ labelled o
labelled_entry k costs links turns w o lt is =
    ap (λ e. not (eqb e 65535)) (get_or_default links w 0 65535 lt)
    ∙ sym (told (eqb (get_or links w 65535) 65535) (record { cost = get_or costs w k.zero; link = get_or links w 65535; turn = get_or turns w 65535 }))
    ∙ ap labelled is
  where
    told : {C : Type 0} (b : Bool) (l : Label C) → labelled (cond b None (Some l)) ≡ not b
    told true l = refl
    told false l = refl

-- where the labels have one, the tables have it
pub held_label : {C : Type 0} (k : Ops C) (costs : List C) (links turns : List ℕ) (w : ℕ) (o : Option (Label C)) → held k costs links turns w ≡ o → labelled o ≡ true → o ≡ Some (record { cost = get_or costs w k.zero; link = get_or links w 65535; turn = get_or turns w 65535 })
held_label k costs links turns w o is h =
    sym is ∙ some (eqb (get_or links w 65535) 65535) (record { cost = get_or costs w k.zero; link = get_or links w 65535; turn = get_or turns w 65535 }) (ap labelled is ∙ h)
  where
    some : {C : Type 0} (b : Bool) (l : Label C) → labelled (cond b None (Some l)) ≡ true → cond b None (Some l) ≡ Some l
    some true l e = absurd (both_ways false refl e)
    some false l e = refl

-- what an entry says of the label of a site: none where it stands for none, and else the label that the tables hold
pub record ReadAt {C : Type 0} (k : Ops C) (costs : List C) (links turns : List ℕ) (w : ℕ) (o : Option (Label C)) : Type 0 where
  pub none : get_or links w 0 ≡ 65535 → labelled o ≡ false
  pub some : (get_or links w 0 ≡ 65535 → ⊥) → labelled o ≡ true
  pub label : (get_or links w 0 ≡ 65535 → ⊥) → o ≡ Some (record { cost = get_or costs w k.zero; link = get_or links w 65535; turn = get_or turns w 65535 })

pub read_at : {C : Type 0} (k : Ops C) (n : ℕ) (costs : List C) (links turns : List ℕ) (labels : ℕ → Option (Label C)) → n ≤ length links → Holds k n costs links turns labels → (w : ℕ) → w < n → ReadAt k costs links turns w (labels w)
read_at k n costs links turns labels long holds w lt =
    let told = labelled_entry k costs links turns w (labels w) (omega (arith, lt, long)) (holds w lt) in
    let has : (get_or links w 0 ≡ 65535 → ⊥) → labelled (labels w) ≡ true = λ d. sym told ∙ ap not (ne_eqb (get_or links w 0) 65535 d) in
    record {
      none = λ e. sym told ∙ ap (λ m. not (eqb m 65535)) e;
      some = has;
      label = λ d. held_label k costs links turns w (labels w) (holds w lt) (has d);
    }

-- where fewer entries are taken than a table has, that many are
pub taken_low : (r n : ℕ) (route es : List ℕ) → take r route ≡ es → length es < n → n ≤ length route → r < n
taken_low r n route es is few long =
    elim (cases_lt r (length route)) [
      | inl lt ↦ omega (arith, few, ap length is, length-take-le r route (omega (arith, lt)))
      | inr ge ↦ absurd (over ge)
    ]
  where
    over : length route ≤ r → ⊥
    over ge = omega (arith, few, long, ge, ap length is, length-take r route)

-- the cut that is found among all the links that were written
pub cut_of_all : {C : Type 0} (k : Ops C) (v : View C) (root target count : ℕ) (route es : List ℕ) → take count route ≡ es → found_cut k v root target (take (count - 0) route) ≡ found_cut k v root target es
cut_of_all k v root target count route es is = let all : count - 0 ≡ count = omega arith in ap (λ m. found_cut k v root target (take m route)) all ∙ ap (found_cut k v root target) is

module _ {C : Type 0} (k : Ops C) (v : View C) (root target : ℕ) where
  -- with zero for none it is the first cut
  cut_or_zero : (es : List ℕ) → unwrap_or (found_cut k v root target es) 0 ≡ first_cut k v root target es
  cut_or_zero [] = refl
  cut_or_zero (e ∷ es) =
      elim (labelled ((first_run k (without e v) root).labels target)) as (λ b. unwrap_or (cond b (found_cut k v root target es) (Some e)) 0 ≡ cond b (first_cut k v root target es) e) [
        | true ↦ cut_or_zero es
        | false ↦ refl
      ]

  pub cut_link : (o : Option ℕ) (es : List ℕ) → o ≡ found_cut k v root target es → unwrap_or o 0 ≡ first_cut k v root target es
  cut_link o es is = ap (λ x. unwrap_or x 0) is ∙ cut_or_zero es

  -- where one of the links cuts the target off, the first that does is found
  pub cut_stands : (e : ℕ) → labelled ((first_run k (without e v) root).labels target) ≡ false → (es : List ℕ) → has e es ≡ true → found_cut k v root target es ≡ Some (first_cut k v root target es)
  cut_stands e cuts [] h = absurd (both_ways false refl h)
  cut_stands e cuts (x ∷ es) h =
      let reached = labelled ((first_run k (without x v) root).labels target) in
      elim (cases_Bool reached) [
        | inl t ↦
            let later : has e es ≡ true = elim (has_cases e x es h) [
              | inl q ↦ absurd (both_ways reached (subst (λ l. labelled ((first_run k (without l v) root).labels target) ≡ false) q cuts) t)
              | inr q ↦ q
            ] in
            cond-true reached (found_cut k v root target es) (Some x) t ∙ cut_stands e cuts es later ∙ ap Some (sym (cond-true reached (first_cut k v root target es) x t))
        | inr f ↦ cond-false reached (found_cut k v root target es) (Some x) f ∙ ap Some (sym (cond-false reached (first_cut k v root target es) x f))
      ]
