-- Lists of links without cycles: how they are put together, and that walks in them visit no site twice.
use Rattle.std.proofs.Common.{◌≡◌, ℕ, suc, ◌<◌, ◌≤◌, Bool, true, false, ◌⊎◌, List, [], ◌∷◌, length, sym, refl, ap, ◌∙◌, subst, inl, inr, arith}
use Rattle.std.proofs.lemmas.Bool.{both_ways, cases_Bool, cases_eq, false_from_ne_true}
use Rattle.costs.specs.Costs.{Ops, Laws}
use Rattle.costs.specs.Counting.{occurs}
use Rattle.costs.proofs.Counted.{hit_self}
use Rattle.least_pairs.specs.Views.{View}
use Rattle.least_pairs.specs.Routes.{Walk, ends}
use Rattle.least_pairs.specs.Runs.{State, has}
use Rattle.least_pairs.specs.Trees.{parent}
use Rattle.least_pairs.specs.Plans.{up, first_job}
use Rattle.least_pairs.specs.Rightness.{Short}
use Rattle.least_pairs.specs.Laws.{RunLaws}
use Rattle.least_pairs.proofs.Sight.{SoundView}
use Rattle.least_pairs.proofs.Listed.{has_occurs, lacks_occurs, hit_most, hit_other}
use Rattle.least_pairs.proofs.Moments.{few}
use Rattle.least_pairs.proofs.Tree.{parent_reached, up_self, up_more, up_trans, up_parent_lacks}
use Rattle.least_pairs.proofs.Climbs.{tree_of}
use Rattle.least_pairs.proofs.Distances.{tree_link_of}

-- all links of one list are in another
abbrev pub PartOf : List ℕ → List ℕ → Type 0
PartOf es F = (e : ℕ) → 1 ≤ occurs e es → 1 ≤ occurs e F

-- no walk over links of a list comes back to where it began
abbrev pub Acyclic : {C : Type 0} → View C → List ℕ → Type 0
Acyclic v F = (w e : ℕ) (es : List ℕ) → Walk v w (e ∷ es) w → PartOf (e ∷ es) F → ⊥

part_head : (e : ℕ) (es F : List ℕ) → PartOf (e ∷ es) F → 1 ≤ occurs e F
part_head e es F p = p e (omega (arith, hit_self e))

part_tail : (e : ℕ) (es F : List ℕ) → PartOf (e ∷ es) F → PartOf es F
part_tail e es F p x h = p x (omega (arith, h))

-- a link of a list is its first or among the others
first_or : (x e : ℕ) (es : List ℕ) → 1 ≤ occurs x (e ∷ es) → (x ≡ e) ⊎ (1 ≤ occurs x es)
first_or x e es h =
    elim (cases_eq x e) [ inl s ↦ inl s | inr d ↦ inr (omega (arith, hit_other x e d)) ]

module _ {C : Type 0} (v : View C) (K : ℕ → Bool) (F : List ℕ) (keeps : (e : ℕ) → 1 ≤ occurs e F → K (v.start e) ≡ true → K (v.end e) ≡ true) where
  -- a walk that begins in a set that no link of the list leaves stays in it
  stays : (a b : ℕ) (es : List ℕ) → Walk v a es b → PartOf es F → K a ≡ true → K b ≡ true
  stays a b [] w p h = subst (λ z. K z ≡ true) w h
  stays a b (e ∷ es) w p h = stays (v.end e) b es w.2 (part_tail e es F p) (keeps e (part_head e es F p) (subst (λ z. K z ≡ true) (sym w.1) h))

  pub all_in : (a b : ℕ) (es : List ℕ) → Walk v a es b → PartOf es F → K a ≡ true → (x : ℕ) → 1 ≤ occurs x es → K (v.start x) ≡ true
  all_in a b [] w p h x i = absurd (omega arith)
  all_in a b (e ∷ es) w p h x i =
      let here : K (v.start e) ≡ true = subst (λ z. K z ≡ true) (sym w.1) h in
      elim (first_or x e es i) [
        | inl s ↦ subst (λ z. K (v.start z) ≡ true) (sym s) here
        | inr o ↦ all_in (v.end e) b es w.2 (part_tail e es F p) (keeps e (part_head e es F p) here) x o
      ]

  -- a walk that ends outside was never in it
  outside : (a b : ℕ) (es : List ℕ) → Walk v a es b → PartOf es F → K b ≡ false → K a ≡ false
  outside a b es w p h = false_from_ne_true (K a) (λ t. both_ways (K b) h (stays a b es w p t))

  pub all_out : (a b : ℕ) (es : List ℕ) → Walk v a es b → PartOf es F → K b ≡ false → (x : ℕ) → 1 ≤ occurs x es → (K (v.start x) ≡ false) × (K (v.end x) ≡ false)
  all_out a b [] w p h x i = absurd (omega arith)
  all_out a b (e ∷ es) w p h x i =
      let starts : K (v.start e) ≡ false = subst (λ z. K z ≡ false) (sym w.1) (outside a b (e ∷ es) w p h) in
      let lands : K (v.end e) ≡ false = outside (v.end e) b es w.2 (part_tail e es F p) h in
      elim (first_or x e es i) [
        | inl s ↦ subst (λ z. (K (v.start z) ≡ false) × (K (v.end z) ≡ false)) (sym s) (starts, lands)
        | inr o ↦ all_out (v.end e) b es w.2 (part_tail e es F p) h x o
      ]

-- two lists without cycles have none together, if the links of one keep within a set of sites that no link of the other leaves
pub acyclic_join : {C : Type 0} (v : View C) (K : ℕ → Bool) (new old F : List ℕ) →
    ((e : ℕ) → 1 ≤ occurs e F → (1 ≤ occurs e new) ⊎ (1 ≤ occurs e old)) →
    ((e : ℕ) → 1 ≤ occurs e new → (K (v.start e) ≡ true) × (K (v.end e) ≡ true)) →
    ((e : ℕ) → 1 ≤ occurs e old → K (v.start e) ≡ false) →
    Acyclic v new → Acyclic v old → Acyclic v F
acyclic_join v K new old F parts within out no_new no_old w e es walk part =
    let keeps : (x : ℕ) → 1 ≤ occurs x F → K (v.start x) ≡ true → K (v.end x) ≡ true =
    λ x i h. elim (parts x i) [ inl n ↦ (within x n).1 | inr o ↦ absurd (both_ways (K (v.start x)) (out x o) h) ] in
    elim (cases_Bool (K w)) [
      | inl t ↦ no_new w e es walk (λ x i. elim (parts x (part x i)) [
        | inl n ↦ n
        | inr o ↦ absurd (both_ways (K (v.start x)) (out x o) (all_in v K F keeps w w (e ∷ es) walk part t x i))
      ])
      | inr f ↦ no_old w e es walk (λ x i. elim (parts x (part x i)) [
        | inl n ↦ absurd (both_ways (K (v.start x)) (all_out v K F keeps w w (e ∷ es) walk part f x i).0 (within x n).0)
        | inr o ↦ o
      ])
    ]

-- a link that is the tree link of its end, a reached site other than the root
pub record OnTree {C : Type 0} (v : View C) (root : ℕ) (first : State C) (e : ℕ) : Type 0 where
  pub is : e ≡ tree_of first (v.end e)
  pub reached : has (v.end e) first.order ≡ true
  pub other : v.end e ≡ root → ⊥

module _ {C : Type 0} {k : Ops C} (laws : Laws k) (v : View C) (sound : SoundView k v) {root : ℕ} {first : State C} (fl : RunLaws k (first_job v) root first) where
  -- a tree link starts at its end's parent
  pub tree_starts : (e : ℕ) → OnTree v root first e → v.start e ≡ parent first.labels (v.end e)
  tree_starts e t = ap v.start t.is ∙ (tree_link_of laws sound fl (v.end e) t.reached t.other).starts

  -- a walk over tree links leads down
  tree_down : (a b : ℕ) (es : List ℕ) → Walk v a es b → ((e : ℕ) → 1 ≤ occurs e es → OnTree v root first e) → has a first.order ≡ true → has a (up first b) ≡ true
  tree_down a b [] w on h = subst (λ z. has a (up first z) ≡ true) w (up_self fl a h)
  tree_down a b (e ∷ es) w on h =
      let t = on e (omega (arith, hit_self e)) in
      let x = v.end e in
      let p = parent first.labels x in
      let same : p ≡ a = sym (tree_starts e t) ∙ w.1 in
      let above : has p (up first x) ≡ true = up_more fl p x t.reached t.other (up_self fl p (parent_reached fl x t.reached t.other)) in
      up_trans fl a x b (subst (λ z. has z (up first x) ≡ true) same above) (tree_down x b es w.2 (λ y i. on y (omega (arith, i))) t.reached)

  -- tree links have no cycle
  pub tree_acyclic : (F : List ℕ) → ((e : ℕ) → 1 ≤ occurs e F → OnTree v root first e) → Acyclic v F
  tree_acyclic F on w e es walk part = grind (arith, part_head, tree_starts, tree_down, part_tail, up_parent_lacks fl)

-- a walk up to one of the sites that it visits
visit : {C : Type 0} (v : View C) (a b w : ℕ) (es : List ℕ) → Walk v a es b → 1 ≤ occurs w (a ∷ ends v es) → (xs : List ℕ) × Walk v a xs w × PartOf xs es
visit v a b w [] walk h = grind (arith, hit_other)
visit v a b w (e ∷ es) walk h =
    elim (cases_eq w a) [
      | inl s ↦ ([], sym s, λ x i. absurd (omega (arith, i)))
      | inr d ↦
          let p = visit v (v.end e) b w es walk.2 (omega (arith, hit_other w a d)) in (
            e ∷ p.0,
            (walk.0, walk.1, p.1),
            λ x i. elim (first_or x e p.0 i) [
              | inl s ↦ subst (λ z. 1 ≤ occurs z (e ∷ es)) (sym s) (omega (arith, hit_self e))
              | inr o ↦ omega (arith, p.2 x o)
            ],
          )
    ]

-- a walk over a list without cycles visits no site twice
pub simple_walk : {C : Type 0} (v : View C) (F : List ℕ) → Acyclic v F → (a b : ℕ) (es : List ℕ) → Walk v a es b → PartOf es F → (w : ℕ) → occurs w (a ∷ ends v es) ≤ 1
simple_walk v F none a b [] walk part w = omega (arith, hit_most w a)
simple_walk v F none a b (e ∷ es) walk part w =
    let rest : occurs w (v.end e ∷ ends v es) ≤ 1 = simple_walk v F none (v.end e) b es walk.2 (part_tail e es F part) w in
    elim (cases_eq w a) [
      | inl s ↦ grind (arith, visit v, has_occurs, first_or, part_head, part_tail, hit_most, lacks_occurs)
      | inr d ↦ omega (arith, hit_other w a d)
    ]

length_ends : {C : Type 0} (v : View C) (es : List ℕ) → length (ends v es) ≡ length es
length_ends v [] = refl
length_ends v (e ∷ es) = ap suc (length_ends v es)

-- the sites that a walk visits are sites
ends_sites : {C : Type 0} {k : Ops C} (v : View C) → SoundView k v → (a b : ℕ) (es : List ℕ) → Walk v a es b → a < v.sites → (w : ℕ) → 1 ≤ occurs w (a ∷ ends v es) → w < v.sites
ends_sites v sound a b [] walk h w i = elim (first_or w a [] i) [ inl s ↦ subst (λ z. z < v.sites) (sym s) h | inr o ↦ absurd (omega arith) ]
ends_sites v sound a b (e ∷ es) walk h w i =
    elim (first_or w a (v.end e ∷ ends v es) i) [
      | inl s ↦ subst (λ z. z < v.sites) (sym s) h
      | inr o ↦ ends_sites v sound (v.end e) b es walk.2 (sound.end e walk.0) w o
    ]

-- such a walk from the root that has a link is short
pub short_walk : {C : Type 0} {k : Ops C} (v : View C) → SoundView k v → (F : List ℕ) → Acyclic v F → (root b : ℕ) (es : List ℕ) → root < v.sites → Walk v root es b → PartOf es F → 1 ≤ length es → Short v root es
short_walk v sound F none root b es is walk part some =
    let once = simple_walk v F none root b es walk part in
    let most : length (root ∷ ends v es) ≤ v.sites = few v.sites (root ∷ ends v es) once (ends_sites v sound root b es walk is) in
    record { simple = once; some = some; few = omega (arith, length_ends v es) }
