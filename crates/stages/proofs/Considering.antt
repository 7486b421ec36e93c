-- What the tables of a second stage tell is what the second run considers and adds.
use Rattle.std.proofs.Common.{◌≡◌, ℕ, zero, suc, ◌<◌, ◌≤◌, Bool, true, false, cond, not, ◌&&◌, ◌||◌, eqb, List, [], ◌∷◌, ◌++◌, reverse, length, get_or, take, drop, Some, None, Option, sym, refl, ap, ◌∙◌, subst, inl, inr, arith}
use mathlib.Core.List.{reverse-cons, reverse-append}
use lib.Seq.{split_at, append_snoc}
use Rattle.std.proofs.lemmas.Bool.{eq-eqb, ne_eqb, and_parts, and_right, cases_Bool, cases_eq, cond-true, cond-false}
use Rattle.costs.specs.Costs.{Ops, Laws, worked, negated}
use Rattle.networks.specs.Meaning.{Net, Sound}
use Rattle.least_pairs.specs.Views.{view}
use Rattle.least_pairs.specs.Runs.{Label, has}
use Rattle.least_pairs.specs.Trees.{turn_of, parent, top, same_site, joined}
use Rattle.least_pairs.specs.Plans.{first_job, second_job, first_run, came_over, cost_of, reduced, tree_link, up}
use Rattle.least_pairs.specs.Laws.{RunLaws}
use Rattle.least_pairs.proofs.Pieces.{some_none, top_of, top_all, joined_reached, joined_sym}
use Rattle.least_pairs.proofs.Tree.{up_none, parent_reached}
use Rattle.least_pairs.proofs.Seen.{view_sound}
use Rattle.least_pairs.proofs.Proved.{runs_keep_their_laws, sums_are_exact}
use Rattle.least_pairs.proofs.Listed.{has_head, has_right, has_cases}
use Rattle.runs.specs.Tables.{held}
use Rattle.runs.specs.Offers.{offers}
use Rattle.stages.specs.Marks.{mark, Marked, alike, together, renewed}
use Rattle.stages.specs.Second.{FirstLeft, Ready, tree_linked, admitted, reduced_worked}
use Rattle.stages.proofs.Marking.{top_site, length_renewed, renewed_marks}

-- marks are alike where the tops are one site
alike_marks : (a b : Option ℕ) → ((z : ℕ) → a ≡ Some z → z < 65535) → alike (mark a) (mark b) ≡ same_site a b
alike_marks None b h = refl
alike_marks (Some x) None h = let ne : eqb x 65535 ≡ false = ne_eqb x 65535 (λ e. omega (arith, h x refl)) in and_right (not (eqb x 65535)) (eqb x 65535) ne
alike_marks (Some x) (Some y) h = let ne : eqb x 65535 ≡ false = ne_eqb x 65535 (λ e. omega (arith, h x refl)) in ap (λ b. not b && eqb x y) ne

-- within a list the default does not count
within : {A : Type 0} (xs : List A) (i : ℕ) (d e : A) → i < length xs → get_or xs i d ≡ get_or xs i e
within [] i d e h = absurd (let none_such : i < 0 = h in omega arith)
within (x ∷ xs) zero d e h = refl
within (x ∷ xs) (suc i) d e h = within xs i d e (omega arith)

-- equal parts of a test make it equal
regroup : (u t t' p p' q q' r r' a b : Bool) → u ≡ true → t ≡ t' → p ≡ p' → q ≡ q' → r ≡ r'
    → (not t && ((p && q) && (a && (b || not r)))) ≡ ((u && not t') && ((p' && q') && (a && (b || not r'))))
regroup u t t' p p' q q' r r' a b hu ht hp hq hr =
    let same : (not t && ((p && q) && (a && (b || not r)))) ≡ (not t' && ((p' && q') && (a && (b || not r')))) = cc in
    same ∙ sym (ap (λ x. (x && not t') && ((p' && q') && (a && (b || not r')))) hu)

-- an entry of a list stands in the list read backwards
reverse_has : (xs : List ℕ) (i : ℕ) → i < length xs → has (get_or xs i 0) (reverse xs) ≡ true
reverse_has xs i h =
    let w : ℕ = get_or xs i 0 in
    let parts : reverse xs ≡ reverse (drop (suc i) xs) ++ w ∷ reverse (take i xs) =
    ap reverse (split_at xs i 0 h) ∙ reverse-append (take i xs) (w ∷ drop (suc i) xs) ∙ ap (λ z. z ++ reverse (take i xs)) (reverse-cons w (drop (suc i) xs)) ∙ append_snoc (reverse (drop (suc i) xs)) w (reverse (take i xs)) in
    subst (λ z. has w z ≡ true) (sym parts) (has_right w (reverse (drop (suc i) xs)) (w ∷ reverse (take i xs)) (has_head w (reverse (take i xs))))

-- what three tables hold at a site
module _ {C : Type 0} (k : Ops C) (costs : List C) (links turns : List ℕ) (w : ℕ) where
  -- the label came over the link in the table
  held_came : (e : ℕ) → e < 65535 → eqb (get_or links w 65535) e ≡ came_over (held k costs links turns w) e
  held_came e h =
      let label : Label C = record { cost = get_or costs w k.zero; link = get_or links w 65535; turn = get_or turns w 65535 } in
      elim (cases_eq (get_or links w 65535) 65535) [
        | inl q ↦ ne_eqb (get_or links w 65535) e (λ p. omega arith) ∙ sym (ap (λ o. came_over o e) (cond-true (eqb (get_or links w 65535) 65535) None (Some label) (eq-eqb (get_or links w 65535) 65535 q)))
        | inr n ↦ sym (ap (λ o. came_over o e) (cond-false (eqb (get_or links w 65535) 65535) None (Some label) (ne_eqb (get_or links w 65535) 65535 n)))
      ]

  -- a label there has the entries of the tables
  held_label : (l : Label C) → held k costs links turns w ≡ Some l → held k costs links turns w ≡ Some (record { cost = get_or costs w k.zero; link = get_or links w 65535; turn = get_or turns w 65535 })
  held_label l h =
      let label : Label C = record { cost = get_or costs w k.zero; link = get_or links w 65535; turn = get_or turns w 65535 } in
      elim (cases_eq (get_or links w 65535) 65535) [
        | inl q ↦ absurd (some_none h (cond-true (eqb (get_or links w 65535) 65535) None (Some label) (eq-eqb (get_or links w 65535) 65535 q)))
        | inr n ↦ cond-false (eqb (get_or links w 65535) 65535) None (Some label) (ne_eqb (get_or links w 65535) 65535 n)
      ]

  -- there is a label where the link is not none
  held_none : get_or links w 65535 ≡ 65535 → held k costs links turns w ≡ None
  held_none q = cond-true (eqb (get_or links w 65535) 65535) None (Some (record { cost = get_or costs w k.zero; link = get_or links w 65535; turn = get_or turns w 65535 })) (eq-eqb (get_or links w 65535) 65535 q)

  held_some : (get_or links w 65535 ≡ 65535 → ⊥) → (l : Label C) × (held k costs links turns w ≡ Some l)
  held_some n = (record { cost = get_or costs w k.zero; link = get_or links w 65535; turn = get_or turns w 65535 }, cond-false (eqb (get_or links w 65535) 65535) None (Some (record { cost = get_or costs w k.zero; link = get_or links w 65535; turn = get_or turns w 65535 })) (ne_eqb (get_or links w 65535) 65535 n))

module _ {C : Type 0} {k : Ops C} (laws : Laws k) (n : Net) (sound : Sound n) {root : ℕ} {distance : List C} {tree parents order : List ℕ} (left : FirstLeft k (view k n) root distance tree parents order) where
  -- the first run keeps its laws
  pub first_kept : RunLaws k (first_job (view k n)) root (first_run k (view k n) root)
  first_kept = (runs_keep_their_laws k laws n sound root left.root_site).0

  few : n.sites < 65535
  few = omega (arith, sound.most_sites)

  -- a settled site's parent and distance stand in the tables
  pub parent_told : (w : ℕ) → has w (first_run k (view k n) root).order ≡ true → get_or parents w 0 ≡ parent (first_run k (view k n) root).labels w
  parent_told w h =
      let label = first_kept.has_label w h in
      let inside : w < n.sites = first_kept.sites w h in
      let held_is = left.labels w inside in
      let row = held_label k distance tree parents w label.0 (held_is ∙ label.1) in
      within parents w 0 65535 (omega (arith, left.all_parents)) ∙ sym (ap (λ o. turn_of o w) (sym held_is ∙ row))

  pub distance_told : (w : ℕ) → has w (first_run k (view k n) root).order ≡ true → get_or distance w k.zero ≡ cost_of k ((first_run k (view k n) root).labels w)
  distance_told w h =
      let label = first_kept.has_label w h in
      let held_is = left.labels w (first_kept.sites w h) in
      let row = held_label k distance tree parents w label.0 (held_is ∙ label.1) in
      sym (ap (cost_of k) (sym held_is ∙ row))

  -- the sites in the order table, and their parents, are sites
  pub renew_inside : (part : List ℕ) → n.sites ≤ length part → (i : ℕ) → i < length order → (get_or order i 0 < length part) × (get_or order i 0 < length parents) × (get_or parents (get_or order i 0) 0 < length part)
  renew_inside part long i h =
      let w : ℕ = get_or order i 0 in
      let reached : has w (first_run k (view k n) root).order ≡ true = subst (λ o. has w o ≡ true) left.reached (reverse_has order i h) in
      let inside : w < n.sites = first_kept.sites w reached in
      let up_inside : parent (first_run k (view k n) root).labels w < n.sites = elim (cases_eq w root) [
        | inl e ↦ subst (λ u. u < n.sites) (sym (ap (parent (first_run k (view k n) root).labels) e ∙ ap (λ o. turn_of o root) first_kept.root_label)) left.root_site
        | inr m ↦ first_kept.sites (parent (first_run k (view k n) root).labels w) (parent_reached first_kept w reached m)
      ] in
      (omega arith, omega (arith, left.all_parents), subst (λ u. u < length part) (sym (parent_told w reached)) (omega arith))

  -- the marks before anything is struck: the root's for the sites reached, none for the others
  pub first_marks : (part : List ℕ) → ((w : ℕ) → w < n.sites → get_or part w 0 ≡ cond (eqb (get_or tree w 0) 65535) 65535 root) → Marked (first_run k (view k n) root) n.sites [] part
  first_marks part h w lt =
      let same : get_or tree w 0 ≡ get_or tree w 65535 = within tree w 0 65535 (omega (arith, left.trees)) in
      h w lt ∙ elim (cases_eq (get_or tree w 65535) 65535) [
        | inl q ↦
            let lacks : has w (first_run k (view k n) root).order ≡ false = elim (cases_Bool (has w (first_run k (view k n) root).order)) [
              | inl t ↦ absurd (some_none (left.labels w lt ∙ (first_kept.has_label w t).1) (held_none k distance tree parents w q))
              | inr f ↦ f
            ] in
            cond-true (eqb (get_or tree w 0) 65535) 65535 root (eq-eqb (get_or tree w 0) 65535 (same ∙ q)) ∙ sym (ap (λ us. mark (top [] us)) (up_none first_kept w lacks))
        | inr m ↦
            let l = held_some k distance tree parents w m in
            let reached : has w (first_run k (view k n) root).order ≡ true = first_kept.is_settled w l.0 (sym (left.labels w lt) ∙ l.1) in
            cond-false (eqb (get_or tree w 0) 65535) 65535 root (ne_eqb (get_or tree w 0) 65535 (λ p. m (sym same ∙ p))) ∙ sym (ap mark (top_all first_kept w reached))
      ]

  -- a strike makes a stage ready for one more
  pub strike_ready : (piece part piece' part' : List ℕ) (y : ℕ) (S : List ℕ) → y < n.sites
      → Ready k (view k n) root distance tree parents order piece part S
      → length piece' ≡ length piece
      → ((w : ℕ) → w < n.sites → get_or piece' w 0 ≡ get_or part w 0)
      → part' ≡ renewed parents root y (reverse order) part
      → Ready k (view k n) root distance tree parents order piece' part' (y ∷ S)
  strike_ready piece part piece' part' y S lt ready long copied made =
      let whole : part' ≡ renewed parents root y (first_run k (view k n) root).order part = made ∙ ap (λ T. renewed parents root y T part) left.reached in
      record {
        first_left = left;
        pieces = omega (arith, ready.pieces);
        parts = omega (arith, ready.parts, ap length whole, length_renewed parents root y part (first_run k (view k n) root).order);
        struck = λ w h. elim (has_cases w y S h) [ inl e ↦ subst (λ u. u < n.sites) (sym e) lt | inr g ↦ ready.struck w g ];
        part_marks = subst (λ t. Marked (first_run k (view k n) root) n.sites (y ∷ S) t) (sym whole) (renewed_marks first_kept few parents y S part ready.parts parent_told ready.part_marks);
        piece_marks = λ w h. copied w h ∙ ready.part_marks w h;
      }

  module _ {piece part : List ℕ} {y : ℕ} {S : List ℕ} (ready : Ready k (view k n) root distance tree parents order piece part (y ∷ S)) where
    -- the site that was struck last is a site
    pub struck_site : y < n.sites
    struck_site = ready.struck y (has_head y S)

    together_joined : (S : List ℕ) (table : List ℕ) → Marked (first_run k (view k n) root) n.sites S table → (u w : ℕ) → u < n.sites → w < n.sites → together table u w ≡ joined (up (first_run k (view k n) root)) S u w
    together_joined S table m u w hu hw =
        ap (λ a. alike a (get_or table w 0)) (m u hu) ∙ ap (λ b. alike (mark (top_of (first_run k (view k n) root) S u)) b) (m w hw)
        ∙ alike_marks (top_of (first_run k (view k n) root) S u) (top_of (first_run k (view k n) root) S w) (λ z h. omega (arith, top_site first_kept few S u z h, few))

    module _ (e : ℕ) (usable : (view k n).usable e ≡ true) where
      pub start_site : (view k n).start e < n.sites
      start_site = (view_sound laws n sound).start e usable

      pub end_site : (view k n).end e < n.sites
      end_site = (view_sound laws n sound).end e usable

      -- a usable link is considered where it is admitted
      pub admitted_considers : admitted tree piece part root y ((view k n).start e) ((view k n).end e) e ≡ (second_job k (view k n) root (first_run k (view k n) root)).considers y S e
      admitted_considers =
          let low : e < 65535 = omega (arith, (view_sound laws n sound).link e usable, sound.most_links) in
          let came : eqb (get_or tree ((view k n).end e) 0) e ≡ came_over ((first_run k (view k n) root).labels ((view k n).end e)) e =
          ap (λ x. eqb x e) (within tree ((view k n).end e) 0 65535 (omega (arith, left.trees, end_site))) ∙ held_came k distance tree parents ((view k n).end e) e low ∙ ap (λ o. came_over o e) (left.labels ((view k n).end e) end_site) in
          regroup ((view k n).usable e) (tree_linked tree root ((view k n).end e) e) (tree_link (view k n) (first_run k (view k n) root) root e)
          (together piece y ((view k n).start e)) (joined (up (first_run k (view k n) root)) S y ((view k n).start e))
          (together piece y ((view k n).end e)) (joined (up (first_run k (view k n) root)) S y ((view k n).end e))
          (together part ((view k n).start e) ((view k n).end e)) (joined (up (first_run k (view k n) root)) (y ∷ S) ((view k n).start e) ((view k n).end e))
          (not (eqb ((view k n).end e) y)) (eqb ((view k n).start e) y)
          usable (ap (λ b. b && not (eqb ((view k n).end e) root)) came)
          (together_joined S piece ready.piece_marks y ((view k n).start e) struck_site start_site)
          (together_joined S piece ready.piece_marks y ((view k n).end e) struck_site end_site)
          (together_joined (y ∷ S) part ready.part_marks ((view k n).start e) ((view k n).end e) start_site end_site)

      -- a link that is not admitted is not considered
      pub not_admitted : admitted tree piece part root y ((view k n).start e) ((view k n).end e) e ≡ false → None ≡ offers (second_job k (view k n) root (first_run k (view k n) root)) y S e
      not_admitted h = sym (cond-false ((second_job k (view k n) root (first_run k (view k n) root)).considers y S e) (Some ((view k n).end e, reduced k (view k n) (first_run k (view k n) root) e)) None (sym admitted_considers ∙ h))

      -- an admitted link is considered, and its reduced cost is worked out exactly
      pub is_admitted : admitted tree piece part root y ((view k n).start e) ((view k n).end e) e ≡ true
          → Some ((view k n).end e, reduced_worked k ((view k n).cost e) (get_or distance ((view k n).start e) k.zero) (get_or distance ((view k n).end e) k.zero)) ≡ offers (second_job k (view k n) root (first_run k (view k n) root)) y S e
      is_admitted h =
          let considers : (second_job k (view k n) root (first_run k (view k n) root)).considers y S e ≡ true = sym admitted_considers ∙ h in
          let parts = and_parts ((view k n).usable e && not (tree_link (view k n) (first_run k (view k n) root) root e)) ((joined (up (first_run k (view k n) root)) S y ((view k n).start e) && joined (up (first_run k (view k n) root)) S y ((view k n).end e)) && (not (eqb ((view k n).end e) y) && (eqb ((view k n).start e) y || not (joined (up (first_run k (view k n) root)) (y ∷ S) ((view k n).start e) ((view k n).end e))))) considers in
          let both = and_parts (joined (up (first_run k (view k n) root)) S y ((view k n).start e) && joined (up (first_run k (view k n) root)) S y ((view k n).end e)) (not (eqb ((view k n).end e) y) && (eqb ((view k n).start e) y || not (joined (up (first_run k (view k n) root)) (y ∷ S) ((view k n).start e) ((view k n).end e)))) parts.1 in
          let ends = and_parts (joined (up (first_run k (view k n) root)) S y ((view k n).start e)) (joined (up (first_run k (view k n) root)) S y ((view k n).end e)) both.0 in
          let at_start = distance_told ((view k n).start e) (joined_reached first_kept S ((view k n).start e) y (joined_sym first_kept S y ((view k n).start e) ends.0)) in
          let at_end = distance_told ((view k n).end e) (joined_reached first_kept S ((view k n).end e) y (joined_sym first_kept S y ((view k n).end e) ends.1)) in
          let sums = sums_are_exact k laws n sound root left.root_site in
          let exact : reduced_worked k ((view k n).cost e) (get_or distance ((view k n).start e) k.zero) (get_or distance ((view k n).end e) k.zero) ≡ reduced k (view k n) (first_run k (view k n) root) e =
          ap (λ d. reduced_worked k ((view k n).cost e) d (get_or distance ((view k n).end e) k.zero)) at_start
          ∙ ap (λ d. reduced_worked k ((view k n).cost e) (cost_of k ((first_run k (view k n) root).labels ((view k n).start e))) d) at_end
          ∙ ap (λ c. worked k c (negated k (cost_of k ((first_run k (view k n) root).labels ((view k n).end e))))) (sums.start_side e usable).1
          ∙ ap (λ c. worked k (k.plus ((view k n).cost e) (cost_of k ((first_run k (view k n) root).labels ((view k n).start e)))) c) (sums.end_side e)
          ∙ (sums.reduced_cost e usable).1 in
          ap (λ c. Some ((view k n).end e, c)) exact ∙ sym (cond-true ((second_job k (view k n) root (first_run k (view k n) root)).considers y S e) (Some ((view k n).end e, reduced k (view k n) (first_run k (view k n) root) e)) None considers)

-- the ends of a usable link are sites
pub ends_inside : {C : Type 0} {k : Ops C} → Laws k → (n : Net) → Sound n → (e : ℕ) (ends : ℕ × ℕ) → ends ≡ ((view k n).start e, (view k n).end e) → true ≡ (view k n).usable e → (ends.0 < n.sites) × (ends.1 < n.sites)
ends_inside laws n sound e ends is usable =
    subst (λ (p : ℕ × ℕ). (p.0 < n.sites) × (p.1 < n.sites)) (sym is) ((view_sound laws n sound).start e (sym usable), (view_sound laws n sound).end e (sym usable))

module _ {C : Type 0} {k : Ops C} (laws : Laws k) (n : Net) (sound : Sound n) {root : ℕ} {distance : List C} {tree parents order piece part : List ℕ} {y : ℕ} {S : List ℕ}
    (ready : Ready k (view k n) root distance tree parents order piece part (y ∷ S))
    (e : ℕ) (ends : ℕ × ℕ) (is : ends ≡ ((view k n).start e, (view k n).end e)) (usable : true ≡ (view k n).usable e) where
  -- a usable link that is not admitted is not offered
  pub not_offered : false ≡ admitted tree piece part root y ends.0 ends.1 e → None ≡ offers (second_job k (view k n) root (first_run k (view k n) root)) y S e
  not_offered h =
      not_admitted laws n sound ready.first_left ready e (sym usable) (sym (subst (λ (p : ℕ × ℕ). false ≡ admitted tree piece part root y p.0 p.1 e) is h))

  -- a usable link that is admitted is offered
  pub is_offered : true ≡ admitted tree piece part root y ends.0 ends.1 e
      → (sum : C) → sum ≡ reduced_worked k ((view k n).cost e) (get_or distance ends.0 k.zero) (get_or distance ends.1 k.zero)
      → Some (ends.1, sum) ≡ offers (second_job k (view k n) root (first_run k (view k n) root)) y S e
  is_offered h sum made =
      let first_end : ends.0 ≡ (view k n).start e = ap (λ (p : ℕ × ℕ). p.0) is in
      let last_end : ends.1 ≡ (view k n).end e = ap (λ (p : ℕ × ℕ). p.1) is in
      let same : Some (ends.1, sum) ≡ Some ((view k n).end e, reduced_worked k ((view k n).cost e) (get_or distance ((view k n).start e) k.zero) (get_or distance ((view k n).end e) k.zero)) =
      ap (λ w. Some (w, sum)) last_end
      ∙ ap (λ c. Some ((view k n).end e, c)) (made ∙ (λ i. reduced_worked k ((view k n).cost e) (get_or distance (first_end i) k.zero) (get_or distance (last_end i) k.zero))) in
      same ∙ is_admitted laws n sound ready.first_left ready e (sym usable) (sym (subst (λ (p : ℕ × ℕ). true ≡ admitted tree piece part root y p.0 p.1 e) is h))
