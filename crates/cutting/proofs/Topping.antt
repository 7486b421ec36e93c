-- The climb from a site without a label to the top of its last piece, whose tree link cuts the site off.
use Rattle.std.proofs.Common.{◌≡◌, ℕ, ◌<◌, ◌≤◌, true, false, List, length, get_or, Some, sym, refl, ap, ◌∙◌, subst, inl, inr, arith}
use Rattle.std.proofs.lemmas.List.{get_or_default}
use Rattle.std.proofs.lemmas.Bool.{both_ways, cases_Bool}
use Rattle.costs.specs.Costs.{Ops, Laws}
use Rattle.networks.specs.Meaning.{Net, Sound}
use Rattle.least_pairs.specs.Views.{view, without}
use Rattle.least_pairs.specs.Runs.{Job, State, has}
use Rattle.least_pairs.specs.Trees.{parent}
use Rattle.least_pairs.specs.Laws.{RunLaws}
use Rattle.least_pairs.specs.Plans.{first_cut, up, link_of, labelled}
use Rattle.least_pairs.proofs.Seen.{view_sound}
use Rattle.least_pairs.proofs.Detours.{sound_without}
use Rattle.least_pairs.proofs.Distances.{tree_link_of}
use Rattle.least_pairs.proofs.Jobs.{first_laws}
use Rattle.least_pairs.proofs.Tree.{root_reached, parent_reached, up_other}
use Rattle.least_pairs.proofs.Pieces.{top_of, top_some, top_same, top_self}
use Rattle.least_pairs.proofs.Cutting.{first_cut_is}
use Rattle.least_pairs.proofs.Balance.{pairs}
use Rattle.pairs.specs.Tables.{Tells}
use Rattle.pairs.specs.Reading.{first_of, second_of, tree_route_to}
use Rattle.pairs.proofs.Backwards.{told_link}
use Rattle.pairs.proofs.Both.{labelled_settled, settled_labelled, first_ran, second_ran}

-- who has no label has not been settled
unlabelled_left : {C : Type 0} {k : Ops C} {j : Job C} {root : ℕ} {s : State C} → RunLaws k j root s → (w : ℕ) → labelled (s.labels w) ≡ false → has w s.order ≡ false
unlabelled_left {s = s} run w h =
    elim (cases_Bool (has w s.order)) [
      | inl q ↦ absurd (both_ways (labelled (s.labels w)) h (settled_labelled run w q))
      | inr q ↦ q
    ]

-- where the climb stands: at a reached site without a label, in the last piece of the first
pub record Climbing {C : Type 0} (k : Ops C) (n : Net) (root site top : ℕ) : Type 0 where
  pub settled : has top (first_of k n root).order ≡ true
  pub left : has top (second_of k n root).order ≡ false
  pub same : top_of (first_of k n root) (second_of k n root).order top ≡ top_of (first_of k n root) (second_of k n root).order site

module _ {C : Type 0} {k : Ops C} (laws : Laws k) (n : Net) (sound : Sound n) (root : ℕ) (inside : root < n.sites) (site : ℕ) where
  -- it begins at the site
  pub climbing_none : labelled ((first_of k n root).labels site) ≡ true → labelled ((second_of k n root).labels site) ≡ false → Climbing k n root site site
  climbing_none h l = record {
    settled = labelled_settled (first_ran laws n sound root inside) site h;
    left = unlabelled_left (second_ran laws n sound root inside) site l;
    same = refl;
  }

  module _ (top : ℕ) (s : Climbing k n root site top) where
    not_root : top ≡ root → ⊥
    not_root e = both_ways (has top (second_of k n root).order) s.left (subst (λ w. has w (second_of k n root).order ≡ true) (sym e) (root_reached (second_ran laws n sound root inside)))

    pub top_low : top < n.sites
    top_low = (first_ran laws n sound root inside).sites top s.settled

    module _ (tree : List ℕ) (long : n.sites ≤ length tree) (tells : Tells n.sites tree (λ l. l.link) (first_of k n root).labels) where
      -- the tree link, as the table tells it
      link_is : get_or tree top 0 ≡ link_of ((first_of k n root).labels top)
      link_is = get_or_default tree top 0 65535 (omega (arith, top_low)) ∙ told_link n.sites tree (first_of k n root).labels tells top top_low (settled_labelled (first_ran laws n sound root inside) top s.settled)

      pub link_low : get_or tree top 0 < length n.links
      link_low =
          subst (λ e. e < length n.links) (sym link_is)
          ((view_sound laws n sound).link (link_of ((first_of k n root).labels top)) (tree_link_of laws (view_sound laws n sound) (first_ran laws n sound root inside) top s.settled not_root).usable)

      -- its start is the parent
      pub starts : (view k n).start (get_or tree top 0) ≡ parent (first_of k n root).labels top
      starts = ap (view k n).start link_is ∙ (tree_link_of laws (view_sound laws n sound) (first_ran laws n sound root inside) top s.settled not_root).starts

      module _ (above : ℕ) (is : above ≡ (view k n).start (get_or tree top 0)) where
        parent_is : parent (first_of k n root).labels top ≡ above
        parent_is = sym (is ∙ starts)

        above_reached : has above (first_of k n root).order ≡ true
        above_reached = subst (λ w. has w (first_of k n root).order ≡ true) parent_is (parent_reached (first_ran laws n sound root inside) top s.settled not_root)

        pub above_low : above < n.sites
        above_low = (first_ran laws n sound root inside).sites above above_reached

        -- one site higher
        pub climbing_more : labelled ((second_of k n root).labels above) ≡ false → Climbing k n root site above
        climbing_more l =
            let fl = first_ran laws n sound root inside in
            let S = (second_of k n root).order in
            let free = unlabelled_left (second_ran laws n sound root inside) above l in
            let z = top_some fl S above above_reached free in
            let here = top_same fl S top z.0 s.settled not_root s.left (subst (λ w. top_of (first_of k n root) S w ≡ Some z.0) (sym parent_is) z.1) in
            record { settled = above_reached; left = free; same = z.1 ∙ sym here ∙ s.same }

        -- fewer sites are above
        pub fewer : length (up (first_of k n root) above) < length (up (first_of k n root) top)
        fewer = omega (arith, ap length (up_other (first_ran laws n sound root inside) top s.settled not_root), ap (λ w. length (up (first_of k n root) w)) parent_is)

        -- below a site with a label the climb ends: the tree link cuts the site off
        pub climbed : labelled ((second_of k n root).labels above) ≡ true → get_or tree top 0 ≡ first_cut k (view k n) root site (tree_route_to k n root site)
        climbed l =
            let v = view k n in
            let sight = view_sound laws n sound in
            let fl = first_ran laws n sound root inside in
            let sl = second_ran laws n sound root inside in
            let S = (second_of k n root).order in
            let struck : has (parent (first_of k n root).labels top) S ≡ true = subst (λ w. has w S ≡ true) (sym parent_is) (labelled_settled sl above l) in
            let last : top_of (first_of k n root) S site ≡ Some top = sym s.same ∙ top_self fl S top s.settled not_root s.left struck in
            link_is ∙ sym (first_cut_is laws sight fl sl (pairs laws v sight fl sl) site top last (λ e. first_laws laws (without e v) (sound_without sight e) root inside))
