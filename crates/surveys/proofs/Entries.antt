-- The outcome of a site by what the tables of both runs hold.
use Rattle.std.proofs.Common.{◌≡◌, ℕ, ◌+◌, ◌<◌, true, false, eqb, List, length, get_or, drop, set, Some, Ok, sym, refl, ap, ◌∙◌, subst, arith, below_more}
use Rattle.std.proofs.lemmas.List.{get_or-set_same, get_or-set_other}
use Rattle.std.proofs.lemmas.Bool.{cond-true, cond-false, eq-eqb, ne_eqb, lt-ltb}
use Rattle.costs.specs.Costs.{Ops, Laws, worked}
use Rattle.networks.specs.Meaning.{Net, Sound}
use Rattle.least_pairs.specs.Views.{view}
use Rattle.least_pairs.specs.Runs.{Label}
use Rattle.least_pairs.specs.Plans.{Answer, no_route, one_link, pair, answer, root_entry, entry_of, survey, labelled, first_cut}
use Rattle.least_pairs.specs.Theorems.{RightSurvey}
use Rattle.least_pairs.proofs.Proved.{surveys_are_right}
use Rattle.pairs.specs.Reading.{first_of, second_of, pair_of, tree_route_to}
use Rattle.quotes.proofs.Answering.{none_answered, cut_answered, pair_answered, at_same}
use Rattle.surveys.specs.declared.outcome.Outcome.{Outcome}
use Rattle.surveys.specs.declared.outcome.Outcome.TheVariants as its
use Rattle.surveys.specs.Surveys.{told, OutcomeIs, Surveyed}

module _ {C : Type 0} {k : Ops C} (laws : Laws k) (n : Net) (sound : Sound n) (root w : ℕ) (inside : root < n.sites) (low : w < n.sites) where
  -- what is the outcome is right
  is_right : (o : Outcome C) → told o ≡ survey k (view k n) root w → OutcomeIs k n root w o
  is_right o is = record { is = is; right = subst (λ e. RightSurvey k (view k n) root w e) (sym is) (surveys_are_right k laws n sound root inside w low) }

  -- the root
  pub root_is : w ≡ root → OutcomeIs k n root w its.Root
  unfolding survey
  root_is e = is_right its.Root (sym (cond-true (eqb w root) root_entry (entry_of (answer k (view k n) root w)) (eq-eqb w root e)))

  module _ (other : w ≡ root → ⊥) where
    -- another site has the entry of its answer
    answer_is : (a : Answer C) → answer k (view k n) root w ≡ a → (o : Outcome C) → told o ≡ entry_of a → OutcomeIs k n root w o
    unfolding survey
    answer_is a is o tells = is_right o (tells ∙ ap entry_of (sym is) ∙ sym (cond-false (eqb w root) root_entry (entry_of (answer k (view k n) root w)) (ne_eqb w root other)))

    -- a site that the first run did not label
    pub no_route_is : labelled ((first_of k n root).labels w) ≡ false → OutcomeIs k n root w its.NoRoute
    no_route_is h = answer_is no_route (none_answered laws n sound root w inside low other h).is its.NoRoute refl

    -- one that only the first run labelled
    pub one_link_is : (d : Label C) → (first_of k n root).labels w ≡ Some d → labelled ((second_of k n root).labels w) ≡ false → (link : ℕ) → link ≡ first_cut k (view k n) root w (tree_route_to k n root w) → OutcomeIs k n root w (its.OneLink link)
    one_link_is d hd hl link is = answer_is (one_link link) (cut_answered laws n sound root w inside low other d hd hl link is).is (its.OneLink link) refl

    -- one that both labelled
    pub total_is : (d l : Label C) → (first_of k n root).labels w ≡ Some d → (second_of k n root).labels w ≡ Some l → (total : C) → total ≡ worked k l.cost (worked k d.cost d.cost) → OutcomeIs k n root w (its.Total total)
    total_is d l hd hl total is =
        answer_is (pair (pair_of k n root w).0 (pair_of k n root w).1 total) (pair_answered laws n sound root w inside low other d l hd hl (pair_of k n root w).0 (pair_of k n root w).1 total refl refl is).is (its.Total total) refl

-- one outcome more is written
pub written_more : {C : Type 0} (k : Ops C) (n : Net) (root site : ℕ) (table : List (Outcome C)) (outcome : Outcome C) → site < length table → OutcomeIs k n root site outcome → ((w : ℕ) → w < site → OutcomeIs k n root w (get_or table w its.Root)) → (w : ℕ) → w < site + 1 → OutcomeIs k n root w (get_or (set table site outcome) w its.Root)
written_more k n root site table outcome low tells written =
    below_more _ _
    (λ w lt. let apart : w ≡ site → ⊥ = omega (arith, lt) in subst (λ o. OutcomeIs k n root w o) (sym (get_or-set_other table site w outcome its.Root apart)) (written w lt))
    (subst (λ o. OutcomeIs k n root site o) (sym (get_or-set_same table site outcome its.Root low)) tells)

-- outcomes told over a network and a root are those of the same
pub survey_told : {C : Type 0} (k : Ops C) (n m : Net) (root other : ℕ) → m ≡ n → other ≡ root → (sites : ℕ) (before after : List (Outcome C)) → root < n.sites → sites ≡ m.sites → ((w : ℕ) → w < m.sites → OutcomeIs k m other w (get_or after w its.Root)) → drop m.sites after ≡ drop m.sites before → Surveyed k n root true (Ok sites) before after
survey_told k n m root other e f sites before after inside count outcomes rest =
    let many : m.sites ≡ n.sites = ap (λ (x : Net). x.sites) e in (
      record { root_stands = lt-ltb root n.sites inside; room_is = refl },
      count ∙ many,
      λ w lt. at_same m n other root (λ x r. OutcomeIs k x r w (get_or after w its.Root)) e f (outcomes w (subst (λ s. w < s) (sym many) lt)),
      subst (λ s. drop s after ≡ drop s before) many rest,
    )
