-- Both runs over a network keep the laws of a finished run.
use Rattle.std.proofs.Common.{◌≡◌, ℕ, ◌<◌, ◌≤◌, Bool, true, List, length, get_or, sym, ap, ◌∙◌, subst, arith}
use Rattle.std.proofs.lemmas.List.{get_or_default}
use Rattle.costs.specs.Costs.{Ops, Laws}
use Rattle.networks.specs.Meaning.{Net, Sound}
use Rattle.marks.specs.Sets.{with}
use Rattle.least_pairs.specs.Views.{view}
use Rattle.least_pairs.specs.Runs.{Job, State, has}
use Rattle.least_pairs.specs.Trees.{parent}
use Rattle.least_pairs.specs.Laws.{RunLaws}
use Rattle.least_pairs.specs.Plans.{first_job, second_job, labelled}
use Rattle.least_pairs.proofs.Seen.{view_sound}
use Rattle.least_pairs.proofs.Tree.{parent_reached}
use Rattle.least_pairs.proofs.Jobs.{first_laws, second_laws}
use Rattle.pairs.specs.Tables.{Tells}
use Rattle.pairs.specs.Reading.{first_of, second_of, target_marks}
use Rattle.pairs.proofs.Turns.{Marking, marks_other, marking_more}
use Rattle.pairs.proofs.Backwards.{labelled_some, told_turn}

-- who has a label has been settled
pub labelled_settled : {C : Type 0} {k : Ops C} {j : Job C} {root : ℕ} {s : State C} → RunLaws k j root s → (w : ℕ) → labelled (s.labels w) ≡ true → has w s.order ≡ true
labelled_settled {s = s} run w h = let l = labelled_some (s.labels w) h in run.is_settled w l.0 l.1

-- who has been settled has a label
pub settled_labelled : {C : Type 0} {k : Ops C} {j : Job C} {root : ℕ} {s : State C} → RunLaws k j root s → (w : ℕ) → has w s.order ≡ true → labelled (s.labels w) ≡ true
settled_labelled {s = s} run w h = ap labelled (run.has_label w h).1

module _ {C : Type 0} {k : Ops C} (laws : Laws k) (n : Net) (sound : Sound n) (root : ℕ) (inside : root < n.sites) where
  pub first_ran : RunLaws k (first_job (view k n)) root (first_of k n root)
  first_ran = first_laws laws (view k n) (view_sound laws n sound) root inside

  pub second_ran : RunLaws k (second_job k (view k n) root (first_of k n root)) root (second_of k n root)
  second_ran = second_laws laws (view k n) (view_sound laws n sound) root inside (first_of k n root) first_ran

  -- one turn of the marking, as a table tells it
  pub record Turn (target site next : ℕ) (after : ℕ → Bool) : Type 0 where
    pub settled : has next (second_of k n root).order ≡ true
    pub marking : Marking (second_of k n root) root target after next
    pub fewer : length (target_marks k n root next) < length (target_marks k n root site)

  pub turn : (turns : List ℕ) → n.sites ≤ length turns → Tells n.sites turns (λ l. l.turn) (second_of k n root).labels → (target site : ℕ) (set after : ℕ → Bool) → has site (second_of k n root).order ≡ true → (site ≡ root → ⊥) → ((x : ℕ) → after x ≡ with site set x) → Marking (second_of k n root) root target set site → Turn target site (get_or turns site 0) after
  turn turns long tells target site set after h d is m =
      let s = second_of k n root in
      let low : site < n.sites = second_ran.sites site h in
      let next : parent s.labels site ≡ get_or turns site 0 = sym (get_or_default turns site 0 65535 (omega arith) ∙ told_turn n.sites turns s.labels tells site low (settled_labelled second_ran site h)) in
      subst (λ x. Turn target site x after) next
      (record {
        settled = parent_reached second_ran site h d;
        marking = marking_more second_ran target set after site h d is m;
        fewer = omega (arith, ap length (marks_other second_ran site h d));
      })
