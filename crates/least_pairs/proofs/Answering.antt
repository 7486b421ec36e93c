-- The answers are right: what they say is true, they come exactly when it is, and no route visits a site twice.
use Rattle.std.proofs.Common.{◌≡◌, ℕ, ◌<◌, cond, eqb, Some, None, Option, sym, refl, ap, ◌∙◌, subst, ⊎_elim, arith}
use Rattle.std.proofs.lemmas.Bool.{cases_eq, cond-true, cond-false, eq-eqb, ne_eqb}
use Rattle.costs.specs.Costs.{Ops, Laws}
use Rattle.least_pairs.specs.Views.{View, without}
use Rattle.least_pairs.specs.Runs.{Label, State}
use Rattle.least_pairs.specs.Laws.{RunLaws}
use Rattle.least_pairs.specs.Plans.{first_job, second_job, Answer, no_route, one_link, pair, answered, answer, root_entry, entry_of, survey}
use Rattle.least_pairs.specs.Rightness.{Says, Exactly, NoSiteTwice, RightEntry}
use Rattle.least_pairs.specs.Theorems.{RightSurvey}
use Rattle.least_pairs.proofs.Sight.{SoundView}
use Rattle.least_pairs.proofs.Detours.{sound_without}
use Rattle.least_pairs.proofs.Jobs.{first_laws, second_laws}
use Rattle.least_pairs.proofs.Cutting.{not_reached, says_one_link}
use Rattle.least_pairs.proofs.Balance.{pairs}
use Rattle.least_pairs.proofs.Least.{says_pair, pair_short}

-- an answer that is true comes exactly when it is
pub exactly : {C : Type 0} (k : Ops C) (v : View C) (root target : ℕ) (a : Answer C) → Says k v root target a → Exactly v root target a
exactly k v root target no_route h = record {
  none = λ n. refl;
  cut = λ e es r s. absurd (h es r);
  two = λ one two p. absurd (h one p.first);
}
exactly k v root target (one_link f) h = record {
  none = λ n. absurd (n h.0.0 h.0.1);
  cut = λ e es r s. (f, refl);
  two = λ one two p. absurd (omega (arith, h.1.shared one p.first, h.1.shared two p.second, p.apart f));
}
exactly k v root target (pair x y z) h = record {
  none = λ n. absurd (n x h.0.pair.first);
  cut = λ e es r s. absurd (omega (arith, s x h.0.pair.first, s y h.0.pair.second, h.0.pair.apart e));
  two = λ one two p. (x, y, z, refl);
}

module _ {C : Type 0} {k : Ops C} (laws : Laws k) (v : View C) (sight : SoundView k v) (root : ℕ) (inside : root < v.sites) where
  -- what the two runs left is answered truly
  says_answered : (target : ℕ) → (root ≡ target → ⊥) → (first second : State C) (fl : RunLaws k (first_job v) root first) (sl : RunLaws k (second_job k v root first) root second) (a b : Option (Label C)) → first.labels target ≡ a → second.labels target ≡ b → Says k v root target (answered k v root target first second a b)
  says_answered target apart first second fl sl None b ha hb = not_reached laws sight fl target ha
  says_answered target apart first second fl sl (Some d) None ha hb =
      says_one_link laws sight fl sl (pairs laws v sight fl sl) (λ e. first_laws laws (without e v) (sound_without sight e) root inside) target d ha hb
  says_answered target apart first second fl sl (Some d) (Some l) ha hb = says_pair laws v sight fl sl target (λ e. apart (sym e)) d l ha hb

  -- what an answer says is true
  pub says : (target : ℕ) → (root ≡ target → ⊥) → Says k v root target (answer k v root target)
  unfolding answer
  says target apart = grind (arith, first_laws laws v sight, says_answered, second_laws laws v sight)

  -- no route of a pair that the two runs left visits a site twice
  short_answered : (target : ℕ) → (root ≡ target → ⊥) → (first second : State C) (fl : RunLaws k (first_job v) root first) (sl : RunLaws k (second_job k v root first) root second) (a b : Option (Label C)) → first.labels target ≡ a → second.labels target ≡ b → NoSiteTwice v root (answered k v root target first second a b)
  short_answered target apart first second fl sl None b ha hb = tt
  short_answered target apart first second fl sl (Some d) None ha hb = tt
  short_answered target apart first second fl sl (Some d) (Some l) ha hb = pair_short laws v sight fl sl target (λ e. apart (sym e)) d l ha hb

  -- no route of an answered pair visits a site twice
  pub no_site_twice : (target : ℕ) → (root ≡ target → ⊥) → NoSiteTwice v root (answer k v root target)
  unfolding answer
  no_site_twice target apart = grind (arith, first_laws laws v sight, short_answered, second_laws laws v sight)

  -- an entry made from a true answer is right
  entry_says : (w : ℕ) (a : Answer C) → Says k v root w a → RightEntry k v root w (entry_of a)
  entry_says w no_route h = h
  entry_says w (one_link e) h = h
  entry_says w (pair x y z) h = (x, y, h.0, h.1)

  -- every entry of a survey is right
  pub survey_right : (w : ℕ) → RightSurvey k v root w (survey k v root w)
  unfolding survey
  survey_right w =
      ⊎_elim
      (λ same.
      let at : cond (eqb w root) root_entry (entry_of (answer k v root w)) ≡ root_entry = cond-true (eqb w root) root_entry (entry_of (answer k v root w)) (eq-eqb w root same) in
      record {
        says = subst (RightEntry k v root w) (sym at) same;
        at_root = λ _. at;
        none = λ other. absurd (other same);
        cut = λ other. absurd (other same);
        two = λ other. absurd (other same);
      })
      (λ other.
      let true_answer = says w (λ e. other (sym e)) in
      let whole = exactly k v root w (answer k v root w) true_answer in
      let at : cond (eqb w root) root_entry (entry_of (answer k v root w)) ≡ entry_of (answer k v root w) = cond-false (eqb w root) root_entry (entry_of (answer k v root w)) (ne_eqb w root other) in
      record {
        says = subst (RightEntry k v root w) (sym at) (entry_says w (answer k v root w) true_answer);
        at_root = λ same. absurd (other same);
        none = λ _ n. at ∙ ap entry_of (whole.none n);
        cut = λ _ e es r s. let c = whole.cut e es r s in (c.0, at ∙ ap entry_of c.1);
        two = λ _ one two p. let c = whole.two one two p in (c.2, at ∙ ap entry_of c.3);
      })
      (cases_eq w root)
