-- The theorems, as they are stated.
use Rattle.costs.specs.Costs.{Ops, Laws}
use Rattle.least_pairs.specs.Views.{view}
use Rattle.least_pairs.specs.Plans.{first_run, answer}
use Rattle.least_pairs.specs.Theorems.{AnswersAreTrue, AnswersComeExactlyWhenTrue, RoutesVisitNoSiteTwice, AnswersAreRight, SurveysAreRight, SumsAreExact, RunsKeepTheirLaws}
use Rattle.least_pairs.proofs.Seen.{view_sound, cost_size}
use Rattle.least_pairs.proofs.Jobs.{first_laws, second_laws, first_determined, second_determined}
use Rattle.least_pairs.proofs.Fitting.{sums_fit}
use Rattle.least_pairs.proofs.Answering.{exactly, says, no_site_twice, survey_right}

module _ {C : Type 0} (k : Ops C) (laws : Laws k) where
  pub answers_are_true : AnswersAreTrue k
  answers_are_true n s root target hr ht apart = says laws (view k n) (view_sound laws n s) root hr target apart

  pub answers_exactly : AnswersComeExactlyWhenTrue k
  answers_exactly n s root target hr ht apart = exactly k (view k n) root target (answer k (view k n) root target) (answers_are_true n s root target hr ht apart)

  pub surveys_are_right : SurveysAreRight k
  surveys_are_right n s root hr w hw = survey_right laws (view k n) (view_sound laws n s) root hr w

  pub runs_keep_their_laws : RunsKeepTheirLaws k
  runs_keep_their_laws n s root hr =
      let v = view k n in
      let sight = view_sound laws n s in
      let fl = first_laws laws v sight root hr in
      let first = first_run k v root in
      (fl, first_determined laws v sight root hr, second_laws laws v sight root hr first fl, second_determined laws v sight root hr first fl)

  pub sums_are_exact : SumsAreExact k
  sums_are_exact n s root hr =
      let v = view k n in
      let sight = view_sound laws n s in
      let fl = first_laws laws v sight root hr in
      sums_fit laws sight (cost_size laws n s) s.most_sites fl (second_laws laws v sight root hr (first_run k v root) fl)

  pub no_route_visits_twice : RoutesVisitNoSiteTwice k
  no_route_visits_twice n s root target hr ht apart = no_site_twice laws (view k n) (view_sound laws n s) root hr target apart

  pub answers_are_right : AnswersAreRight k
  answers_are_right n s root target hr ht apart = record {
    says = answers_are_true n s root target hr ht apart;
    exactly = answers_exactly n s root target hr ht apart;
    no_site_twice = no_route_visits_twice n s root target hr ht apart;
  }
