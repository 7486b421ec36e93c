-- A run from its beginning to its end: what it leaves.
use Rattle.std.proofs.Common.{◌≡◌, ℕ, zero, suc, ◌<◌, true, false, eqb, ◌⊎◌, List, [], ◌∷◌, length, Some, None, Option, sym, refl, ap, subst, inl, inr, arith}
use Rattle.std.proofs.lemmas.Bool.{both_ways, eq-eqb, ne_eqb, cases_eq, cond-true, cond-false, true_from_ne_false}
use Rattle.costs.specs.Costs.{Ops, Laws}
use Rattle.costs.proofs.Order.{le_same}
use Rattle.least_pairs.specs.Runs.{Label, Job, State, has, settled, run, begun, least, outcome}
use Rattle.least_pairs.specs.Laws.{Moment, RunLaws}
use Rattle.least_pairs.proofs.Options.{some_none, some_same}
use Rattle.least_pairs.proofs.Listed.{occurs_has}
use Rattle.least_pairs.proofs.Moments.{moment_has, few}
use Rattle.least_pairs.proofs.Choosing.{Spent, Choice, chooses}
use Rattle.least_pairs.proofs.Running.{SoundJob, Running, one_settled}

-- nothing was settled in an empty order
no_moment : {A : Type 0} {y : ℕ} {S : List ℕ} → Moment [] y S → A
no_moment m = absurd (both_ways false refl (moment_has m))

module _ {C : Type 0} {k : Ops C} (laws : Laws k) (j : Job C) (root : ℕ) (sound : SoundJob k j root) where
  -- at the beginning only the root has a label
  only_root : (w : ℕ) (l : Label C) → (begun k root).labels w ≡ Some l → (w ≡ root) × (l ≡ record { cost = k.zero; link = 0; turn = root })
  only_root w l is =
      elim (cases_eq w root) [
        | inl q ↦
            (q, some_same is (cond-true (eqb w root) (Some (record { cost = k.zero; link = 0; turn = root })) None (eq-eqb w root q)))
        | inr q ↦
            absurd (some_none is (cond-false (eqb w root) (Some (record { cost = k.zero; link = 0; turn = root })) None (ne_eqb w root q)))
      ]

  -- what holds of every run holds at the beginning
  beginning : Running k j root (begun k root)
  beginning = record {
    root_label = cond-true (eqb root root) (Some (record { cost = k.zero; link = 0; turn = root })) None (eq-eqb root root refl);
    began = inl (refl, λ w l is. (only_root w l is).0);
    once = λ w. omega arith;
    labelled = λ w l is. subst (λ x. x < j.sites) (sym (only_root w l is).0) sound.begins;
    least_zero = λ w l is. le_same laws (sym (ap (λ x. x.cost) (only_root w l is).1));
    has_label = λ w h. absurd (both_ways false refl h);
    frontier = λ x w h. absurd (both_ways false refl h);
    rising = λ y S m. no_moment m;
    offers = λ y S e h. no_moment h.moment;
    reason = λ w m other is. absurd (other (only_root w m is).0);
    turn_first = λ w m other is. absurd (other (only_root w m is).0);
    earliest = λ w m other is. absurd (other (only_root w m is).0);
    chosen = λ y S m moment. no_moment moment;
  }

  -- what holds of a run holds after a turn
  after_turn : (s : State C) (o : Option (ℕ × C)) → Choice k s j.sites o → Running k j root s → Running k j root (settled k j s o)
  after_turn s None h r = r
  after_turn s (Some b) h r = one_settled laws j root sound s r b.0 b.1 h

  -- what holds of a run holds after any number of turns
  pub runs : (n : ℕ) → Running k j root (run k j n (begun k root))
  runs zero = beginning
  runs (suc n) =
      let s : State C = run k j n (begun k root) in
      after_turn s (least k s j.sites) (chooses laws s j.sites) (runs n)

  -- each turn settles a site, unless none is left
  turn_counts : (n : ℕ) (s : State C) (o : Option (ℕ × C)) → Choice k s j.sites o → (length s.order ≡ n) ⊎ Spent s j.sites → (length (settled k j s o).order ≡ suc n) ⊎ Spent (settled k j s o) j.sites
  turn_counts n s None h c = inr h
  turn_counts n s (Some b) h (inl c) = inl (omega arith)
  turn_counts n s (Some b) h (inr spent) = absurd (spent b.0 h.below h.unsettled h.label h.labelled)

  -- a run has settled as many sites as it had turns, unless none is left
  turns_count : (n : ℕ) → (length (run k j n (begun k root)).order ≡ n) ⊎ Spent (run k j n (begun k root)) j.sites
  turns_count zero = inl refl
  turns_count (suc n) =
      let s : State C = run k j n (begun k root) in
      turn_counts n s (least k s j.sites) (chooses laws s j.sites) (turns_count n)

  -- where as many sites are settled as there are, none is left
  all_settled : (s : State C) → Running k j root s → length s.order ≡ j.sites → (o : Option (ℕ × C)) → Choice k s j.sites o → Spent s j.sites
  all_settled s r full None h = h
  all_settled s r full (Some b) h =
      let more = one_settled laws j root sound s r b.0 b.1 h in
      let most = few j.sites (b.0 ∷ s.order) more.once (λ w some.
      let l = more.has_label w (occurs_has w (b.0 ∷ s.order) some) in more.labelled w l.0 l.1) in
      absurd (omega arith)

  -- at the end no site is left
  ends_spent : Spent (outcome k j root) j.sites
  ends_spent =
      elim (turns_count j.sites) [
        | inl full ↦ all_settled (outcome k j root) (runs j.sites) full (least k (outcome k j root) j.sites) (chooses laws (outcome k j root) j.sites)
        | inr spent ↦ spent
      ]

  -- a run that holds and has no site left is finished
  finished : (s : State C) → Running k j root s → Spent s j.sites → RunLaws k j root s
  finished s r spent =
      let settled_all : (w : ℕ) (l : Label C) → s.labels w ≡ Some l → has w s.order ≡ true = λ w l is.
      true_from_ne_false (has w s.order) (λ h. spent w (r.labelled w l is) h l is) in
      record {
        root_label = r.root_label;
        root_first =
            elim r.began [
              | inl b ↦ absurd (both_ways false refl (subst (λ o. has root o ≡ true) b.0 (settled_all root (record { cost = k.zero; link = 0; turn = root }) r.root_label)))
              | inr m ↦ m
            ];
        once = r.once;
        sites = λ w h. let l = r.has_label w h in r.labelled w l.0 l.1;
        has_label = r.has_label;
        is_settled = settled_all;
        rising = r.rising;
        offers = r.offers;
        reason = r.reason;
        turn_first = r.turn_first;
        earliest = r.earliest;
        chosen = r.chosen;
      }

-- what any sound run leaves
pub run_laws : {C : Type 0} {k : Ops C} {j : Job C} {root : ℕ} → Laws k → SoundJob k j root → RunLaws k j root (outcome k j root)
run_laws {C} {k} {j} {root} laws sound = finished laws j root sound (outcome k j root) (runs laws j root sound j.sites) (ends_spent laws j root sound)
