-- Both runs of a planning can be run, and what they leave.
use Rattle.std.proofs.Common.{◌≡◌, ℕ, ◌<◌, ◌≤◌, true, not, ◌&&◌, eqb, List, reverse, length, take, Some, None, Option, refl, subst}
use Rattle.std.proofs.lemmas.Bool.{and_parts}
use Rattle.costs.specs.Costs.{Ops, Laws}
use Rattle.networks.specs.Meaning.{Net, Sound}
use Rattle.least_pairs.specs.Views.{View, view, without}
use Rattle.least_pairs.specs.Plans.{first_job, second_job, first_run, second_run}
use Rattle.least_pairs.specs.Sizing.{SumsFit}
use Rattle.least_pairs.proofs.Sight.{SoundView}
use Rattle.least_pairs.proofs.Seen.{view_sound, cost_size}
use Rattle.least_pairs.proofs.Jobs.{first_sound, first_laws, second_sound, second_laws}
use Rattle.least_pairs.proofs.Fitting.{sums_fit}
use Rattle.least_pairs.specs.Runs.{Job, outcome}
use Rattle.runs.specs.Tables.{Holds}
use Rattle.runs.specs.Turns.{Runnable}
use Rattle.stages.specs.First.{cut}
use Rattle.running.specs.Left.{Left}

-- a view with a link left out is sound where the whole is
pub sound_without : {C : Type 0} {k : Ops C} (v : View C) → SoundView k v → (f : ℕ) → SoundView k (without f v)
sound_without v sight f = record {
  link = λ e h. sight.link e (whole e h);
  start = λ e h. sight.start e (whole e h);
  end = λ e h. sight.end e (whole e h);
  apart = λ e h. sight.apart e (whole e h);
  least = λ e h. sight.least e (whole e h);
}
  where
    whole : (e : ℕ) → (v.usable e && not (eqb e f)) ≡ true → v.usable e ≡ true
    whole e h = (and_parts (v.usable e) (not (eqb e f)) h).0

module _ {C : Type 0} {k : Ops C} (laws : Laws k) (v : View C) (sight : SoundView k v) (small : (e : ℕ) → v.usable e ≡ true → k.size (v.cost e) ≤ 1000000) (most : v.sites ≤ 256) (root : ℕ) (inside : root < v.sites) where
  -- the sums of both runs
  sums : SumsFit k v root (first_run k v root) (second_run k v root (first_run k v root))
  sums = let fl = first_laws laws v sight root inside in sums_fit laws sight small most fl (second_laws laws v sight root inside (first_run k v root) fl)

  -- the first run
  pub first_runnable : Runnable k (first_job v) root
  unfolding first_run
  first_runnable =
      let sound = first_sound laws v sight root inside in
      record {
        begins = inside;
        ends = sound.ends;
        adds = sound.adds;
        exact = λ y S e l c is. (sums.offered_distance y S e l c is).1;
      }

  -- the second run
  pub second_runnable : Runnable k (second_job k v root (first_run k v root)) root
  unfolding second_run
  second_runnable =
      let first = first_run k v root in
      let sound = second_sound laws v sight root inside first (first_laws laws v sight root inside) in
      record {
        begins = inside;
        ends = sound.ends;
        adds = sound.adds;
        exact = λ y S e l c is. (sums.offered_label y S e l c is).1;
      }

module _ {C : Type 0} {k : Ops C} (laws : Laws k) (n : Net) (s : Sound n) (root : ℕ) (inside : root < n.sites) where
  -- the first run over a network
  pub whole_runnable : Runnable k (first_job (view k n)) root
  whole_runnable = first_runnable laws (view k n) (view_sound laws n s) (cost_size laws n s) s.most_sites root inside

  -- the first run over a network with a link left out
  pub without_runnable : (f : ℕ) → Runnable k (first_job (without f (view k n))) root
  without_runnable f = first_runnable laws (without f (view k n)) (sound_without (view k n) (view_sound laws n s) f) (λ e h. cost_size laws n s e (and_parts ((view k n).usable e) (not (eqb e f)) h).0) s.most_sites root inside

  -- the second run over a network
  pub again_runnable : Runnable k (second_job k (view k n) root (first_run k (view k n) root)) root
  again_runnable = second_runnable laws (view k n) (view_sound laws n s) (cost_size laws n s) s.most_sites root inside

  -- the first run over a network with a link left out or none
  pub cut_runnable : (o : Option ℕ) → Runnable k (first_job (cut o (view k n))) root
  cut_runnable None = whole_runnable
  cut_runnable (Some f) = without_runnable f

-- a link left out takes no site away
pub cut_sites : {C : Type 0} (o : Option ℕ) (v : View C) → (cut o v).sites ≡ v.sites
cut_sites None v = refl
cut_sites (Some f) v = refl

-- what a run leaves, by an equal job
pub left_by : {C : Type 0} {k : Ops C} {i j : Job C} (root : ℕ) {costs : List C} {links turns settled : List ℕ} {number : ℕ} → i ≡ j → Holds k i.sites costs links turns (outcome k i root).labels → number ≡ length (outcome k i root).order → reverse (take number settled) ≡ (outcome k i root).order → Left k j.sites (outcome k j root) costs links turns settled number
left_by {C} {k} {i} {j} root {costs} {links} {turns} {settled} {number} same labels count order =
    subst (λ z. Left k z.sites (outcome k z root) costs links turns settled number) same (record { labels = labels; count = count; order = order })
