-- Both runs of a planning are sound jobs, so both keep the laws of a finished run.
use Rattle.std.proofs.Common.{ℕ, ◌<◌, eqb}
use Rattle.std.proofs.lemmas.Bool.{and_parts}
use Rattle.costs.specs.Costs.{Ops, Laws}
use Rattle.least_pairs.specs.Views.{View}
use Rattle.least_pairs.specs.Runs.{State}
use Rattle.least_pairs.specs.Laws.{RunLaws, Same}
use Rattle.least_pairs.specs.Plans.{first_job, second_job, first_run, second_run}
use Rattle.least_pairs.proofs.Sight.{SoundView}
use Rattle.least_pairs.proofs.Distances.{reduced_least}
use Rattle.least_pairs.proofs.Pieces.{joined_reached, joined_sym}
use Rattle.least_pairs.proofs.Second.{second_considered}
use Rattle.least_pairs.proofs.Running.{SoundJob}
use Rattle.least_pairs.proofs.Finishing.{run_laws}
use Rattle.least_pairs.proofs.Unique.{laws_determine}

module _ {C : Type 0} {k : Ops C} (laws : Laws k) (v : View C) (sight : SoundView k v) (root : ℕ) (inside : root < v.sites) where
  -- the first run is a sound job
  pub first_sound : SoundJob k (first_job v) root
  first_sound = record {
    begins = inside;
    ends = λ y S e lt c. sight.end e (and_parts (v.usable e) (eqb (v.start e) y) c).0;
    adds = λ y S e lt c. sight.least e (and_parts (v.usable e) (eqb (v.start e) y) c).0;
  }

  -- so it keeps the laws of a finished run
  pub first_laws : RunLaws k (first_job v) root (first_run k v root)
  unfolding first_run
  first_laws = run_laws laws first_sound

  -- the second run over what a first run left is a sound job
  pub second_sound : (first : State C) → RunLaws k (first_job v) root first → SoundJob k (second_job k v root first) root
  second_sound first fl = record {
    begins = inside;
    ends = λ y S e lt c. sight.end e (second_considered k v root first y S e c).usable;
    adds = λ y S e lt c.
        let x = second_considered k v root first y S e c in
        reduced_least laws sight fl e x.usable (joined_reached fl S (v.start e) y (joined_sym fl S y (v.start e) x.start_in));
  }

  -- so it keeps the laws of a finished run
  pub second_laws : (first : State C) → RunLaws k (first_job v) root first → RunLaws k (second_job k v root first) root (second_run k v root first)
  unfolding second_run
  second_laws first fl = run_laws laws (second_sound first fl)

  -- what keeps the laws of the first run is what the first run leaves
  pub first_determined : (s : State C) → RunLaws k (first_job v) root s → Same s (first_run k v root)
  first_determined s sl = laws_determine laws s (first_run k v root) sl first_laws

  -- and so of the second
  pub second_determined : (first : State C) → RunLaws k (first_job v) root first → (s : State C) → RunLaws k (second_job k v root first) root s → Same s (second_run k v root first)
  second_determined first fl s sl = laws_determine laws s (second_run k v root first) sl (second_laws first fl)
