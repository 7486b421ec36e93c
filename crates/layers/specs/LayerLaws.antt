-- The lemmas by which every layer keeps the laws of networks: proved, and stated here for the laws of src/; no contract cites them.
use Rattle.std.specs.Prelude.{◌≡◌, ℕ, ◌≤◌, Bool, true}
use Rattle.std.proofs.Common.{sym, ap, ◌∙◌}
use Rattle.networks.specs.declared.model.Link.{Link}
use Rattle.networks.specs.Meaning.{link_sound}
use Rattle.networks.specs.Changing.{retaken, dimmed, remeasured}
use Rattle.networks.proofs.Soundness.{limits, sound_dimmed, sound_remeasured}

-- links that show dark or with other metres
module _ (shown : ℕ → Link → Link) (dark : ℕ → Bool) (raised : ℕ → ℕ → ℕ) (shows : (k : ℕ) (l : Link) → shown k l ≡ dimmed (dark k) (remeasured (raised k) l)) where
  -- a sound link shows sound
  pub shown_sound : ((k m : ℕ) → m ≤ 1000000 → m ≤ raised k m) → ((k m : ℕ) → m ≤ 1000000 → raised k m ≤ 1000000) → (sites k : ℕ) (l : Link) → link_sound sites l ≡ true → link_sound sites (shown k l) ≡ true
  shown_sound more most sites k l h =
      let high = (limits sites l h).metres_high in
      ap (link_sound sites) (shows k l) ∙ sound_dimmed (dark k) sites (remeasured (raised k) l) (sound_remeasured (raised k) sites l h (more k l.metres high) (most k l.metres high))

  -- channels taken show as below
  pub shown_retaken : (g : ℕ → ℕ) (k : ℕ) (l : Link) → shown k (retaken g l) ≡ retaken g (shown k l)
  shown_retaken g k l = shows k (retaken g l) ∙ sym (ap (retaken g) (shows k l))
