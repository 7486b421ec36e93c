-- Sound links: the facts that the test tells, and what keeps a list sound.
use Rattle.std.proofs.Common.{rules, tests, ◌≡◌, ℕ, zero, suc, ◌<◌, ◌≤◌, Bool, true, List, [], ◌∷◌, ◌++◌, length, get_or, set, refl, arith}
use Rattle.networks.specs.declared.model.Link.{Link}
use Rattle.networks.specs.Meaning.{link_sound, all_sound}
use Rattle.networks.specs.Changing.{retaken, dimmed, remeasured}

-- the limits of a link among so many sites
pub record Limits (sites : ℕ) (l : Link) : Type 0 where
  pub start_low : l.start < sites
  pub end_low : l.end < sites
  pub apart : l.start ≡ l.end → ⊥
  pub metres_low : 1 ≤ l.metres
  pub metres_high : l.metres ≤ 1000000
  pub poles_high : l.poles ≤ l.metres
  pub channels_low : 1 ≤ l.channels
  pub channels_high : l.channels ≤ 255
  pub taken_high : l.taken ≤ l.channels

-- the test tells the limits
pub limits : (sites : ℕ) (l : Link) → link_sound sites l ≡ true → Limits sites l
unfolding link_sound
limits sites l h =
    record {
      start_low = search (rules, tests);
      end_low = search (rules, tests);
      apart = search (rules, tests);
      metres_low = search (rules, tests);
      metres_high = search (rules, tests);
      poles_high = search (rules, tests);
      channels_low = search (rules, tests);
      channels_high = search (rules, tests);
      taken_high = search (rules, tests);
    }

-- a link within its limits passes the test
pub within : (sites : ℕ) (l : Link) → Limits sites l → link_sound sites l ≡ true
unfolding link_sound
within sites l h = search (rules, tests)

-- other channels taken, not more than there are, leave a link sound
pub sound_retaken : (f : ℕ → ℕ) (sites : ℕ) (l : Link) → link_sound sites l ≡ true → f l.taken ≤ l.channels → link_sound sites (retaken f l) ≡ true
unfolding link_sound
sound_retaken f sites l h fits = search (rules, tests)

-- a dimmed link stays sound
pub sound_dimmed : (dark : Bool) (sites : ℕ) (l : Link) → link_sound sites l ≡ true → link_sound sites (dimmed dark l) ≡ true
unfolding link_sound
sound_dimmed dark sites l h = h

-- other metres, not fewer and at most 1,000,000, leave a link sound
pub sound_remeasured : (f : ℕ → ℕ) (sites : ℕ) (l : Link) → link_sound sites l ≡ true → l.metres ≤ f l.metres → f l.metres ≤ 1000000 → link_sound sites (remeasured f l) ≡ true
unfolding link_sound
sound_remeasured f sites l h more most = let t = limits sites l h in search (rules, tests, arith)

-- each link of a sound list is sound
pub sound_at : (sites : ℕ) (ls : List Link) (k : ℕ) (d : Link) → all_sound sites ls ≡ true → k < length ls → link_sound sites (get_or ls k d) ≡ true
sound_at sites [] k d h inside = absurd (omega arith)
sound_at sites (l ∷ ls) zero d h inside = search (rules, tests)
sound_at sites (l ∷ ls) (suc k) d h inside = search (rules, tests, arith, sound_at sites ls k d)

-- a sound link written into a sound list
pub sound_set : (sites : ℕ) (ls : List Link) (k : ℕ) (l : Link) → all_sound sites ls ≡ true → link_sound sites l ≡ true → all_sound sites (set ls k l) ≡ true
sound_set sites [] k l h e = refl
sound_set sites (x ∷ ls) zero l h e = search (rules, tests)
sound_set sites (x ∷ ls) (suc k) l h e = search (rules, tests, sound_set sites ls k l)

-- one sound link more at the end
pub sound_push : (sites : ℕ) (ls : List Link) (l : Link) → all_sound sites ls ≡ true → link_sound sites l ≡ true → all_sound sites (ls ++ l ∷ []) ≡ true
sound_push sites [] l h e = search (rules, tests)
sound_push sites (x ∷ ls) l h e = search (rules, tests, sound_push sites ls l)
