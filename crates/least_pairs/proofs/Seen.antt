-- The view of a sound network by a lawful cost kind is sound.
use Rattle.std.proofs.Common.{◌≡◌, ℕ, ◌<◌, ◌≤◌, true, length, sym, ap, ◌∙◌, ⊎_elim}
use Rattle.std.proofs.lemmas.List.{get_or_past}
use Rattle.std.proofs.lemmas.Bool.{cases_lt, false≢true}
use Rattle.costs.specs.Costs.{Ops, Laws}
use Rattle.costs.specs.Links.{Within}
use Rattle.networks.specs.declared.model.Link.{Link}
use Rattle.networks.specs.Meaning.{Net, Sound, link_at, usable, no_link}
use Rattle.networks.proofs.Soundness.{Limits, limits, sound_at}
use Rattle.least_pairs.specs.Views.{view}
use Rattle.least_pairs.proofs.Sight.{SoundView}

-- a usable link of a network is one of its links
pub usable_inside : (n : Net) (e : ℕ) → usable (link_at n e) ≡ true → e < length n.links
usable_inside n e h =
    ⊎_elim (λ lt. lt) (λ past. absurd (false≢true (sym (ap usable (get_or_past n.links e no_link past)) ∙ h))) (cases_lt e (length n.links))

-- a usable link of a sound network is within its limits
pub usable_limits : (n : Net) → Sound n → (e : ℕ) → usable (link_at n e) ≡ true → Limits n.sites (link_at n e)
usable_limits n s e h = limits n.sites (link_at n e) (sound_at n.sites n.links e no_link s.each_link (usable_inside n e h))

-- the lengths of a link within its limits are within theirs
pub within_lengths : (sites : ℕ) (l : Link) → Limits sites l → Within (record { metres = l.metres; poles = l.poles })
within_lengths sites l h = record { some = h.metres_low; most = h.metres_high; carried = h.poles_high }

module _ {C : Type 0} {k : Ops C} (laws : Laws k) (n : Net) (s : Sound n) where
  pub view_sound : SoundView k (view k n)
  view_sound = record {
    link = λ e h. usable_inside n e h;
    start = λ e h. (usable_limits n s e h).start_low;
    end = λ e h. (usable_limits n s e h).end_low;
    apart = λ e h. (usable_limits n s e h).apart;
    least = λ e h. laws.link_least (record { metres = (link_at n e).metres; poles = (link_at n e).poles }) (within_lengths n.sites (link_at n e) (usable_limits n s e h));
  }

  -- the cost of a usable link has a size of at most 1,000,000
  pub cost_size : (e : ℕ) → (view k n).usable e ≡ true → k.size ((view k n).cost e) ≤ 1000000
  cost_size e h = laws.size_link (record { metres = (link_at n e).metres; poles = (link_at n e).poles }) (within_lengths n.sites (link_at n e) (usable_limits n s e h))
