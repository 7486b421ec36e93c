-- What a network is: a number of sites and a list of links, both counted from 0.
use Rattle.std.specs.Prelude.{◌≡◌, ℕ, ◌≤◌, Bool, true, false, not, ◌&&◌, List, [], ◌∷◌, length, ◌==◌, nat_le, nat_lt, slice_index_or}
use Rattle.networks.specs.declared.model.Link.{Link}

-- a network's meaning
pub record Net : Type 0 where
  pub sites : ℕ
  pub links : List Link

-- two different sites; 1 to 1,000,000 metres, of which some on poles; 1 to 255 channels, of which some are taken
unfoldable pub link_sound : ℕ → Link → Bool
link_sound sites l =
    ((nat_lt l.start sites && nat_lt l.end sites) && not (l.start == l.end))
    && ((nat_le 1 l.metres && nat_le l.metres 1000000) && nat_le l.poles l.metres)
    && ((nat_le 1 l.channels && nat_le l.channels 255) && nat_le l.taken l.channels)

-- every link of a list is sound among so many sites
abbrev pub all_sound : ℕ → List Link → Bool
all_sound sites [] = true
all_sound sites (l ∷ ls) = link_sound sites l && all_sound sites ls

-- 2 to 256 sites, at most 2,048 links, and every link sound
pub record Sound (n : Net) : Type 0 where
  pub fewest_sites : 2 ≤ n.sites
  pub most_sites : n.sites ≤ 256
  pub most_links : length n.links ≤ 2048
  pub each_link : all_sound n.sites n.links ≡ true

-- lit, and not all channels taken
abbrev pub usable : Link → Bool
usable l = l.lit && nat_lt l.taken l.channels

-- lit, and no channel taken
abbrev pub lit_link : ℕ → ℕ → ℕ → ℕ → ℕ → Link
lit_link start end metres poles channels = record { start = start; end = end; metres = metres; poles = poles; channels = channels; taken = 0; lit = true }

-- what is told past the last link: dark, of no length
abbrev pub no_link : Link
no_link = record { start = 0; end = 0; metres = 0; poles = 0; channels = 0; taken = 0; lit = false }

-- the link of a number
abbrev pub link_at : Net → ℕ → Link
link_at n k = slice_index_or n.links k no_link
