-- The street grid: which networks are grids of so many columns and rows.
use Rattle.std.specs.Prelude.{◌≡◌, ℕ, zero, suc, ◌+◌, ◌-◌, ◌*◌, ◌/◌, ◌%◌, ◌<◌, ◌≤◌, Bool, true, false, cond, ◌&&◌, List, [], ◌∷◌, ◌++◌, length, Ok, Err, Result, ◌==◌, nat_le}
use Rattle.networks.specs.declared.model.Link.{Link}
use Rattle.networks.specs.declared.owned.OwnedNetwork.{OwnedNetwork}
use Rattle.networks.specs.declared.building.BuildRefusal.{BuildRefusal}
use Rattle.networks.specs.declared.building.BuildRefusal.TheVariants.{OutsideLimits, Memory}
use Rattle.networks.specs.Meaning.{Net, link_at}
use Rattle.networks.specs.Owning.{owned_meaning}

-- a lit link with no channel taken and none of its metres on poles
abbrev pub street : ℕ → ℕ → ℕ → ℕ → Link
street start end metres channels = record { start = start; end = end; metres = metres; poles = 0; channels = channels; taken = 0; lit = true }

-- a link from one site to another at number k, and the next link back
abbrev pub BothWays : Net → ℕ → ℕ → ℕ → ℕ → ℕ → Type 0
BothWays n k from to metres channels = (link_at n k ≡ street from to metres channels) × (link_at n (k + 1) ≡ street to from metres channels)

-- w columns and h rows: row i, column j is site s = i w + j. Along a row, link 2 (s - i) runs to the next site and the next link back; across, after those, link 2 s runs to the site of the next row and the next link back
pub record Grid (w h along across channels : ℕ) (n : Net) : Type 0 where
  pub sites : n.sites ≡ w * h
  pub count : length n.links ≡ 2 * (h * (w - 1)) + 2 * (w * (h - 1))
  pub rows : (i j : ℕ) → i < h → j < w - 1 → BothWays n (2 * (i * w + j - i)) (i * w + j) (i * w + j + 1) along channels
  pub columns : (i j : ℕ) → i < h - 1 → j < w → BothWays n (2 * (h * (w - 1)) + 2 * (i * w + j)) (i * w + j) (i * w + j + w) across channels

-- 2 to 16 columns and rows, lengths of 1 to 1,000,000 metres, 1 to 255 channels
unfoldable pub grid_within : ℕ → ℕ → ℕ → ℕ → ℕ → Bool
grid_within w h along across channels =
    ((nat_le 2 w && nat_le w 16) && (nat_le 2 h && nat_le h 16))
    && ((nat_le 1 along && nat_le along 1000000) && (nat_le 1 across && nat_le across 1000000))
    && (nat_le 1 channels && nat_le channels 255)

-- a grid is made exactly where every number is within its limits and there is memory
abbrev pub Made : ℕ → ℕ → ℕ → ℕ → ℕ → Result OwnedNetwork BuildRefusal → Type 0
Made w h along across channels (Ok n) = (grid_within w h along across channels ≡ true) × Grid w h along across channels (owned_meaning n)
Made w h along across channels (Err OutsideLimits) = grid_within w h along across channels ≡ false
Made w h along across channels (Err Memory) = grid_within w h along across channels ≡ true

-- the first m streets, each of two links: from a site to the one `step` further, and back
abbrev pub two_ways : (ℕ → ℕ) → ℕ → ℕ → ℕ → ℕ → List Link
two_ways from step metres channels zero = []
two_ways from step metres channels (suc m) = two_ways from step metres channels m ++ street (from m) (from m + step) metres channels ∷ street (from m + step) (from m) metres channels ∷ []

-- the site where the m-th street along a row begins, in a grid of w columns
abbrev pub row_site : ℕ → ℕ → ℕ
row_site w m = m + m / (w - 1)

-- a network of so many sites and these links
abbrev pub net : ℕ → List Link → Net
net sites links = record { sites = sites; links = links }

-- 2 to 16 columns and rows, streets of 1 to 1,000,000 metres with 1 to 255 channels
pub record Plan (w h metres channels : ℕ) : Type 0 where
  pub few_columns : 2 ≤ w
  pub most_columns : w ≤ 16
  pub few_rows : 2 ≤ h
  pub most_rows : h ≤ 16
  pub some_metres : 1 ≤ metres
  pub most_metres : metres ≤ 1000000
  pub some_channels : 1 ≤ channels
  pub most_channels : channels ≤ 255

-- the number beside k: the next where k is even, else the one before
abbrev pub beside : ℕ → ℕ
beside k = cond (k % 2 == 0) (k + 1) (k - 1)

-- the link the other way
abbrev pub turned : Link → Link
turned l = record { start = l.end; end = l.start; metres = l.metres; poles = l.poles; channels = l.channels; taken = l.taken; lit = l.lit }

-- every grid within its limits has 2 h (w - 1) + 2 w (h - 1) links, each with its return link beside it, and is the only one of its numbers
abbrev pub ReturnLinksStandBeside : Type 0
ReturnLinksStandBeside =
    (w h along across channels : ℕ) → grid_within w h along across channels ≡ true → (n : Net) → Grid w h along across channels n →
    (length n.links ≡ 2 * h * (w - 1) + 2 * w * (h - 1))
    × ((k : ℕ) → k < length n.links → (beside k < length n.links) × (link_at n (beside k) ≡ turned (link_at n k)))
    × ((m : Net) → Grid w h along across channels m → n ≡ m)
