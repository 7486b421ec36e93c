-- Each example of the table is computed; on the grid, by what its numbers determine.
use Rattle.std.proofs.Common.{◌≡◌, true, [], ◌∷◌, pos, refl, ap, arith}
use Rattle.std.specs.List.{AllByRecursion as All}
use Rattle.costs.specs.Lengths.{length_ops, metres}
use Rattle.networks.specs.Meaning.{Net}
use Rattle.grids.specs.Streets.{Grid, grid_within, street}
use Rattle.grids.proofs.Whole.{plans, is_grid, same_grid}
use Rattle.sheet_format.specs.Items.{header, bytes_of}
use Rattle.sheet_format.specs.Rules.{unbegun}
use Rattle.least_pairs.specs.Views.{view}
use Rattle.least_pairs.specs.Plans.{pair as two_routes, answer, first_run, second_run, pair_read}
use Rattle.worked_examples.specs.Table.{Holds, table}

-- the eight links of the two by two grid
abbrev square : Net
square = record { sites = 4; links = street 0 1 100 1 ∷ street 1 0 100 1 ∷ street 2 3 100 1 ∷ street 3 2 100 1 ∷ street 0 2 200 1 ∷ street 2 0 200 1 ∷ street 1 3 200 1 ∷ street 3 1 200 1 ∷ [] }

-- its numbers are within their limits
inside : grid_within 2 2 100 200 1 ≡ true
unfolding grid_within
inside = refl

-- it is the grid of its numbers
square_is : Grid 2 2 100 200 1 square
square_is = is_grid 200 (plans 2 2 100 200 1 inside).0 square refl

-- so every grid of these numbers has its answer
on_square : (n : Net) → Grid 2 2 100 200 1 n → answer length_ops (view length_ops n) 0 3 ≡ two_routes (4 ∷ 2 ∷ []) (0 ∷ 6 ∷ []) (metres (pos 600))
unfolding answer first_run second_run pair_read
on_square n g = ap (λ m. answer length_ops (view length_ops m) 0 3) (same_grid 200 (plans 2 2 100 200 1 inside).0 n square g square_is)

pub examples : All Holds table
unfolding answer first_run second_run pair_read
examples = (
  refl,
  (
    refl,
    (
      refl,
      (
        refl,
        (
          refl,
          (
            refl,
            (
              on_square,
              (
                record { before = unbegun; rest = []; lawful = tt; split = refl; at_place = refl; breaks = refl },
                (
                  record { before = unbegun; rest = bytes_of (header 257 0); lawful = tt; split = refl; at_place = refl; breaks = refl },
                  ((record { beginning = record { head = refl; names = tt; rising = tt; links = refl; unused = tt; number = omega arith }; complete = refl }, refl), tt),
                ),
              ),
            ),
          ),
        ),
      ),
    ),
  ),
)
