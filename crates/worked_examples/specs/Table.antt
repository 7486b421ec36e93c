-- Worked examples, in one table: answers on small networks by both cost kinds, and what some bytes mean as a sheet.
use Rattle.std.specs.Prelude.{◌≡◌, ℕ, true, List, [], ◌∷◌, pos, nat_eq}
use Rattle.costs.specs.declared.metres.Length.{Length}
use Rattle.costs.specs.declared.pairs.FirstThen.{FirstThen}
use Rattle.costs.specs.declared.pairs.PolesThenMetres.{PolesThenMetres}
use Rattle.costs.specs.Lengths.{length_ops, metres}
use Rattle.costs.specs.Pairs.{pair, pair_ops, poles_then_metres}
use Rattle.networks.specs.declared.model.Link.{Link}
use Rattle.networks.specs.Meaning.{Net}
use Rattle.layers.specs.Shown.{closed_over}
use Rattle.grids.specs.Streets.{Grid}
use Rattle.sheet_format.specs.Items.{header, bytes_of}
use Rattle.sheet_format.specs.Rules.{whole_record, within_limits}
use Rattle.sheet_format.specs.Sheets.{Outcome, sheet, fault, Means}
use Rattle.least_pairs.specs.Views.{view}
use Rattle.least_pairs.specs.Plans.{Answer, one_link, pair as two_routes, answer}

-- an example: an answer on a network by length or poles first, an answer by length on a street grid, or what bytes mean as a sheet
pub data Example : Type 0 where
  by_length : Net → ℕ → ℕ → Answer Length → Example
  by_poles : Net → ℕ → ℕ → Answer (FirstThen PolesThenMetres) → Example
  on_grid : ℕ → ℕ → ℕ → ℕ → ℕ → ℕ → ℕ → Answer Length → Example
  of_bytes : List ℕ → Outcome → Example

-- what an example says
abbrev pub Holds : Example → Type 0
Holds (by_length n root target a) = answer length_ops (view length_ops n) root target ≡ a
Holds (by_poles n root target a) = answer (pair_ops poles_then_metres) (view (pair_ops poles_then_metres) n) root target ≡ a
Holds (on_grid w h along across channels root target a) = (n : Net) → Grid w h along across channels n → answer length_ops (view length_ops n) root target ≡ a
Holds (of_bytes bytes o) = Means bytes o

-- a lit link with one channel, which is free
abbrev pub link : ℕ → ℕ → ℕ → ℕ → Link
link start end metres poles = record { start = start; end = end; metres = metres; poles = poles; channels = 1; taken = 0; lit = true }

-- six sites and seven links around an exchange
abbrev pub exchange : Net
exchange = record { sites = 6; links = link 0 1 100 0 ∷ link 0 3 150 0 ∷ link 1 2 150 0 ∷ link 1 4 100 0 ∷ link 3 4 150 0 ∷ link 2 5 150 0 ∷ link 4 5 100 0 ∷ [] }

-- three links between two sites, of which some run on poles
abbrev pub poles : Net
poles = record { sites = 2; links = link 0 1 10 10 ∷ link 0 1 40 0 ∷ link 0 1 25 5 ∷ [] }

-- the table
abbrev pub table : List Example
table =
    by_length exchange 0 5 (two_routes (0 ∷ 2 ∷ 5 ∷ []) (1 ∷ 4 ∷ 6 ∷ []) (metres (pos 800)))
    ∷ by_length exchange 0 4 (two_routes (1 ∷ 4 ∷ []) (0 ∷ 3 ∷ []) (metres (pos 500)))
    ∷ by_length exchange 0 2 (one_link 0)
    ∷ by_length (closed_over (λ k. nat_eq k 2) exchange) 0 5 (one_link 6)
    ∷ by_length poles 0 1 (two_routes (2 ∷ []) (0 ∷ []) (metres (pos 35)))
    ∷ by_poles poles 0 1 (two_routes (2 ∷ []) (1 ∷ []) (pair (pos 5) (pos 65)))
    ∷ on_grid 2 2 100 200 1 0 3 (two_routes (4 ∷ 2 ∷ []) (0 ∷ 6 ∷ []) (metres (pos 600)))
    ∷ of_bytes [] (fault whole_record 0)
    ∷ of_bytes (bytes_of (header 257 0)) (fault within_limits 0)
    ∷ of_bytes (bytes_of (header 256 0)) (sheet (record { sites = 256; count = 0; names = []; links = [] }))
    ∷ []
