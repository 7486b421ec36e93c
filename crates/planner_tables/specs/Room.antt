-- Whether the tables that are lent are long enough.
use Rattle.std.specs.Prelude.{Bool, ◌&&◌, List, [], ◌∷◌, ℕ, leb, length}
use Rattle.std.specs.List.{list_all}
use Rattle.planner_tables.specs.declared.tables.Tables.{Tables}

-- whether none of some lengths is below the number of sites
abbrev pub all_fit : ℕ → List ℕ → Bool
all_fit sites lengths = list_all (λ l. leb sites l) lengths

-- whether the tables of the first run, those of the second, and the other working tables all fit
abbrev pub lengths_fit : ℕ → List ℕ → List ℕ → List ℕ → Bool
lengths_fit sites first second others = all_fit sites first && (all_fit sites second && all_fit sites others)

-- whether every working table has as many entries as there are sites, and the marks room for as many
abbrev pub long_enough : {C M : Type 0} → ℕ → (M → ℕ) → Tables C M → Bool
long_enough sites rooms t =
    lengths_fit sites
    (length t.distance.now ∷ length t.tree.now ∷ length t.parents.now ∷ length t.order.now ∷ [])
    (length t.label.now ∷ length t.entry.now ∷ length t.turns.now ∷ length t.struck.now ∷ [])
    (length t.piece.now ∷ length t.part.now ∷ length t.queue.now ∷ rooms t.marks.now ∷ [])
