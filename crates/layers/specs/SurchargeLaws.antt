-- The lemmas by which a surcharge keeps the laws of a change: proved, and stated here for the laws of src/; no contract cites them.
use Rattle.std.specs.Prelude.{◌≡◌, ℕ, ◌+◌, ◌≤◌, min, false}
use Rattle.std.proofs.Common.{sym, ap, arith}
use Rattle.std.proofs.Math.Bool.{and-true}
use Rattle.networks.specs.declared.model.Link.{Link}
use Rattle.networks.specs.Changing.{dimmed, remeasured}
use Rattle.layers.specs.Shown.{charging}

-- a surcharge changes metres alone
pub charged_shows : (amount : ℕ → ℕ) (k : ℕ) (l : Link) → charging amount k l ≡ dimmed false (remeasured (λ metres. min (metres + amount k) 1000000) l)
charged_shows amount k l =
    ap (λ b. record { start = l.start; end = l.end; metres = min (l.metres + amount k) 1000000; poles = l.poles; channels = l.channels; taken = l.taken; lit = b }) (sym (and-true l.lit))

-- metres within the limit are not cut
pub charged_more : (amount : ℕ → ℕ) (k m : ℕ) → m ≤ 1000000 → m ≤ min (m + amount k) 1000000
charged_more amount k m h = omega arith

-- metres are cut off at the limit
pub charged_most : (amount : ℕ → ℕ) (k m : ℕ) → min (m + amount k) 1000000 ≤ 1000000
charged_most amount k m = omega arith

-- an amount of zero leaves metres as they are
pub charged_none : (amount : ℕ → ℕ) → ((k : ℕ) → amount k ≡ 0) → (k m : ℕ) → m ≤ 1000000 → min (m + amount k) 1000000 ≡ m
charged_none amount nil k m h = let zero = nil k in omega arith
