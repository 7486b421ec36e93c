-- What a board has come to.
use Rattle.std.specs.Prelude.{ℕ, Bool, false}
use Rattle.networks.specs.Meaning.{Net}
use Rattle.piles.specs.Piles.{piled}
use Rattle.ledger.specs.Rows.{Entry, vacant}

-- its number, the network under both layers, which links are closed, the amounts on links, and what stands in each circuit's row
pub record State : Type 0 where
  pub number : ℕ
  pub bottom : Net
  pub closed : ℕ → Bool
  pub amounts : ℕ → ℕ
  pub rows : ℕ → Entry

-- the network that it shows, and over which it plans
abbrev pub shown : State → Net
shown s = piled s.closed s.amounts s.bottom

-- a board just begun over a network
abbrev pub begun : ℕ → Net → State
begun number given = record { number = number; bottom = given; closed = λ k. false; amounts = λ k. 0; rows = λ c. vacant }
