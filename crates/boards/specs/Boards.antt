-- What a board has come to, read off the board.
use Rattle.networks.specs.Meaning.{Net}
use Rattle.layers.specs.Shown.{marks, amounts}
use Rattle.ledger.specs.Keeping.{rows_in}
use Rattle.registers.specs.States.{State}
use Rattle.boards.specs.declared.board.Board.{Board}

-- by what the network under both layers means
abbrev pub state : {N : Type 0} → (N → Net) → Board N → State
state meaning b = record { number = b.number; bottom = meaning b.pile.below.below; closed = marks b.pile; amounts = amounts b.pile.below; rows = rows_in b.ledger }
