-- What the board of a desk has come to, read off the desk.
use Rattle.networks.specs.Meaning.{Net}
use Rattle.registers.specs.States.{State}
use Rattle.boards.specs.Boards.{state}
use Rattle.desks.specs.declared.desk.Desk.{Desk}

-- by what the network under both layers means
abbrev pub desk_state : {N : Type 0} → (N → Net) → Desk N → State
desk_state meaning d = state meaning d.board
