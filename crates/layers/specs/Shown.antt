-- What each layer shows, as one function of its table and of the meaning below.
use Rattle.std.specs.Prelude.{ℕ, ◌+◌, min, Bool, false, slice_index, slice_index_or}
use Rattle.networks.specs.declared.model.Link.{Link}
use Rattle.networks.specs.Meaning.{Net}
use Rattle.networks.specs.Changing.{changed, dimmed, remeasured}
use Rattle.layers.specs.declared.layer.Layer.{Layer}
use Rattle.layers.specs.declared.closed.Closings.{Closings}
use Rattle.layers.specs.declared.surcharged.Surcharges.{Surcharges}

-- whether a link is closed, by its number
abbrev pub is_closed : Closings → ℕ → Bool
is_closed c k = slice_index_or c.closed k false

-- the same of a closing layer
abbrev pub marks : {N : Type 0} → Layer N Closings → ℕ → Bool
marks c k = is_closed c.change k

-- a link as a closing shows it: dark where it is closed
abbrev pub closing : (ℕ → Bool) → ℕ → Link → Link
closing closed k l = dimmed (closed k) l

-- a network with the closed links dark
abbrev pub closed_over : (ℕ → Bool) → Net → Net
closed_over closed n = changed (closing closed) n

-- the amount on a link, by its number
abbrev pub amount_on : Surcharges → ℕ → ℕ
amount_on s k = slice_index s.amounts k

-- the same of a surcharge layer
abbrev pub amounts : {N : Type 0} → Layer N Surcharges → ℕ → ℕ
amounts s k = amount_on s.change k

-- a link as a surcharge shows it: its amount added to its metres, cut off at 1,000,000
abbrev pub charging : (ℕ → ℕ) → ℕ → Link → Link
charging amount k l = remeasured (λ metres. min (metres + amount k) 1000000) l

-- a network with each link's amount added to its metres
abbrev pub charged_over : (ℕ → ℕ) → Net → Net
charged_over amount n = changed (charging amount) n
