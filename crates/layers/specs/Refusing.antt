-- The surcharge layer's refusals: which each is in the list of all refusals, and when it comes.
use Rattle.std.specs.Prelude.{ℕ, cond, length, Ok, Err, Result, nat_le, nat_lt}
use Rattle.networks.specs.Meaning.{Net}
use Rattle.layers.specs.declared.refusing.SurchargeRefusal.{SurchargeRefusal}
use Rattle.layers.specs.declared.refusing.SurchargeRefusal.TheVariants as its
use Rattle.refusals.specs.declared.Refusal.{Refusal}
use Rattle.refusals.specs.declared.Refusal.TheVariants as listed

-- which refusal of the list each case is
abbrev pub refusal : SurchargeRefusal → Refusal
refusal its.LinkTooHigh = listed.LinkTooHigh
refusal its.OutsideLimits = listed.OutsideLimits

-- an amount is set on a link of the network, up to 1,000,000
abbrev pub surcharge_answer : Net → ℕ → ℕ → Result (Unit {0}) SurchargeRefusal
surcharge_answer n k amount = cond (nat_lt k (length n.links)) (cond (nat_le amount 1000000) (Ok tt) (Err its.OutsideLimits)) (Err its.LinkTooHigh)
