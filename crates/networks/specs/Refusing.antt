-- The refusals of networks in the list of all refusals.
use Rattle.std.specs.Prelude.{List, ℕ, codes, Some, None, Option}
use Rattle.networks.specs.declared.model.NetworkRefusal.{NetworkRefusal}
use Rattle.networks.specs.declared.model.NetworkRefusal.TheVariants as its
use Rattle.networks.specs.declared.building.BuildRefusal.{BuildRefusal}
use Rattle.networks.specs.declared.building.BuildRefusal.TheVariants as built
use Rattle.refusals.specs.Numbers.{rule}
use Rattle.refusals.specs.declared.Refusal.{Refusal}
use Rattle.refusals.specs.declared.Refusal.TheVariants as listed

-- which refusal of the list each case of a network's is
abbrev pub refusal : NetworkRefusal → Refusal
refusal its.LinkTooHigh = listed.LinkTooHigh
refusal its.NotUsable = listed.NotUsable
refusal its.NoneTaken = listed.NoneTaken

-- which it is where a network is made; want of memory has no number
abbrev pub build_refusal : BuildRefusal → Option Refusal
build_refusal built.OutsideLimits = Some listed.OutsideLimits
build_refusal built.Memory = None

-- what is printed of it: the rule that was broken, as text
abbrev pub build_rule : BuildRefusal → List ℕ
build_rule built.OutsideLimits = rule listed.OutsideLimits
build_rule built.Memory = codes "memory is wanting"
