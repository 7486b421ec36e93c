-- The longer texts, which the search leaves: each is its definition.
use mathlib.Core.Path.{sym, ap}
use Rattle.refusals.specs.Numbers.{rule}
use Rattle.refusals.proofs.Refusal.rule.Goals as goal

pub returns-in-WrongShape : goal.returns-in-WrongShape
returns-in-WrongShape c = sym (ap rule c.in-WrongShape.is)

pub returns-in-LinkTooHigh : goal.returns-in-LinkTooHigh
returns-in-LinkTooHigh c = sym (ap rule c.in-LinkTooHigh.is)

pub returns-in-NoneTaken : goal.returns-in-NoneTaken
returns-in-NoneTaken c = sym (ap rule c.in-NoneTaken.is)

pub returns-in-EightHeld : goal.returns-in-EightHeld
returns-in-EightHeld c = sym (ap rule c.in-EightHeld.is)
