-- The least site that may be named next is one above the name's.
use Rattle.std.proofs.Common.{rules, tests}
use Rattle.sheet_format.proofs.Unique.{next_site_push}
use Rattle.sheets.proofs.judging.Tally.after_name.Goals as goal

pub returns : goal.returns
returns c = λ f is. search (rules, tests, next_site_push)
