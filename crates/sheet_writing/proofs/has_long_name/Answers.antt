-- What `any` answers is what the definition says of the names.
use Rattle.std.proofs.Common.{◌∙◌, rules, tests}
use Rattle.std.proofs.lemmas.Iterator.{YieldsList-from_slice}
use Rattle.std.proofs.lemmas.Iterator.Search.{any_from_yields_List}
use Rattle.sheet_writing.proofs.Lengths.{is_long, beside_site, any_long}
use Rattle.sheet_writing.proofs.has_long_name.Goals as goal

pub returns : goal.returns
returns c =
    any_from_yields_List is_long _ _ _ c.any.ensures.ran (YieldsList-from_slice c.args.names.now cc)
    (λ x b q k. search (rules, tests, beside_site)) ∙ any_long c.args.names.now
