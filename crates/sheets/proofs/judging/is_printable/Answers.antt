-- What `all` answers is what the definition says of the bytes.
use Rattle.std.proofs.Common.{◌∙◌, rules, tests}
use Rattle.std.proofs.lemmas.Iterator.{YieldsList-from_slice}
use Rattle.std.proofs.lemmas.Iterator.Search.{all_from_yields_List}
use Rattle.sheets.proofs.Finding.{visible, printable_all}
use Rattle.sheets.proofs.judging.is_printable.Goals as goal

pub returns : goal.returns
returns c =
    all_from_yields_List visible _ _ _ c.all.ensures.ran (YieldsList-from_slice c.args.name.now cc) (λ x b q k. search (rules, tests)) ∙ printable_all c.args.name.now
