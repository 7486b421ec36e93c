-- What is read back follows from what the bytes mean, which is one thing.
use Rattle.std.proofs.Common.{Ok, rules}
use Rattle.sheets.specs.Reads.{Reads}
use Rattle.sheets.proofs.Going.{gives}
use Rattle.sheets.proofs.reading.read.Goals as goal

pub returns-in_err-sites-clause-back : goal.returns-in_err-sites-clause-back
returns-in_err-sites-clause-back c =
    let means : Reads c.args.sheet.now c.from_residual.result = search rules in
    λ f law same. gives c.args.sheet.now f law same c.from_residual.result means

pub returns-clause-back : goal.returns-clause-back
returns-clause-back c =
    let means : Reads c.args.sheet.now (Ok c.in_ok-gather.field-0) = search rules in
    λ f law same. gives c.args.sheet.now f law same (Ok c.in_ok-gather.field-0) means
