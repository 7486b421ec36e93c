-- The theorem follows from the definition and from uniqueness.
use Rattle.std.proofs.Common.{refl}
use Rattle.sheet_format.specs.Sheets.{written, sheet}
use Rattle.sheet_format.proofs.Unique.{unique}
use Rattle.sheet_format.proofs.written_means_stands.Goals as goal

pub returns : goal.returns
returns c = λ f law. ((law, refl), λ x m. unique (written f) x (sheet f) m (law, refl))
