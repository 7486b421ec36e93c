-- What is proved of the format.
use Rattle.std.specs.Prelude.{◌≡◌, ℕ, ◌<◌, List, slice_index}
use Rattle.certificates.specs.Format.{Fields, certificate_bytes}
use Rattle.certificates.specs.Limits.{Fitting}
use Rattle.certificates.specs.Meaning.{Outcome, Means}

-- The same bytes mean one thing.
abbrev pub SingleValued : Type 0
SingleValued = (bytes : List ℕ) (x y : Outcome) → Means bytes x → Means bytes y → x ≡ y

-- All bytes mean something: a certificate, or a broken rule.
abbrev pub Total : Type 0
Total = (bytes : List ℕ) → ((i : ℕ) → slice_index bytes i < 256) → (x : Outcome) × Means bytes x

-- Different fields have different bytes.
abbrev pub ToldApart : Type 0
ToldApart = (f g : Fields) → Fitting f → Fitting g → certificate_bytes f ≡ certificate_bytes g → f ≡ g
