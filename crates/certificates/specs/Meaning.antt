-- What bytes mean: the certificate that they write, or the rule that they break first.
use Rattle.std.specs.Prelude.{◌≡◌, ℕ, true, false, List}
use Rattle.records.specs.Bytes.{cut_short}
use Rattle.certificates.specs.Format.{Fields, certificate_bytes, right_shape}
use Rattle.certificates.specs.Limits.{within, Fitting}

-- The three rules, in the order in which they are checked.
pub data Rule : Type 0 where
  whole_record : Rule
  certificate_shape : Rule
  field_limits : Rule

-- What reading bytes comes to: the fields of a certificate, or a broken rule.
pub data Outcome : Type 0 where
  certificate : Fields → Outcome
  fault : Rule → Outcome

-- Bytes that write fields of which one is outside its limits.
pub record Outside (bytes : List ℕ) : Type 0 where
  pub fields : Fields
  pub fitting : Fitting fields
  pub written : bytes ≡ certificate_bytes fields
  pub outside : within fields ≡ false

-- What bytes mean.
abbrev pub Means : List ℕ → Outcome → Type 0
Means bytes (certificate f) = (within f ≡ true) × (bytes ≡ certificate_bytes f)
Means bytes (fault whole_record) = cut_short bytes ≡ true
Means bytes (fault certificate_shape) = (cut_short bytes ≡ false) × (right_shape bytes ≡ false)
Means bytes (fault field_limits) = Outside bytes
