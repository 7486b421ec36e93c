-- What making, writing and reading a certificate give.
use Rattle.std.specs.Prelude.{◌≡◌, ℕ, ◌<◌, true, false, List, length, take, drop, Ok, Err, Result}
use Rattle.certificates.specs.Format.{Fields, certificate_bytes, fields_in, right_length}
use Rattle.certificates.specs.Limits.{within}
use Rattle.certificates.specs.Meaning.{whole_record, certificate_shape, field_limits, certificate, fault, Means}
use Rattle.certificates.specs.Certificates.{fields_of}
use Rattle.certificates.specs.declared.certificate.Certificate.{Certificate}
use Rattle.certificates.specs.declared.fields.CertificateFields.{CertificateFields}
use Rattle.certificates.specs.declared.faults.CertificateFault.{CertificateFault}
use Rattle.certificates.specs.declared.faults.CertificateFault.TheVariants as its
use Rattle.certificates.specs.declared.faults.CertificateRefusal.{CertificateRefusal}
use Rattle.certificates.specs.declared.faults.CertificateRefusal.TheVariants.{BufferTooShort, OutsideLimits}

-- The fields of a certificate.
abbrev pub held : Certificate → Fields
held c = fields_of c.fields

-- Fields within the limits make a certificate that holds them; all others are refused.
abbrev pub Made : Fields → Result Certificate CertificateRefusal → Type 0
Made f (Ok c) = (within f ≡ true) × (held c ≡ f)
Made f (Err OutsideLimits) = within f ≡ false
Made f (Err BufferTooShort) = ⊥

-- The certificate's bytes stand at the front of the buffer, and the rest is as it was; a buffer too short for them is left as it was.
abbrev pub Wrote : Fields → List ℕ → Result ℕ CertificateRefusal → List ℕ → Type 0
Wrote f before (Ok count) after = (count ≡ length (certificate_bytes f)) × (take count after ≡ certificate_bytes f) × (drop count after ≡ drop count before)
Wrote f before (Err BufferTooShort) after = (length before < length (certificate_bytes f)) × (after ≡ before)
Wrote f before (Err OutsideLimits) after = ⊥

-- The bytes that were written are those of no other fields.
abbrev pub Only : Fields → Result ℕ CertificateRefusal → List ℕ → Type 0
Only f (Ok count) after = (g : Fields) → within g ≡ true → take count after ≡ certificate_bytes g → g ≡ f
Only f (Err e) after = Unit {0}

-- What reading a payload gives: the fields that it writes; or its length is wrong; or the length is right, and a field is outside its limits.
abbrev pub ReadsFields : List ℕ → Result CertificateFields CertificateFault → Type 0
ReadsFields payload (Ok f) = (right_length payload ≡ true) × (fields_of f ≡ fields_in payload)
ReadsFields payload (Err (its.CutShort place)) = ⊥
ReadsFields payload (Err (its.WrongShape place)) = (right_length payload ≡ false) × (place ≡ 0)
ReadsFields payload (Err its.OutsideLimits) = (right_length payload ≡ true) × (within (fields_in payload) ≡ false)

-- What reading gives: the certificate that the bytes mean, or the fault that they mean, at the record's place.
abbrev pub Reads : List ℕ → Result Certificate CertificateFault → Type 0
Reads bytes (Ok c) = Means bytes (certificate (held c))
Reads bytes (Err (its.CutShort place)) = Means bytes (fault whole_record) × (place ≡ 0)
Reads bytes (Err (its.WrongShape place)) = Means bytes (fault certificate_shape) × (place ≡ 0)
Reads bytes (Err its.OutsideLimits) = Means bytes (fault field_limits)

-- What reading the writing of fields gives: those fields.
abbrev pub Gives : Fields → Result Certificate CertificateFault → Type 0
Gives f (Ok c) = held c ≡ f
Gives f (Err why) = ⊥
