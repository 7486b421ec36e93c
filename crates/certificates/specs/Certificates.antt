-- The fields that a value of the code holds.
use Rattle.certificates.specs.Format.{Fields}
use Rattle.certificates.specs.declared.fields.CertificateFields.{CertificateFields}

-- The fields of a certificate, or of one that is yet to be checked.
abbrev pub fields_of : CertificateFields → Fields
fields_of f = record { circuit = f.circuit; root = f.root; target = f.target; metres = f.metres; poles = f.poles; one = f.one.items; two = f.two.items }
