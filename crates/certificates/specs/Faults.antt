-- What is refused of a certificate, in the list of all refusals.
use Rattle.refusals.specs.declared.Refusal.{Refusal}
use Rattle.refusals.specs.declared.Refusal.TheVariants as listed
use Rattle.certificates.specs.declared.faults.CertificateFault.{CertificateFault}
use Rattle.certificates.specs.declared.faults.CertificateFault.TheVariants as fault
use Rattle.certificates.specs.declared.faults.CertificateRefusal.{CertificateRefusal}
use Rattle.certificates.specs.declared.faults.CertificateRefusal.TheVariants as refusal

-- Which refusal of the list each fault of bytes is.
abbrev pub fault_refusal : CertificateFault → Refusal
fault_refusal (fault.CutShort place) = listed.CutShort place
fault_refusal (fault.WrongShape place) = listed.WrongShape place
fault_refusal fault.OutsideLimits = listed.FieldOutsideLimits

-- Which refusal of the list each refusal of a certificate is.
abbrev pub certificate_refusal : CertificateRefusal → Refusal
certificate_refusal refusal.BufferTooShort = listed.BufferTooShort
certificate_refusal refusal.OutsideLimits = listed.FieldOutsideLimits
