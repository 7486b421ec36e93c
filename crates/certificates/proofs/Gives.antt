-- What reading gives of bytes that were written.
use Rattle.std.proofs.Common.{◌≡◌, ℕ, true, false, ◌&&◌, eqb, List, length, Ok, Err, Result, MatchResult, IsErrAnd, subst, sym, ap, ◌∙◌}
use Rattle.std.proofs.lemmas.Bool.{and_from, eq-eqb}
use Rattle.std.proofs.lemmas.Result.{err_from_is_err_and}
use Rattle.records.specs.Bytes.{kind_of, payload_of, rest_of, First}
use Rattle.records.proofs.Cutting.{Bytes}
use Rattle.certificates.specs.Format.{Fields, certificate_bytes, fields_in, right_length, right_shape}
use Rattle.certificates.specs.Limits.{within}
use Rattle.certificates.specs.Meaning.{whole_record, certificate_shape, field_limits, certificate, fault, Means}
use Rattle.certificates.specs.Calls.{held, Made, ReadsFields, Reads, Gives}
use Rattle.certificates.specs.declared.certificate.Certificate.{Certificate}
use Rattle.certificates.specs.declared.faults.CertificateFault.{CertificateFault}
use Rattle.certificates.specs.declared.faults.CertificateFault.TheVariants as its
use Rattle.certificates.specs.declared.faults.CertificateRefusal.{CertificateRefusal}
use Rattle.certificates.specs.declared.faults.CertificateRefusal.TheVariants.{BufferTooShort, OutsideLimits}
use Rattle.certificates.proofs.Outcomes.{single_valued, means_fields, means_outside}

pub gives : (bytes : List ℕ) (f : Fields) → within f ≡ true → bytes ≡ certificate_bytes f → (r : Result Certificate CertificateFault) → Reads bytes r → Gives f r
gives bytes f law same (Ok c) h = let e = single_valued bytes (certificate (held c)) (certificate f) h (law, same) in cc
gives bytes f law same (Err (its.CutShort at)) h = let e = single_valued bytes (certificate f) (fault whole_record) (law, same) h.0 in cc
gives bytes f law same (Err (its.WrongShape at)) h = let e = single_valued bytes (certificate f) (fault certificate_shape) (law, same) h.0 in cc
gives bytes f law same (Err its.OutsideLimits) h = let e = single_valued bytes (certificate f) (fault field_limits) (law, same) h in cc

-- what is refused of the payload of a whole record of kind 16 with nothing after it is refused of the record
module _ (bytes : List ℕ) (kind : ℕ) (payload rest : List ℕ) (first : First bytes kind payload rest) (typed : Bytes bytes) (kind_is : kind ≡ 16) (ends : eqb (length rest) 0 ≡ true) where
  kind_stands : eqb (kind_of bytes) 16 ≡ true
  kind_stands = eq-eqb _ _ (sym first.kind_is ∙ kind_is)

  ends_here : eqb (length (rest_of bytes)) 0 ≡ true
  ends_here = ap (λ l. eqb (length l) 0) (sym first.rest_is) ∙ ends

  shape : right_length payload ≡ true → right_shape bytes ≡ true
  shape long = and_from _ _ kind_stands (and_from _ _ (ap right_length (sym first.payload_is) ∙ long) ends_here)

  misshapen : right_length payload ≡ false → right_shape bytes ≡ false
  misshapen wrong = λ i. kind_stands i && ((ap right_length (sym first.payload_is) ∙ wrong) i && ends_here i)

  pub refuses : (e : CertificateFault) → ReadsFields payload (Err e) → Reads bytes (Err e)
  refuses (its.CutShort at) h = absurd h
  refuses (its.WrongShape at) h = ((first.whole, misshapen h.0), h.1)
  refuses its.OutsideLimits h = means_outside bytes typed first.whole (shape h.0) (ap (λ p. within (fields_in p)) (sym first.payload_is) ∙ h.1)

  -- the fields of a payload of the right length are those of a certificate, or one is outside its limits
  module _ (long : right_length payload ≡ true) (f : Fields) (read : f ≡ fields_in payload) where
    same : f ≡ fields_in (payload_of bytes)
    same = read ∙ ap fields_in first.payload_is

    pub reads : (made : Result Certificate CertificateRefusal) (r : Result Certificate CertificateFault) (Q : CertificateRefusal → CertificateFault → Type 0) → Made f made → MatchResult made (λ c. r ≡ Ok c) (λ e. IsErrAnd r (Q e)) → ((e : CertificateRefusal) (y : CertificateFault) → Q e y → y ≡ its.OutsideLimits) → Reads bytes r
    reads (Ok c) r Q made is_ok outside =
        let P : Fields → Type 0 = λ g. Means bytes (certificate g) in
        let m : Reads bytes (Ok c) = subst P (sym (made.1 ∙ same)) (means_fields bytes typed first.whole (shape long) (ap within (sym same) ∙ made.0)) in
        subst (Reads bytes) (sym is_ok) m
    reads (Err OutsideLimits) r Q made is_err outside =
        let p = err_from_is_err_and r is_err in
        let m : Reads bytes (Err its.OutsideLimits) = means_outside bytes typed first.whole (shape long) (ap within (sym same) ∙ made) in
        subst (Reads bytes) (sym (p.1 ∙ ap Err (outside _ _ p.2))) m
    reads (Err BufferTooShort) r Q made is_err outside = absurd made
