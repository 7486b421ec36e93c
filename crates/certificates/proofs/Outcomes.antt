-- All bytes mean one thing, and different fields have different bytes.
use Rattle.std.proofs.Common.{◌≡◌, ℕ, ◌<◌, true, false, List, get_or, inl, inr, sym, refl, ap, ◌∙◌}
use Rattle.std.proofs.lemmas.Bool.{both_ways, cases_Bool}
use Rattle.records.specs.Bytes.{cut_short, payload_of}
use Rattle.records.proofs.Cutting.{Bytes}
use Rattle.certificates.specs.Format.{Fields, certificate_bytes, fields_in, right_shape}
use Rattle.certificates.specs.Limits.{within, Fitting}
use Rattle.certificates.specs.Meaning.{whole_record, certificate_shape, field_limits, Outcome, certificate, fault, Means}
use Rattle.certificates.proofs.Back.{whole_back, shape_back, fields_back, fitting}
use Rattle.certificates.proofs.Forth.{bytes_are, fields_fit}

-- bytes that write fields
module _ (bytes : List ℕ) (f : Fields) (fits : Fitting f) (written : bytes ≡ certificate_bytes f) where
  pub whole : cut_short bytes ≡ false
  whole = ap cut_short written ∙ whole_back f fits

  pub shape : right_shape bytes ≡ true
  shape = ap right_shape written ∙ shape_back f fits

  pub fields : fields_in (payload_of bytes) ≡ f
  fields = ap (λ b. fields_in (payload_of b)) written ∙ fields_back f fits

pub told_apart : (f g : Fields) → Fitting f → Fitting g → certificate_bytes f ≡ certificate_bytes g → f ≡ g
told_apart f g p q e = sym (fields_back f p) ∙ ap (λ b. fields_in (payload_of b)) e ∙ fields_back g q

same_limits : (bytes : List ℕ) (f g : Fields) → Fitting f → Fitting g → bytes ≡ certificate_bytes f → bytes ≡ certificate_bytes g → within f ≡ true → within g ≡ false → ⊥
same_limits bytes f g p q x y yes_in not_in = both_ways (within g) not_in (ap within (told_apart g f q p (sym y ∙ x)) ∙ yes_in)

pub single_valued : (bytes : List ℕ) (x y : Outcome) → Means bytes x → Means bytes y → x ≡ y
single_valued bytes (certificate f) (certificate g) m n = ap certificate (told_apart f g (fitting f m.0) (fitting g n.0) (sym m.1 ∙ n.1))
single_valued bytes (certificate f) (fault whole_record) m n = absurd (both_ways _ (whole bytes f (fitting f m.0) m.1) n)
single_valued bytes (certificate f) (fault certificate_shape) m n = absurd (both_ways _ n.1 (shape bytes f (fitting f m.0) m.1))
single_valued bytes (certificate f) (fault field_limits) m n = absurd (same_limits bytes f n.fields (fitting f m.0) n.fitting m.1 n.written m.0 n.outside)
single_valued bytes (fault whole_record) (certificate g) m n = absurd (both_ways _ (whole bytes g (fitting g n.0) n.1) m)
single_valued bytes (fault whole_record) (fault whole_record) m n = refl
single_valued bytes (fault whole_record) (fault certificate_shape) m n = absurd (both_ways _ n.0 m)
single_valued bytes (fault whole_record) (fault field_limits) m n = absurd (both_ways _ (whole bytes n.fields n.fitting n.written) m)
single_valued bytes (fault certificate_shape) (certificate g) m n = absurd (both_ways _ m.1 (shape bytes g (fitting g n.0) n.1))
single_valued bytes (fault certificate_shape) (fault whole_record) m n = absurd (both_ways _ m.0 n)
single_valued bytes (fault certificate_shape) (fault certificate_shape) m n = refl
single_valued bytes (fault certificate_shape) (fault field_limits) m n = absurd (both_ways _ m.1 (shape bytes n.fields n.fitting n.written))
single_valued bytes (fault field_limits) (certificate g) m n = absurd (same_limits bytes g m.fields (fitting g n.0) m.fitting n.1 m.written n.0 m.outside)
single_valued bytes (fault field_limits) (fault whole_record) m n = absurd (both_ways _ (whole bytes m.fields m.fitting m.written) n)
single_valued bytes (fault field_limits) (fault certificate_shape) m n = absurd (both_ways _ n.1 (shape bytes m.fields m.fitting m.written))
single_valued bytes (fault field_limits) (fault field_limits) m n = refl

-- bytes of the right shape mean a certificate, or a field is outside its limits
module _ (bytes : List ℕ) (typed : Bytes bytes) (whole_is : cut_short bytes ≡ false) (shape_is : right_shape bytes ≡ true) where
  pub means_fields : within (fields_in (payload_of bytes)) ≡ true → Means bytes (certificate (fields_in (payload_of bytes)))
  means_fields h = (h, bytes_are bytes typed whole_is shape_is)

  pub means_outside : within (fields_in (payload_of bytes)) ≡ false → Means bytes (fault field_limits)
  means_outside h = record { fields = fields_in (payload_of bytes); fitting = fields_fit bytes typed whole_is shape_is; written = bytes_are bytes typed whole_is shape_is; outside = h }

pub total : (bytes : List ℕ) → ((i : ℕ) → get_or bytes i 0 < 256) → (x : Outcome) × Means bytes x
total bytes low =
    let f = fields_in (payload_of bytes) in
    let typed : Bytes bytes = λ i. record { fits = low i } in
    elim (cases_Bool (cut_short bytes)) [
      | inl h ↦ (fault whole_record, h)
      | inr h ↦ elim (cases_Bool (right_shape bytes)) [
        | inr s ↦ (fault certificate_shape, (h, s))
        | inl s ↦ elim (cases_Bool (within f)) [
          | inl w ↦ (certificate f, means_fields bytes typed h s w)
          | inr w ↦ (fault field_limits, means_outside bytes typed h s w)
        ]
      ]
    ]
