-- The bytes of a certificate give its fields back.
use Rattle.std.proofs.Common.{◌≡◌, ℕ, ◌+◌, ◌*◌, ◌<◌, ◌≤◌, true, false, ltb, List, [], ◌∷◌, ◌++◌, length, drop, sym, ap, ◌∙◌, append-nil, arith}
use Rattle.std.specs.List.{AllByRecursion as All}
use Rattle.std.proofs.lemmas.List.{length-append, drop-drop, drop_at}
use Rattle.std.proofs.lemmas.Bool.Decides.{nat_tests}
use Rattle.std.proofs.lemmas.Bool.{and_from, and_parts, eq-eqb, le-leb, ltb-true}
use Rattle.records.specs.Bytes.{cut_short, payload_of, rest_of}
use Rattle.records.proofs.Numbers.{of_le16, of_le32}
use Rattle.records.proofs.Round.{whole_again, kind_again, payload_again, rest_again}
use Rattle.certificates.specs.Format.{Fields, route_bytes, payload, certificate_bytes, count_one, count_two, links_in, fields_in, right_length, right_shape}
use Rattle.certificates.specs.Limits.{links_sound, within, Fitting}
use Rattle.certificates.proofs.Routes.{length_route, links_back}

pub length_payload : (f : Fields) → length (payload f) ≡ 18 + 2 * (length f.one + length f.two)
length_payload f = omega (arith, length-append (route_bytes f.one) (route_bytes f.two), length_route f.one, length_route f.two)

-- what the bytes of some fields read as
module _ (f : Fields) (fits : Fitting f) where
  one_again : count_one (payload f) ≡ length f.one
  one_again = of_le16 (length f.one) (omega (arith, fits.size))

  two_again : count_two (payload f) ≡ length f.two
  two_again = of_le16 (length f.two) (omega (arith, fits.size))

  pub length_again : right_length (payload f) ≡ true
  length_again = and_from _ _ (le-leb 18 (length (payload f)) (omega (arith, length_payload f))) (eq-eqb (length (payload f)) (18 + 2 * (count_one (payload f) + count_two (payload f))) (omega (arith, length_payload f, one_again, two_again)))

  route_one : links_in (count_one (payload f)) (drop 18 (payload f)) ≡ f.one
  route_one = ap (λ n. links_in n (route_bytes f.one ++ route_bytes f.two)) one_again ∙ links_back f.one (route_bytes f.two) fits.one

  behind_one : drop (18 + 2 * count_one (payload f)) (payload f) ≡ route_bytes f.two
  behind_one =
      ap (λ n. drop (18 + 2 * n) (payload f)) one_again ∙ sym (drop-drop (2 * length f.one) 18 (payload f))
      ∙ drop_at (route_bytes f.one) (route_bytes f.two) (2 * length f.one) (length_route f.one)

  route_two : links_in (count_two (payload f)) (drop (18 + 2 * count_one (payload f)) (payload f)) ≡ f.two
  route_two =
      ap (λ n. links_in n (drop (18 + 2 * count_one (payload f)) (payload f))) two_again ∙ ap (λ l. links_in (length f.two) l) (behind_one ∙ sym (append-nil _))
      ∙ links_back f.two [] fits.two

  pub fields_again : fields_in (payload f) ≡ f
  fields_again = λ i. record {
    circuit = of_le16 f.circuit fits.circuit i;
    root = of_le16 f.root fits.root i;
    target = of_le16 f.target fits.target i;
    metres = of_le32 f.metres fits.metres i;
    poles = of_le32 f.poles fits.poles i;
    one = route_one i;
    two = route_two i;
  }

  small : length (payload f) < 65536
  small = omega (arith, length_payload f, fits.size)

  alone : certificate_bytes f ≡ certificate_bytes f ++ []
  alone = sym (append-nil (certificate_bytes f))

  pub whole_back : cut_short (certificate_bytes f) ≡ false
  whole_back = ap cut_short alone ∙ whole_again 16 (payload f) [] small

  pub payload_back : payload_of (certificate_bytes f) ≡ payload f
  payload_back = ap payload_of alone ∙ payload_again 16 (payload f) [] small

  pub shape_back : right_shape (certificate_bytes f) ≡ true
  shape_back =
      and_from _ _ (eq-eqb _ _ (kind_again 16 (payload f) [] small (omega arith)))
      (and_from _ _ (ap right_length payload_back ∙ length_again) (eq-eqb _ _ (ap (λ l. length (rest_of l)) alone ∙ ap length (rest_again 16 (payload f) [] small))))

  pub fields_back : fields_in (payload_of (certificate_bytes f)) ≡ f
  fields_back = ap fields_in payload_back ∙ fields_again

links_low : (ks : List ℕ) → links_sound ks ≡ true → All (λ k. k < 65536) ks
links_low [] h = tt
links_low (k ∷ ks) h = let p = and_parts (ltb k 2048) (links_sound ks) h in (omega (arith, ltb-true k 2048 p.0), links_low ks p.1)

-- routes within the limits have room
pub few_links : (f : Fields) → within f ≡ true → (length f.one ≤ 255) × (length f.two ≤ 255)
few_links f h = (grind (arith, nat_tests), grind (arith, nat_tests))

-- fields within the limits fit the format
pub fitting : (f : Fields) → within f ≡ true → Fitting f
fitting f h = record {
  circuit = grind (arith, nat_tests);
  root = grind (arith, nat_tests);
  target = grind (arith, nat_tests);
  metres = grind (arith, nat_tests);
  poles = grind (arith, nat_tests);
  one = links_low f.one (grind (arith, nat_tests));
  two = links_low f.two (grind (arith, nat_tests));
  size = grind (arith, nat_tests);
}
