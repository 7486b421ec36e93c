-- The fields that a payload writes, from its numbers and the bytes of its routes.
use Rattle.std.proofs.Common.{◌≡◌, ℕ, ◌+◌, ◌*◌, ◌/◌, ◌<◌, true, false, List, length, get_or, take, drop, inl, inr, ap, ◌∙◌, arith}
use Rattle.std.proofs.lemmas.List.{get_or-take, drop-drop, length-drop}
use Rattle.std.proofs.lemmas.Bool.{and_from, eq-eqb, le-leb, cases_Bool}
use Rattle.records.specs.Bytes.{u16_at, u32_at}
use Rattle.certificates.specs.Format.{Fields, count_one, count_two, links_in, fields_in, right_length}
use Rattle.certificates.specs.Limits.{within}
use Rattle.certificates.proofs.Back.{few_links}
use Rattle.certificates.proofs.Routes.{length_links, links_front, links_whole}

module _ (p numbers routes : List ℕ) (front : numbers ≡ take 18 p) (back : routes ≡ drop 18 p) (least : length routes + 18 ≡ length p) (sizes : length routes ≡ 2 * u16_at numbers 14 + 2 * u16_at numbers 16) where
  byte : (i : ℕ) → i < 18 → get_or numbers i 0 ≡ get_or p i 0
  byte i h = ap (λ l. get_or l i 0) front ∙ get_or-take 18 p i 0 h

  u16 : (i : ℕ) → i + 1 < 18 → u16_at numbers i ≡ u16_at p i
  u16 i h = λ k. byte i (omega arith) k + byte (i + 1) h k * 256

  u32 : (i : ℕ) → i + 3 < 18 → u32_at numbers i ≡ u32_at p i
  u32 i h = λ k. byte i (omega arith) k + byte (i + 1) (omega arith) k * 256 + byte (i + 2) (omega arith) k * 65536 + byte (i + 3) h k * 16777216

  size_one : u16_at numbers 14 ≡ count_one p
  size_one = u16 14 (omega arith)

  size_two : u16_at numbers 16 ≡ count_two p
  size_two = u16 16 (omega arith)

  pub long : right_length p ≡ true
  long = and_from _ _ (le-leb 18 (length p) (omega arith)) (eq-eqb (length p) (18 + 2 * (count_one p + count_two p)) (omega (arith, size_one, size_two)))

  first : (one : List ℕ) → one ≡ take (2 * u16_at numbers 14) routes → links_in (length one / 2) one ≡ (fields_in p).one
  first one e =
      ap (λ l. links_in (length l / 2) l) (e ∙ ap (λ n. take (2 * n) routes) size_one)
      ∙ links_front (count_one p) routes (omega (arith, size_one))
      ∙ ap (links_in (count_one p)) back

  second : (two : List ℕ) → two ≡ drop (2 * u16_at numbers 14) routes → links_in (length two / 2) two ≡ (fields_in p).two
  second two e =
      ap (λ l. links_in (length l / 2) l) (e ∙ (λ k. drop (2 * size_one k) (back k)) ∙ drop-drop (2 * count_one p) 18 p)
      ∙ links_whole (count_two p) (drop (18 + 2 * count_one p) p) (omega (arith, length-drop (18 + 2 * count_one p) p, size_one, size_two))

  pub fields : (f : Fields) (one two : List ℕ) → f.circuit ≡ u16_at numbers 0 → f.root ≡ u16_at numbers 2 → f.target ≡ u16_at numbers 4 → f.metres ≡ u32_at numbers 6 → f.poles ≡ u32_at numbers 10 → one ≡ take (2 * u16_at numbers 14) routes → two ≡ drop (2 * u16_at numbers 14) routes → f.one ≡ links_in (length one / 2) one → f.two ≡ links_in (length two / 2) two → f ≡ fields_in p
  fields f one two circuit root target metres poles e g m n = λ k. record {
    circuit = (circuit ∙ u16 0 (omega arith)) k;
    root = (root ∙ u16 2 (omega arith)) k;
    target = (target ∙ u16 4 (omega arith)) k;
    metres = (metres ∙ u32 6 (omega arith)) k;
    poles = (poles ∙ u32 10 (omega arith)) k;
    one = (m ∙ first one e) k;
    two = (n ∙ second two g) k;
  }

  -- a payload that counts more than 255 links for a route writes fields outside the limits
  pub many_one : 255 < u16_at numbers 14 → within (fields_in p) ≡ false
  many_one many = elim (cases_Bool (within (fields_in p))) [
    | inl law ↦ absurd (omega (arith, many, size_one, (few_links (fields_in p) law).0, length_links (count_one p) (drop 18 p)))
    | inr outside ↦ outside
  ]

  pub many_two : 255 < u16_at numbers 16 → within (fields_in p) ≡ false
  many_two many = elim (cases_Bool (within (fields_in p))) [
    | inl law ↦ absurd (omega (arith, many, size_two, (few_links (fields_in p) law).1, length_links (count_two p) (drop (18 + 2 * count_one p) p)))
    | inr outside ↦ outside
  ]
