-- The numbers before the routes, and the links of the routes, are those that the payload writes.
use Rattle.std.proofs.Common.{◌≡◌, ◌+◌, ◌*◌, length, take, drop, inl, inr, ap, ◌∙◌, arith}
use Rattle.records.specs.Bytes.{u16_at}
use Rattle.certificates.proofs.Payload.{long, fields, many_one, many_two}
use Rattle.certificates.proofs.reading.read_fields.Goals as goal

pub returns : goal.returns
returns c =
    let p = c.args.payload.now in
    let numbers = c.in-Some.numbers.now in
    let routes = c.in-Some.routes.now in
    let cut = c.in-Some.ensures.cases in
    let one : c.from-count_one.result ≡ u16_at numbers 14 = c.from-count_one.ensures ∙ c.from_le_bytes.ensures in
    let two : c.from-count_two.result ≡ u16_at numbers 16 = c.from-count_two.ensures ∙ c.from_le_bytes-2.ensures in
    let sizes : length routes ≡ 2 * u16_at numbers 14 + 2 * u16_at numbers 16 = omega arith in
    (long p numbers routes cut.0 cut.1 cut.2 sizes, fields p numbers routes cut.0 cut.1 cut.2 sizes _ c.split_at.result.0.now c.split_at.result.1.now c.from_le_bytes-3.ensures c.from_le_bytes-4.ensures c.from_le_bytes-5.ensures c.from_le_bytes-6.ensures c.from_le_bytes-7.ensures (c.split_at.ensures.front ∙ ap (λ n. take (2 * n) routes) one) (c.split_at.ensures.back ∙ ap (λ n. drop (2 * n) routes) one) c.read_links-one.ensures c.read_links-two.ensures)

pub returns-then-count_one-gt-MOST_LINKS : goal.returns-then-count_one-gt-MOST_LINKS
returns-then-count_one-gt-MOST_LINKS c =
    let p = c.args.payload.now in
    let numbers = c.in-Some.numbers.now in
    let routes = c.in-Some.routes.now in
    let cut = c.in-Some.ensures.cases in
    let one : c.from-count_one.result ≡ u16_at numbers 14 = c.from-count_one.ensures ∙ c.from_le_bytes.ensures in
    let two : c.from-count_two.result ≡ u16_at numbers 16 = c.from-count_two.ensures ∙ c.from_le_bytes-2.ensures in
    let sizes : length routes ≡ 2 * u16_at numbers 14 + 2 * u16_at numbers 16 = omega arith in (
      long p numbers routes cut.0 cut.1 cut.2 sizes,
      elim c.then-count_one-gt-MOST_LINKS.either [
        | inl first ↦ many_one p numbers routes cut.0 cut.1 cut.2 sizes (omega (arith, first, one))
        | inr second ↦ many_two p numbers routes cut.0 cut.1 cut.2 sizes (omega (arith, second.1, two))
      ],
    )
