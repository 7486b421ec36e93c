-- The front and the two routes, put one after the other, are the certificate's bytes.
use Rattle.std.proofs.Common.{◌≡◌, ◌+◌, ◌*◌, ◌++◌, length, refl, sym, ap, ◌∙◌, arith}
use Rattle.records.specs.Bytes.{le16, le32}
use Rattle.certificates.specs.Format.{payload, route_bytes}
use Rattle.certificates.specs.Calls.{held}
use Rattle.certificates.proofs.Back.{length_payload, fitting}
use Rattle.certificates.proofs.Outcomes.{told_apart}
use Rattle.certificates.proofs.Buffers.{still}
use Rattle.certificates.proofs.certificate.Certificate.write.Goals as goal

pub returns-then-buffer-length-clause-wrote : goal.returns-then-buffer-length-clause-wrote
returns-then-buffer-length-clause-wrote c = (omega (arith, length_payload (held c.args.self.now), ap length c.one-one.ensures, ap length c.two-two.ensures), refl)

pub returns-clause-wrote : goal.returns-clause-wrote
returns-clause-wrote c =
    let f = held c.args.self.now in
    let one = c.one-one.ensures in
    let two = c.two-two.ensures in
    let size : 18 + 2 * (length c.one-one.result.now + length c.two-two.result.now) ≡ length (payload f) = omega (arith, length_payload f, ap length one, ap length two) in
    let numbers = c.put_numbers-metres_at.ensures.written in
    let metres = c.put-poles_at.ensures.written ∙ (λ i. numbers i ++ c.to_le_bytes.ensures i) in
    let poles = c.put-counts_at.ensures.written ∙ (λ i. metres i ++ c.to_le_bytes-2.ensures i) in
    let counts = c.put_numbers-first.ensures.written ∙ ap (λ l. l ++ (le16 (length c.one-one.result.now) ++ le16 (length c.two-two.result.now))) poles in
    let first = c.put_numbers-second.ensures.written ∙ ap (λ l. l ++ route_bytes c.one-one.result.now) counts in
    let second = c.put_numbers.ensures.written ∙ ap (λ l. l ++ route_bytes c.two-two.result.now) first in
    let behind_metres = c.put-poles_at.ensures.left ∙ still {m = c.put_numbers-metres_at.result} {n = c.put-poles_at.result} _ _ c.put_numbers-metres_at.ensures.left (omega arith) in
    let behind_poles = c.put-counts_at.ensures.left ∙ still {m = c.put-poles_at.result} {n = c.put-counts_at.result} _ _ behind_metres (omega arith) in
    let behind_counts = c.put_numbers-first.ensures.left ∙ still {m = c.put-counts_at.result} {n = c.put_numbers-first.result} _ _ behind_poles (omega arith) in
    let behind_first = c.put_numbers-second.ensures.left ∙ still {m = c.put_numbers-first.result} {n = c.put_numbers-second.result} _ _ behind_counts (omega arith) in
    let behind_second = c.put_numbers.ensures.left ∙ still {m = c.put_numbers-second.result} {n = c.put_numbers.result} _ _ behind_first (omega arith) in (
      omega (arith, length_payload f, ap length one, ap length two),
      second
          ∙ (λ i. le16 (size i) ++ (le16 16 ++ (le16 (c.circuit.ensures i) ++ (le16 (c.root.ensures i) ++ (le16 (c.target.ensures i) ++ (le32 (c.metres.ensures i) ++ (le32 (c.poles.ensures i) ++ (le16 (length (one i)) ++ (le16 (length (two i)) ++ (route_bytes (one i) ++ route_bytes (two i))))))))))),
      behind_second,
    )

pub returns-clause-only : goal.returns-clause-only
returns-clause-only c = λ g law same.
    let f = held c.args.self.now in
    told_apart g f (fitting g law) (fitting f c.args.self.now.limits) (sym same ∙ (returns-clause-wrote c).1)
