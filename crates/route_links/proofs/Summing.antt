-- The lengths of links, and how large their sums over a route get.
use Rattle.std.proofs.Common.{◌≡◌, ℕ, ◌+◌, ◌*◌, ◌<◌, ◌≤◌, List, [], ◌∷◌, length, ltb, get_or, take, sum_by, Ok, Err, sym, ap, ◌∙◌, inl, inr, arith}
use Rattle.std.specs.Result.{result_unwrap_or}
use Rattle.std.proofs.lemmas.List.{get_or_past}
use Rattle.std.proofs.lemmas.List.Sums.{sum_by-cons, sum_by_more_le}
use Rattle.std.proofs.lemmas.Bool.{cases_lt, cond-true, cond-false, lt-ltb, le-ltb}
use Rattle.networks.specs.declared.model.Link.{Link}
use Rattle.networks.specs.declared.model.NetworkRefusal.TheVariants.{LinkTooHigh}
use Rattle.networks.specs.Meaning.{Net, Sound, no_link, link_at}
use Rattle.networks.specs.Telling.{told, lengths}
use Rattle.networks.proofs.Soundness.{limits, sound_at}

-- a sum is at most so much for each link
sum_few : (has : ℕ → ℕ) → ((k : ℕ) → has k ≤ 1000000) → (ks : List ℕ) → sum_by has ks ≤ 1000000 * length ks
sum_few has low [] = omega arith
sum_few has low (x ∷ ks) = omega (arith, low x, sum_few has low ks, sum_by-cons has x ks)

-- no link has more than 1,000,000 metres, nor more on poles
pub metres_low : (n : Net) → Sound n → (k : ℕ) → ((link_at n k).metres ≤ 1000000) × ((link_at n k).poles ≤ 1000000)
metres_low n sound k =
    elim (cases_lt k (length n.links)) [
      | inl lt ↦ let l = limits n.sites (link_at n k) (sound_at n.sites n.links k no_link sound.each_link lt) in (l.metres_high, omega (arith, l.metres_high, l.poles_high))
      | inr ge ↦ let is = get_or_past n.links k no_link ge in (omega (arith, ap (λ (l : Link). l.metres) is), omega (arith, ap (λ (l : Link). l.poles) is))
    ]

-- the sum over the first links of a route of at most 255 and one link more is within 32 bits
pub sum_part : (has : ℕ → ℕ) → ((k : ℕ) → has k ≤ 1000000) → (route : List ℕ) (at : ℕ) → length route ≤ 255 → at < length route → sum_by has (take at route) + has (get_or route at 0) ≤ 255000000
sum_part has low route at few lt = omega (arith, few, sum_by_more_le has route at 0 lt, sum_few has low route)

-- what a network tells of a link's lengths, or zero, is what they are
pub lengths_told : (n : Net) (k : ℕ) → result_unwrap_or (told lengths n k) (0, 0) ≡ ((link_at n k).metres, (link_at n k).poles)
lengths_told n k =
    elim (cases_lt k (length n.links)) [
      | inl lt ↦ ap (λ r. result_unwrap_or r (0, 0)) (cond-true (ltb k (length n.links)) (Ok (lengths (link_at n k))) (Err LinkTooHigh) (lt-ltb k (length n.links) lt))
      | inr ge ↦
          ap (λ r. result_unwrap_or r (0, 0)) (cond-false (ltb k (length n.links)) (Ok (lengths (link_at n k))) (Err LinkTooHigh) (le-ltb k (length n.links) ge))
          ∙ sym (ap (λ (l : Link). (l.metres, l.poles)) (get_or_past n.links k no_link ge))
    ]
