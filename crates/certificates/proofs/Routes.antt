-- A route and its bytes.
use Rattle.std.proofs.Common.{◌≡◌, ℕ, zero, suc, ◌+◌, ◌*◌, ◌/◌, ◌<◌, ◌≤◌, List, [], ◌∷◌, ◌++◌, length, take, drop, refl, ap, ◌∙◌, arith}
use Rattle.std.specs.List.{AllByRecursion as All}
use Rattle.std.proofs.lemmas.List.{length-drop, length-take-le, drop-drop}
use Rattle.records.specs.Bytes.{le16, u16_at}
use Rattle.records.proofs.Numbers.{of_le16}
use Rattle.records.proofs.Cutting.{Bytes, bytes_drop}
use Rattle.records.proofs.Payloads.{two_at, u16_fits}
use Rattle.certificates.specs.Format.{route_bytes, links_in}

pub length_route : (ks : List ℕ) → length (route_bytes ks) ≡ 2 * length ks
length_route [] = refl
length_route (k ∷ ks) = omega (arith, length_route ks)

-- the bytes of a route write its links, whatever follows
pub links_back : (ks more : List ℕ) → All (λ k. k < 65536) ks → links_in (length ks) (route_bytes ks ++ more) ≡ ks
links_back [] more fits = refl
links_back (k ∷ ks) more fits = λ i. of_le16 k fits.0 i ∷ links_back ks more fits.1 i

pub length_links : (n : ℕ) (b : List ℕ) → length (links_in n b) ≡ n
length_links zero b = refl
length_links (suc n) b = ap suc (length_links n (drop 2 b))

pub links_fit : (n : ℕ) (b : List ℕ) → Bytes b → All (λ k. k < 65536) (links_in n b)
links_fit zero b typed = tt
links_fit (suc n) b typed = (u16_fits b 0 typed, links_fit n (drop 2 b) (bytes_drop 2 b typed))

-- bytes are the writing of the links that they write, and then the rest
pub links_forth : (n : ℕ) (b : List ℕ) → Bytes b → 2 * n ≤ length b → b ≡ route_bytes (links_in n b) ++ drop (2 * n) b
links_forth zero b typed h = refl
links_forth (suc n) b typed h =
    two_at b 0 typed (omega arith)
    ∙ ap (λ l. le16 (u16_at b 0) ++ l) (links_forth n (drop 2 b) (bytes_drop 2 b typed) (omega (arith, length-drop 2 b)) ∙ ap (λ l. route_bytes (links_in n (drop 2 b)) ++ l) (drop-drop (2 * n) 2 b ∙ ap (λ m. drop m b) (omega arith)))

-- two bytes and what follows them write one link more
pub link_more : (pair more b : List ℕ) → b ≡ pair ++ more → length pair ≡ 2 → links_in (length b / 2) b ≡ u16_at pair 0 ∷ links_in (length more / 2) more
link_more [] more b e size = absurd (omega arith)
link_more (low ∷ []) more b e size = absurd (omega arith)
link_more (low ∷ high ∷ []) more b e size =
    let n : suc (suc (length more)) / 2 ≡ suc (length more / 2) = omega arith in
    ap (λ l. links_in (length l / 2) l) e ∙ ap (λ k. links_in k (low ∷ high ∷ more)) n
link_more (low ∷ high ∷ third ∷ pair) more b e size = absurd (omega arith)

-- the first links stand in the first bytes
links_taken : (n : ℕ) (b : List ℕ) → 2 * n ≤ length b → links_in n (take (2 * n) b) ≡ links_in n b
links_taken zero b room = refl
links_taken (suc n) [] room = absurd (omega arith)
links_taken (suc n) (low ∷ []) room = absurd (omega arith)
links_taken (suc n) (low ∷ high ∷ more) room = let e : 2 * suc n ≡ suc (suc (2 * n)) = omega arith in ap (λ k. links_in (suc n) (take k (low ∷ high ∷ more))) e ∙ ap (λ l. (low + high * 256) ∷ l) (links_taken n more (omega arith))

pub links_front : (n : ℕ) (b : List ℕ) → 2 * n ≤ length b → links_in (length (take (2 * n) b) / 2) (take (2 * n) b) ≡ links_in n b
links_front n b room = let e : length (take (2 * n) b) / 2 ≡ n = omega (arith, length-take-le (2 * n) b room) in ap (λ k. links_in k (take (2 * n) b)) e ∙ links_taken n b room

pub links_whole : (n : ℕ) (b : List ℕ) → length b ≡ 2 * n → links_in (length b / 2) b ≡ links_in n b
links_whole n b size = let e : length b / 2 ≡ n = omega arith in ap (λ k. links_in k b) e
