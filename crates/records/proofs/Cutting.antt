-- The first record of some bytes, as it is cut off them.
use Rattle.std.proofs.Common.{◌≡◌, ℕ, ◌+◌, ◌≤◌, false, List, [], ◌∷◌, ◌++◌, length, get_or, take, drop, sym, refl, ap, ◌∙◌, subst, ⊎_elim, arith, Fits-lit, w8, Fits}
use Rattle.std.proofs.lemmas.List.{drop-drop, length-take-le, length-take, length-drop, get_or-take, get_or-drop, get_or_past, take-append-drop}
use Rattle.records.proofs.Numbers.{le16_of}
use Rattle.std.proofs.lemmas.Bool.{le-ltb, ltb-false, or_from, or_parts, cases_lt}
use Rattle.records.specs.Bytes.{le16, u16_at, record_bytes, cut_short, kind_of, payload_of, rest_of}

pub whole : (bytes : List ℕ) → 4 + u16_at bytes 0 ≤ length bytes → cut_short bytes ≡ false
whole bytes h = or_from _ _ (le-ltb _ _ (omega arith)) (le-ltb _ _ h)

-- every place holds a byte
abbrev pub Bytes : List ℕ → Type 0
Bytes bytes = (i : ℕ) → Fits w8 (get_or bytes i 0)

pub bytes_drop : (n : ℕ) (l : List ℕ) → Bytes l → Bytes (drop n l)
bytes_drop n l t = λ i. subst (Fits w8) (sym (get_or-drop n l i 0)) (t (n + i))

pub bytes_take : (n : ℕ) (l : List ℕ) → Bytes l → Bytes (take n l)
bytes_take n l t = λ i. ⊎_elim (λ h. subst (Fits w8) (sym (get_or-take n l i 0 h)) (t i)) (λ h. subst (Fits w8) (sym (get_or_past (take n l) i 0 (omega (arith, length-take n l)))) (Fits-lit tt)) (cases_lt i n)

pub long : (bytes : List ℕ) → cut_short bytes ≡ false → 4 + u16_at bytes 0 ≤ length bytes
long bytes h = ltb-false _ _ (or_parts _ _ h).1

-- four bytes and those after them
four : (bytes : List ℕ) → 4 ≤ length bytes → bytes ≡ get_or bytes 0 0 ∷ get_or bytes 1 0 ∷ get_or bytes 2 0 ∷ get_or bytes 3 0 ∷ drop 4 bytes
four [] h = absurd (omega arith)
four (a ∷ []) h = absurd (omega arith)
four (a ∷ b ∷ []) h = absurd (omega arith)
four (a ∷ b ∷ c ∷ []) h = absurd (omega arith)
four (a ∷ b ∷ c ∷ d ∷ more) h = refl

pub length_payload : (bytes : List ℕ) → cut_short bytes ≡ false → length (payload_of bytes) ≡ u16_at bytes 0
length_payload bytes h = length-take-le _ _ (omega (arith, length-drop 4 bytes, long bytes h))

-- bytes that are not cut short begin with the writing of their first record
pub written_is : (bytes : List ℕ) → Bytes bytes → cut_short bytes ≡ false → bytes ≡ record_bytes (kind_of bytes) (payload_of bytes) ++ rest_of bytes
written_is bytes typed h =
    let size = length_payload bytes h in
    let front : le16 (length (payload_of bytes)) ≡ get_or bytes 0 0 ∷ get_or bytes 1 0 ∷ [] = ap le16 size ∙ le16_of (get_or bytes 0 0) (get_or bytes 1 0) (omega (arith, typed 0)) (omega (arith, typed 1)) in
    let kind : le16 (kind_of bytes) ≡ get_or bytes 2 0 ∷ get_or bytes 3 0 ∷ [] = le16_of (get_or bytes 2 0) (get_or bytes 3 0) (omega (arith, typed 2)) (omega (arith, typed 3)) in
    let back : payload_of bytes ++ rest_of bytes ≡ drop 4 bytes = ap (λ l. payload_of bytes ++ l) (sym (drop-drop (u16_at bytes 0) 4 bytes)) ∙ take-append-drop (u16_at bytes 0) (drop 4 bytes) in
    four bytes (omega (arith, long bytes h)) ∙ sym (ap (λ x. (x ++ (le16 (kind_of bytes) ++ payload_of bytes)) ++ rest_of bytes) front ∙ ap (λ x. ((get_or bytes 0 0 ∷ get_or bytes 1 0 ∷ []) ++ (x ++ payload_of bytes)) ++ rest_of bytes) kind ∙ ap (λ x. get_or bytes 0 0 ∷ get_or bytes 1 0 ∷ get_or bytes 2 0 ∷ get_or bytes 3 0 ∷ x) back)
