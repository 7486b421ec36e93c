-- A number and its little-endian bytes.
use Rattle.std.proofs.Common.{◌≡◌, ℕ, ◌+◌, ◌*◌, ◌/◌, ◌%◌, ◌<◌, [], ◌∷◌, sym, ap, ◌∙◌, mod-eq_of_lt, div-add-mod', arith}
use native.Mathlib.Nat.{div-div-eq-div-mul}
use Rattle.std.proofs.lemmas.Nat.{div-mul-add, div_below}
use Rattle.records.specs.Bytes.{le16, le32}

-- what stands above a low part
above : (n q w r : ℕ) → n ≡ q * w + r → r < w → n / w ≡ q
above n q w r e h = ap (λ m. m / w) e ∙ div-mul-add q w r h

-- two bytes are the writing of the number that they write
pub le16_of : (a b : ℕ) → a < 256 → b < 256 → le16 (a + b * 256) ≡ a ∷ b ∷ []
le16_of a b ha hb =
    let n = a + b * 256 in
    let q : n / 256 ≡ b = above n b 256 a (omega arith) ha in
    let x : n % 256 ≡ a = omega arith in
    let y : n / 256 % 256 ≡ b = ap (λ m. m % 256) q ∙ omega arith in
    (λ i. x i ∷ y i ∷ [])

-- the number that a number's two bytes write
pub of_le16 : (n : ℕ) → n < 65536 → n % 256 + (n / 256 % 256) * 256 ≡ n
of_le16 n h = omega arith

-- four bytes are the writing of the number that they write
pub le32_of : (a b c d : ℕ) → a < 256 → b < 256 → c < 256 → d < 256 → le32 (a + b * 256 + c * 65536 + d * 16777216) ≡ a ∷ b ∷ c ∷ d ∷ []
le32_of a b c d ha hb hc hd =
    let n = a + b * 256 + c * 65536 + d * 16777216 in
    let q : n / 256 ≡ b + c * 256 + d * 65536 = above n (b + c * 256 + d * 65536) 256 a (omega arith) ha in
    let r : n / 65536 ≡ c + d * 256 = above n (c + d * 256) 65536 (a + b * 256) (omega arith) (omega arith) in
    let s : n / 16777216 ≡ d = above n d 16777216 (a + b * 256 + c * 65536) (omega arith) (omega arith) in
    let q2 : (b + c * 256 + d * 65536) / 256 ≡ c + d * 256 = above (b + c * 256 + d * 65536) (c + d * 256) 256 b (omega arith) hb in
    let r2 : (c + d * 256) / 256 ≡ d = above (c + d * 256) d 256 c (omega arith) hc in
    let x : n % 256 ≡ a = omega arith in
    let y : n / 256 % 256 ≡ b = ap (λ m. m % 256) q ∙ omega arith in
    let z : n / 65536 % 256 ≡ c = ap (λ m. m % 256) r ∙ omega arith in
    let w : n / 16777216 % 256 ≡ d = ap (λ m. m % 256) s ∙ omega arith in
    (λ i. x i ∷ y i ∷ z i ∷ w i ∷ [])

digits : (n m0 q1 m1 q2 m2 q3 m3 : ℕ) → q1 * 256 + m0 ≡ n → q2 * 256 + m1 ≡ q1 → q3 * 256 + m2 ≡ q2 → m3 ≡ q3 → m0 + m1 * 256 + m2 * 65536 + m3 * 16777216 ≡ n
digits n m0 q1 m1 q2 m2 q3 m3 a b c d = omega arith

-- the number that a number's four bytes write
pub of_le32 : (n : ℕ) → n < 4294967296 → n % 256 + (n / 256 % 256) * 256 + (n / 65536 % 256) * 65536 + (n / 16777216 % 256) * 16777216 ≡ n
of_le32 n h =
    let p : n / 256 / 256 ≡ n / 65536 = div-div-eq-div-mul n 256 256 in
    let s : n / 65536 / 256 ≡ n / 16777216 = div-div-eq-div-mul n 65536 256 in
    let top : n / 16777216 < 256 = div_below n 16777216 256 (omega arith) (omega arith) in
    digits n (n % 256) (n / 256) (n / 256 % 256) (n / 65536) (n / 65536 % 256) (n / 16777216) (n / 16777216 % 256)
    (div-add-mod' n 256)
    (ap (λ m. m * 256 + n / 256 % 256) (sym p) ∙ div-add-mod' (n / 256) 256)
    (ap (λ m. m * 256 + n / 65536 % 256) (sym s) ∙ div-add-mod' (n / 65536) 256)
    (mod-eq_of_lt top)
