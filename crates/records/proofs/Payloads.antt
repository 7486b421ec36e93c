-- A payload is the writing of the numbers that are read from it.
use Rattle.std.proofs.Common.{◌≡◌, ℕ, ◌+◌, ◌<◌, ◌≤◌, List, ◌∷◌, ◌++◌, length, get_or, drop, sym, ap, ◌∙◌, add_assoc, arith}
use Rattle.std.proofs.lemmas.List.{drop_more}
use Rattle.records.specs.Bytes.{le16, le32, u16_at, u32_at}
use Rattle.records.proofs.Numbers.{le16_of, le32_of}
use Rattle.records.proofs.Cutting.{Bytes}

module _ (p : List ℕ) (k : ℕ) where
  one : k < length p → drop k p ≡ get_or p k 0 ∷ drop (k + 1) p
  one h = drop_more p k 0 h

  next : (j : ℕ) → k + j < length p → drop (k + j) p ≡ get_or p (k + j) 0 ∷ drop (k + (j + 1)) p
  next j h = drop_more p (k + j) 0 h ∙ ap (λ n. get_or p (k + j) 0 ∷ drop n p) (add_assoc k j 1)

  pub two_at : Bytes p → k + 2 ≤ length p → drop k p ≡ le16 (u16_at p k) ++ drop (k + 2) p
  two_at typed h =
      one (omega arith) ∙ ap (λ l. get_or p k 0 ∷ l) (next 1 (omega arith))
      ∙ ap (λ l. l ++ drop (k + 2) p) (sym (le16_of (get_or p k 0) (get_or p (k + 1) 0) (omega (arith, typed k)) (omega (arith, typed (k + 1)))))

  pub four_at : Bytes p → k + 4 ≤ length p → drop k p ≡ le32 (u32_at p k) ++ drop (k + 4) p
  four_at typed h =
      one (omega arith) ∙ ap (λ l. get_or p k 0 ∷ l) (next 1 (omega arith) ∙ ap (λ l. get_or p (k + 1) 0 ∷ l) (next 2 (omega arith) ∙ ap (λ l. get_or p (k + 2) 0 ∷ l) (next 3 (omega arith))))
      ∙ ap (λ l. l ++ drop (k + 4) p) (sym (le32_of (get_or p k 0) (get_or p (k + 1) 0) (get_or p (k + 2) 0) (get_or p (k + 3) 0) (omega (arith, typed k)) (omega (arith, typed (k + 1))) (omega (arith, typed (k + 2))) (omega (arith, typed (k + 3)))))

  pub u16_fits : Bytes p → u16_at p k < 65536
  u16_fits typed = omega (arith, typed k, typed (k + 1))

  pub u32_fits : Bytes p → u32_at p k < 4294967296
  u32_fits typed = omega (arith, typed k, typed (k + 1), typed (k + 2), typed (k + 3))
