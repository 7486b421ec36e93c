-- A table of one value throughout.
use Rattle.std.proofs.Common.{◌≡◌, ℕ, zero, suc, get_or, replicate, refl}

-- every entry of a table of one value is that value, and so is what is told past its end
pub one_value : {A : Type 0} (n k : ℕ) (a : A) → get_or (replicate n a) k a ≡ a
one_value zero k a = refl
one_value (suc n) zero a = refl
one_value (suc n) (suc k) a = one_value n k a
