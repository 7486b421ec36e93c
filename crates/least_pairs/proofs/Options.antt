-- Options: one holds a value or none, and not two.
use Rattle.std.proofs.Common.{◌≡◌, ◌⊎◌, Some, None, Option, refl, inl, inr}

-- some is not none
pub some_none : {A : Type 0} {o : Option A} {x : A} → o ≡ Some x → o ≡ None → ⊥
some_none p q = cc

-- two values of one are equal
pub some_same : {A : Type 0} {o : Option A} {x y : A} → o ≡ Some x → o ≡ Some y → x ≡ y
some_same p q = cc

-- there is none, or some
pub cases_option : {A : Type 0} (o : Option A) → (o ≡ None) ⊎ ((x : A) × (o ≡ Some x))
cases_option None = inl refl
cases_option (Some x) = inr (x, refl)
