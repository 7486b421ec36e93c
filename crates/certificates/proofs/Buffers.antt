-- What a buffer holds behind a place.
use Rattle.std.proofs.Common.{◌≡◌, ℕ, ◌+◌, ◌-◌, ◌≤◌, List, drop, ap, arith}
use Rattle.std.proofs.lemmas.List.{drop-drop}

-- bytes that are the same from a place on are the same from a later place on
pub still : {m n : ℕ} (a b : List ℕ) → drop m a ≡ drop m b → m ≤ n → drop n a ≡ drop n b
still {m} {n} a b same later =
    let e : n ≡ m + (n - m) = omega arith in rw e (simp (← drop-drop) (ap (drop (n - m)) same))
