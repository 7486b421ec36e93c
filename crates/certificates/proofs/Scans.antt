-- The two scans over the links of two routes.
use Rattle.std.proofs.Common.{◌≡◌, ℕ, not, ◌&&◌, List, [], ◌∷◌, ◌++◌, refl, sym, ap, ◌∙◌, append-nil}
use Rattle.std.proofs.Math.Bool.{and_assoc}
use Rattle.certificates.specs.Limits.{among, none_twice}
use Rattle.certificates.specs.Scanning.{fronts_once}

alone : (ks : List ℕ) → fronts_once ks [] ≡ none_twice ks
alone [] = refl
alone (k ∷ ks) = λ i. not (among k (append-nil ks i)) && alone ks i

together : (xs ys : List ℕ) → (fronts_once xs ys && none_twice ys) ≡ none_twice (xs ++ ys)
together [] ys = refl
together (x ∷ xs) ys = and_assoc (not (among x (xs ++ ys))) (fronts_once xs ys) (none_twice ys) ∙ ap (λ b. not (among x (xs ++ ys)) && b) (together xs ys)

-- no link twice in two routes together: the first before the second, and the second by itself
pub both : (xs ys : List ℕ) → none_twice (xs ++ ys) ≡ (fronts_once xs ys && fronts_once ys [])
both xs ys = sym (ap (λ b. fronts_once xs ys && b) (alone ys) ∙ together xs ys)
