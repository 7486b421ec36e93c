-- A route that is written from its last link on.
use Rattle.std.proofs.Common.{◌≡◌, ℕ, ◌+◌, ◌<◌, List, [], ◌∷◌, ◌++◌, reverse, length, take, drop, set, sym, refl, ap, ◌∙◌, arith}
use mathlib.Core.List.{reverse-reverse}
use Rattle.std.proofs.lemmas.List.{take_more_set, drop-set-lt, drop-drop, reverse-append}

-- the first entries of a table are these links, the last first, and the others are as they were before
pub record Written (before route : List ℕ) (count : ℕ) (es : List ℕ) : Type 0 where
  pub front : take count route ≡ reverse es
  pub rest : drop count route ≡ drop count before
  pub many : count ≡ length es

-- none is written yet
pub written_none : (route : List ℕ) → Written route route 0 []
written_none route = record { front = refl; rest = refl; many = refl }

-- one more
pub written_more : (before route : List ℕ) (count : ℕ) (es : List ℕ) (e : ℕ) → count < length route → Written before route count es → Written before (set route count e) (count + 1) (e ∷ es)
written_more before route count es e lt w = record {
  front = take_more_set route count e lt ∙ ap (λ xs. xs ++ e ∷ []) w.front ∙ sym (reverse-append (e ∷ []) es);
  rest = drop-set-lt (count + 1) route count e (omega arith) ∙ sym (drop-drop 1 count route) ∙ ap (drop 1) w.rest ∙ drop-drop 1 count before;
  many = omega (arith, w.many);
}

-- turned over, the links stand in their order
pub turned : (before route after : List ℕ) (count : ℕ) (es : List ℕ) → Written before route count es → take count after ≡ reverse (take count route) → take count after ≡ es
turned before route after count es w h = h ∙ ap reverse w.front ∙ reverse-reverse es
