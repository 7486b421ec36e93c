-- Lemmas for ghost fields over tables of labels: how labels are stored, so that it has one proof at most that tables hold certain ones.
use Rattle.std.specs.Prelude.{ℕ, Option, refl}
use Rattle.std.specs.Coded.{Coded, code_by, coded×, coded_ℕ, coded_option}
use Rattle.least_pairs.specs.Runs.{Label}

-- a label is stored as its cost, its link and its turn
abbrev pub label_code : {C : Type 0} → Coded C → Coded (Label C)
label_code {C = C} c = code_by (C × (ℕ × ℕ)) (coded× c (coded× coded_ℕ coded_ℕ)) (λ l. (l.cost, (l.link, l.turn))) (λ p. record { cost = p.0; link = p.1.0; turn = p.1.1 }) (λ _. refl)

-- and so is what may be one
abbrev pub some_label_code : {C : Type 0} → Coded C → Coded (Option (Label C))
some_label_code c = coded_option (label_code c)
