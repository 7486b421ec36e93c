-- How many rows are held.
use Rattle.std.proofs.Common.{◌≡◌, ℕ, zero, suc, ◌+◌, ◌-◌, ◌≤◌, ◌<◌, cond, length, get_or, take, refl, sym, ap, ◌∙◌, arith, add-one}
use Rattle.std.specs.List.{sum_by, count_by}
use Rattle.std.proofs.lemmas.Bool.{cond-true}
use Rattle.std.proofs.lemmas.List.{take_all}
use Rattle.std.proofs.lemmas.List.Sums.{sum_by_more}
use Rattle.ledger.specs.Rows.{entry_of, entries, is_held, summed, over_circuits, held_rows}
use Rattle.ledger.specs.declared.row.Row.{Row}
use Rattle.ledger.specs.declared.row.Row.TheVariants.{Vacant}
use Rattle.ledger.specs.declared.rows.Rows.{Rows}
use Rattle.ledger.proofs.Sums.{is_sound}

-- 1 for a row that is held, and 0 for any other
abbrev held_in : Row → ℕ
held_in row = cond (is_held (entry_of row)) 1 0

module _ (rows : Rows) where
  -- the entry of the circuit after n is the row at n
  entry_after : (n : ℕ) → n < 32 → entries rows (suc n) ≡ entry_of (get_or rows.list n Vacant)
  entry_after n low =
      let place : suc n - 1 ≡ n = omega arith in
      cond-true _ _ _ (is_sound (suc n) (omega arith) (omega arith)) ∙ ap (λ i. entry_of (get_or rows.list i Vacant)) place

  counted_to : (n : ℕ) → n ≤ 32 → n ≤ length rows.list → sum_by held_in (take n rows.list) ≡ summed (λ c. cond (is_held (entries rows c)) 1 0) n
  unfolding summed
  counted_to zero few long = refl
  counted_to (suc n) few long =
      ap (λ k. sum_by held_in (take k rows.list)) (sym (add-one n))
      ∙ sum_by_more held_in rows.list n Vacant (omega arith)
      ∙ (λ i. counted_to n (omega arith) (omega arith) i + cond (is_held (sym (entry_after n (omega arith)) i)) 1 0)

  -- the rows that are held, counted as they stand
  pub counted : length rows.list ≡ 32 → count_by (λ row. is_held (entry_of row)) rows.list ≡ held_rows (entries rows)
  unfolding over_circuits
  counted long = ap (sum_by held_in) (sym (take_all 32 rows.list (omega arith))) ∙ counted_to 32 (omega arith) (omega arith)
