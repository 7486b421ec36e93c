-- The bytes left at a place of a sheet, and the record that they begin with.
use Rattle.std.proofs.Common.{◌≡◌, ℕ, ◌+◌, ◌-◌, ◌<◌, ◌≤◌, true, false, eqb, List, ◌++◌, length, drop, sym, refl, ap, ◌∙◌, arith, length-append, length-drop}
use Rattle.std.proofs.lemmas.List.{drop_at}
use Rattle.std.proofs.lemmas.Bool.{eqb-false}
use Rattle.records.specs.Bytes.{record_bytes, cut_short, kind_of, payload_of, First}
use Rattle.sheet_format.specs.Items.{bytes_of, shaped, item_of}
use Rattle.sheet_records.specs.declared.record.Placed.{Placed}
use Rattle.sheet_records.specs.Records.{item, Found}

-- the bytes left, where there are some
some_left : (sheet left : List ℕ) (place : ℕ) → left ≡ drop place sheet → eqb (length left) 0 ≡ false → 0 < length (drop place sheet)
some_left sheet left place same h = let ne = eqb-false (length left) 0 h in let e = ap length same in omega arith

-- a record that was cut off and is of the right shape
module _ (sheet left : List ℕ) (place : ℕ) (same : left ≡ drop place sheet) (inside : place ≤ length sheet) (kind : ℕ) (payload rest : List ℕ) (first : First left kind payload rest) where
  length_left : length left ≡ length (record_bytes kind payload) + length rest
  length_left = ap length first.written ∙ length-append (record_bytes kind payload) rest

  cut_whole : cut_short (drop place sheet) ≡ false
  cut_whole = ap cut_short (sym same) ∙ first.whole

  same_shape : shaped kind (length payload) ≡ shaped (kind_of (drop place sheet)) (length (payload_of (drop place sheet)))
  same_shape = (λ i. shaped (first.kind_is i) (length (first.payload_is i))) ∙ ap (λ l. shaped (kind_of l) (length (payload_of l))) same

  pub found : (p : Placed) → p.place ≡ place → eqb (length left) 0 ≡ false → shaped kind (length payload) ≡ true → item p.record ≡ item_of kind payload → bytes_of (item p.record) ≡ record_bytes kind payload → Found (drop place sheet) place p (length sheet - length rest)
  found p begins some shape says bytes =
      let size : length (bytes_of (item p.record)) ≡ length (record_bytes kind payload) = ap length bytes in
      let whole : drop place sheet ≡ bytes_of (item p.record) ++ rest = sym same ∙ first.written ∙ ap (λ l. l ++ rest) (sym bytes) in
      record {
        some = some_left sheet left place same some;
        whole = cut_whole;
        shape = sym same_shape ∙ shape;
        says = says ∙ (λ i. item_of (first.kind_is i) (first.payload_is i)) ∙ ap (λ l. item_of (kind_of l) (payload_of l)) same;
        split = whole ∙ ap (λ l. bytes_of (item p.record) ++ l) (sym (ap (drop (length (bytes_of (item p.record)))) whole ∙ drop_at (bytes_of (item p.record)) rest _ refl));
        begins = begins;
        ends = omega (arith, length_left, ap length same, length-drop place sheet);
      }
