-- All bytes mean something.
use Rattle.std.proofs.Common.{◌≡◌, ℕ, zero, suc, ◌+◌, ◌<◌, Bool, true, false, cond, List, ◌++◌, length, get_or, drop, Some, None, Option, sym, refl, ap, ◌∙◌, ⊎_elim, append_assoc, append-nil, arith, length-drop}
use Rattle.std.proofs.lemmas.List.{nil_from_length}
use Rattle.std.proofs.lemmas.Bool.{cond-false, ne_eqb, eqb-true, cases_eq}
use Rattle.records.specs.Bytes.{u16_at, cut_short, kind_of, payload_of, rest_of}
use Rattle.records.proofs.Cutting.{Bytes, bytes_take, bytes_drop, written_is}
use Rattle.sheet_format.specs.Items.{bytes_of, shaped, item_of}
use Rattle.sheet_format.specs.Rules.{Rule, Before, unbegun, begun, refused, broken, added}
use Rattle.sheet_format.specs.Sheets.{written, written_before, LawfulBefore, Outcome, sheet, fault, Means}
use Rattle.sheet_format.proofs.Checks.{broken_end}
use Rattle.sheet_format.proofs.Steps.{whole_item, proper_item, grows, written_more}

all_passed : (c s : Bool) (r : Option Rule) (x y : Rule) → cond c (Some x) (cond s r (Some y)) ≡ None → (c ≡ false) × (s ≡ true) × (r ≡ None)
all_passed c s r x y h = grind arith

-- bytes that break no rule begin with a record that is taken
passed : (b : Before) (rest : List ℕ) → (length rest ≡ 0 → ⊥) → broken b rest ≡ None → (cut_short rest ≡ false) × (shaped (kind_of rest) (length (payload_of rest)) ≡ true) × (refused b (item_of (kind_of rest) (payload_of rest)) ≡ None)
passed b rest some h = all_passed _ _ _ _ _ (sym (cond-false _ _ _ (ne_eqb _ _ some)) ∙ h)

count_right : (t : Bool) (r : Rule) → ◌≡◌ {A = Option Rule} (cond t None (Some r)) None → t ≡ true
count_right t r h = grind arith

-- where no byte is left
at_end : (bytes rest : List ℕ) (b : Before) → LawfulBefore b → bytes ≡ written_before b ++ rest → length rest ≡ 0 → broken b rest ≡ None → (x : Outcome) × Means bytes x
at_end bytes rest unbegun law split none h = cc (broken_end unbegun rest none)
at_end bytes rest (begun f) law split none h =
    let same : length f.links ≡ f.count = eqb-true _ _ (count_right _ _ (sym (broken_end (begun f) rest none) ∙ h)) in
    (sheet f, (record { beginning = law; complete = same }, split ∙ ap (λ l. written f ++ l) (nil_from_length rest none) ∙ append-nil (written f)))

go : (n : ℕ) (bytes rest : List ℕ) (b : Before) → length rest < n → Bytes rest → LawfulBefore b → bytes ≡ written_before b ++ rest → (x : Outcome) × Means bytes x
go zero bytes rest b less typed law split = absurd (omega arith)
go (suc n) bytes rest b less typed law split =
    (elim (broken b rest) as (λ o. broken b rest ≡ o → (x : Outcome) × Means bytes x) [
      | Some r ↦ λ h. (fault r (length (written_before b)), record { before = b; rest = rest; lawful = law; split = split; at_place = refl; breaks = h })
      | None ↦ λ h. ⊎_elim (λ none. at_end bytes rest b law split none h)
          (λ some.
          let p = passed b rest some h in
          let x = item_of (kind_of rest) (payload_of rest) in
          let item = whole_item (payload_of rest) (bytes_take (u16_at rest 0) (drop 4 rest) (bytes_drop 4 rest typed)) (kind_of rest) p.1 in
          let parts : rest ≡ bytes_of x ++ rest_of rest = written_is rest typed p.0 ∙ ap (λ l. l ++ rest_of rest) (sym item.0) in
          let further : length (rest_of rest) < n = omega (arith, length-drop (4 + u16_at rest 0) rest, some) in
          go n bytes (rest_of rest) (added b x) further (bytes_drop (4 + u16_at rest 0) rest typed) (grows b x law (proper_item (kind_of rest) (payload_of rest) p.1) p.2)
          (split ∙ ap (λ l. written_before b ++ l) parts ∙ sym (append_assoc (written_before b) (bytes_of x) (rest_of rest)) ∙ ap (λ l. l ++ rest_of rest) (sym (written_more b x p.2))))
          (cases_eq (length rest) 0)
    ]) refl

pub total : (bytes : List ℕ) → ((i : ℕ) → get_or bytes i 0 < 256) → (x : Outcome) × Means bytes x
total bytes typed = go (suc (length bytes)) bytes bytes unbegun (omega arith) (λ i. record { fits = typed i }) tt refl
