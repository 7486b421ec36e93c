-- Reading as a run from record to record, which comes to one outcome.
use Rattle.std.proofs.Common.{◌≡◌, ℕ, ◌+◌, ◌<◌, List, ◌++◌, length, Some, None, sym, ap, ◌∙◌, subst, arith}
use Rattle.records.specs.Bytes.{u16_at, kind_of, payload_of, rest_of}
use Rattle.sheet_format.specs.Items.{Item, bytes_of, item_of}
use Rattle.sheet_format.specs.Rules.{Rule, Fields, Before, begun, refused, broken, added}
use Rattle.sheet_format.specs.Sheets.{Outcome, sheet, fault}
use Rattle.sheet_format.proofs.Checks.{broken_record}
use Rattle.sheet_format.proofs.Back.{Fitting, reads_back}

pub data Runs : Before → List ℕ → ℕ → Outcome → Type 0 where
  stops : {b : Before} {rest : List ℕ} {p : ℕ} {o : Outcome} (r : Rule) → broken b rest ≡ Some r → o ≡ fault r p → Runs b rest p o
  ends : {b : Before} {rest : List ℕ} {p : ℕ} {o : Outcome} (f : Fields) → broken b rest ≡ None → length rest ≡ 0 → b ≡ begun f → o ≡ sheet f → Runs b rest p o
  goes : {b : Before} {rest : List ℕ} {p : ℕ} {o : Outcome} → broken b rest ≡ None → 0 < length rest → Runs (added b (item_of (kind_of rest) (payload_of rest))) (rest_of rest) (p + (4 + u16_at rest 0)) o → Runs b rest p o

pub one_outcome : {b : Before} {rest : List ℕ} {p : ℕ} {x y : Outcome} → Runs b rest p x → Runs b rest p y → x ≡ y
one_outcome (stops r e q) (stops r' e' q') = cc
one_outcome (stops r e q) (ends f e' n i q') = cc
one_outcome (stops r e q) (goes e' n t) = cc
one_outcome (ends f e n i q) (stops r e' q') = cc
one_outcome (ends f e n i q) (ends f' e' n' i' q') = cc
one_outcome (ends f e n i q) (goes e' n' t) = absurd (omega arith)
one_outcome (goes e n t) (stops r e' q') = cc
one_outcome (goes e n t) (ends f e' n' i q) = absurd (omega arith)
one_outcome (goes e n t) (goes e' n' t') = one_outcome t t'

-- one record that breaks no rule, and then on
pub over : (b : Before) (x : Item) (more : List ℕ) (p : ℕ) (o : Outcome) → Fitting x → refused b x ≡ None → Runs (added b x) more (p + length (bytes_of x)) o → Runs b (bytes_of x ++ more) p o
over b x more p o fits none t =
    let r = reads_back x more fits in
    goes (broken_record b (bytes_of x ++ more) r.some r.whole r.shape ∙ ap (refused b) r.item ∙ none) r.some
    (subst (λ y. Runs (added b y) (rest_of (bytes_of x ++ more)) (p + (4 + u16_at (bytes_of x ++ more) 0)) o) (sym r.item)
    (subst (λ l. Runs (added b x) l (p + (4 + u16_at (bytes_of x ++ more) 0)) o) (sym r.rest)
    (subst (λ n. Runs (added b x) more (p + n) o) (sym r.size) t)))
