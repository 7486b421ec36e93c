-- What tables without a link hold.
use Rattle.std.proofs.Common.{◌≡◌, ℕ, cond, eqb, List, get_or, replicate, Some, None, ap, inl, inr, arith}
use Rattle.std.proofs.lemmas.Bool.{eq-eqb, cases_lt}
use Rattle.std.proofs.lemmas.List.{get_or_past, get_or-replicate, length-replicate}
use Rattle.costs.specs.Costs.{Ops}
use Rattle.least_pairs.specs.Runs.{relabelled, begun}
use Rattle.runs.specs.Tables.{held}

-- tables without a link hold no label
held_none : {C : Type 0} (k : Ops C) (costs : List C) (turns : List ℕ) (n w : ℕ) → held k costs (replicate n 65535) turns w ≡ None
held_none k costs turns n w =
    let none : get_or (replicate n 65535) w 65535 ≡ 65535 =
    elim (cases_lt w n) [ inl h ↦ get_or-replicate n w 65535 65535 h | inr h ↦ get_or_past (replicate n 65535) w 65535 (omega (arith, length-replicate {A = ℕ} n 65535)) ] in
    ap (λ b. cond b None (Some (record { cost = get_or costs w k.zero; link = get_or (replicate n 65535) w 65535; turn = get_or turns w 65535 }))) (eq-eqb (get_or (replicate n 65535) w 65535) 65535 none)

-- the tables at the beginning: without a link but for the root's label
pub held_begun : {C : Type 0} (k : Ops C) (costs : List C) (turns : List ℕ) (n root : ℕ) → relabelled (held k costs (replicate n 65535) turns) root (record { cost = k.zero; link = 0; turn = root }) ≡ (begun k root).labels
held_begun k costs turns n root = λ i. λ w. cond (eqb w root) (Some (record { cost = k.zero; link = 0; turn = root })) (held_none k costs turns n w i)
