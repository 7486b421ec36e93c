-- Three tables that hold labels, a site without a link having none, tell the links and the turns of the labels.
use Rattle.std.proofs.Common.{◌≡◌, ℕ, ◌<◌, cond, eqb, List, get_or, Some, None, Option, sym, ap, ◌∙◌, inl, inr}
use Rattle.std.proofs.lemmas.Bool.{cases_Bool, cond-true, cond-false, false≢true}
use Rattle.costs.specs.Costs.{Ops}
use Rattle.least_pairs.specs.Runs.{Label}
use Rattle.least_pairs.specs.Trees.{turn_of}
use Rattle.least_pairs.specs.Plans.{link_of, labelled}
use Rattle.pairs.specs.Tables.{Tells}

module _ {C : Type 0} (k : Ops C) (n : ℕ) (costs : List C) (links turns : List ℕ) (labels : ℕ → Option (Label C)) where
  -- the label of a site, as the tables hold it
  abbrev pub at : ℕ → Label C
  at w = record { cost = get_or costs w k.zero; link = get_or links w 65535; turn = get_or turns w 65535 }

  -- where the labels have one, the tables hold it
  the_label : (w : ℕ) (l : Label C) → cond (eqb (get_or links w 65535) 65535) None (Some (at w)) ≡ Some l → Some (at w) ≡ Some l
  the_label w l e =
      elim (cases_Bool (eqb (get_or links w 65535) 65535)) [
        | inl t ↦ absurd (false≢true (ap labelled (sym (cond-true (eqb (get_or links w 65535) 65535) None (Some (at w)) t) ∙ e)))
        | inr f ↦ sym (cond-false (eqb (get_or links w 65535) 65535) None (Some (at w)) f) ∙ e
      ]

  pub tells_links : ((w : ℕ) → w < n → cond (eqb (get_or links w 65535) 65535) None (Some (at w)) ≡ labels w) → Tells n links (λ l. l.link) labels
  tells_links holds w lt l is = ap link_of (the_label w l (holds w lt ∙ is))

  pub tells_turns : ((w : ℕ) → w < n → cond (eqb (get_or links w 65535) 65535) None (Some (at w)) ≡ labels w) → Tells n turns (λ l. l.turn) labels
  tells_turns holds w lt l is = ap (λ o. turn_of o w) (the_label w l (holds w lt ∙ is))
