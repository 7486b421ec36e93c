-- What the second run considers, by the parts of its test.
use Rattle.std.proofs.Common.{◌≡◌, ℕ, true, false, not, ◌&&◌, ◌||◌, eqb, ◌⊎◌, List, ◌∷◌, inl, inr}
use Rattle.std.proofs.lemmas.Bool.{and_parts, and_from, or_cases, or_left, or_right, not-true, not_from_false, eqb-true, eqb-false, eq-eqb, ne_eqb}
use Rattle.costs.specs.Costs.{Ops}
use Rattle.least_pairs.specs.Views.{View}
use Rattle.least_pairs.specs.Runs.{State}
use Rattle.least_pairs.specs.Trees.{joined}
use Rattle.least_pairs.specs.Plans.{second_job, tree_link, up}

-- a usable link that is no tree link, with both ends in the piece of y, that does not end at y, and starts there or joins two parts of the piece without y
pub record Crosses {C : Type 0} (v : View C) (root : ℕ) (first : State C) (y : ℕ) (S : List ℕ) (e : ℕ) : Type 0 where
  pub usable : v.usable e ≡ true
  pub no_tree : tree_link v first root e ≡ false
  pub start_in : joined (up first) S y (v.start e) ≡ true
  pub end_in : joined (up first) S y (v.end e) ≡ true
  pub other : v.end e ≡ y → ⊥
  pub parts : (v.start e ≡ y) ⊎ (joined (up first) (y ∷ S) (v.start e) (v.end e) ≡ false)

module _ {C : Type 0} (k : Ops C) (v : View C) (root : ℕ) (first : State C) (y : ℕ) (S : List ℕ) (e : ℕ) where
  -- what the second run considers is such a link
  pub second_considered : (second_job k v root first).considers y S e ≡ true → Crosses v root first y S e
  second_considered h =
      let a = and_parts (v.usable e && not (tree_link v first root e)) ((joined (up first) S y (v.start e) && joined (up first) S y (v.end e)) && (not (eqb (v.end e) y) && (eqb (v.start e) y || not (joined (up first) (y ∷ S) (v.start e) (v.end e))))) h in
      let b = and_parts (v.usable e) (not (tree_link v first root e)) a.0 in
      let c = and_parts (joined (up first) S y (v.start e) && joined (up first) S y (v.end e)) (not (eqb (v.end e) y) && (eqb (v.start e) y || not (joined (up first) (y ∷ S) (v.start e) (v.end e)))) a.1 in
      let d = and_parts (joined (up first) S y (v.start e)) (joined (up first) S y (v.end e)) c.0 in
      let f = and_parts (not (eqb (v.end e) y)) (eqb (v.start e) y || not (joined (up first) (y ∷ S) (v.start e) (v.end e))) c.1 in
      record {
        usable = b.0;
        no_tree = not-true (tree_link v first root e) b.1;
        start_in = d.0;
        end_in = d.1;
        other = eqb-false (v.end e) y (not-true (eqb (v.end e) y) f.0);
        parts =
            elim (or_cases (eqb (v.start e) y) (not (joined (up first) (y ∷ S) (v.start e) (v.end e))) f.1) [
              | inl s ↦ inl (eqb-true (v.start e) y s)
              | inr n ↦ inr (not-true (joined (up first) (y ∷ S) (v.start e) (v.end e)) n)
            ];
      }

  -- and such a link is considered
  pub second_considers : Crosses v root first y S e → (second_job k v root first).considers y S e ≡ true
  second_considers c =
      let parts : (eqb (v.start e) y || not (joined (up first) (y ∷ S) (v.start e) (v.end e))) ≡ true =
      elim c.parts [
        | inl s ↦ or_left (eqb (v.start e) y) (not (joined (up first) (y ∷ S) (v.start e) (v.end e))) (eq-eqb (v.start e) y s)
        | inr n ↦ or_right (eqb (v.start e) y) (not (joined (up first) (y ∷ S) (v.start e) (v.end e))) (not_from_false (joined (up first) (y ∷ S) (v.start e) (v.end e)) n)
      ] in
      and_from (v.usable e && not (tree_link v first root e)) ((joined (up first) S y (v.start e) && joined (up first) S y (v.end e)) && (not (eqb (v.end e) y) && (eqb (v.start e) y || not (joined (up first) (y ∷ S) (v.start e) (v.end e)))))
      (and_from (v.usable e) (not (tree_link v first root e)) c.usable (not_from_false (tree_link v first root e) c.no_tree))
      (and_from (joined (up first) S y (v.start e) && joined (up first) S y (v.end e)) (not (eqb (v.end e) y) && (eqb (v.start e) y || not (joined (up first) (y ∷ S) (v.start e) (v.end e))))
      (and_from (joined (up first) S y (v.start e)) (joined (up first) S y (v.end e)) c.start_in c.end_in)
      (and_from (not (eqb (v.end e) y)) (eqb (v.start e) y || not (joined (up first) (y ∷ S) (v.start e) (v.end e))) (not_from_false (eqb (v.end e) y) (ne_eqb (v.end e) y c.other)) parts))
