-- Walks cut to routes, and walks in a view with a link left out.
use Rattle.std.proofs.Common.{◌≡◌, ℕ, ◌+◌, ◌≤◌, true, false, cond, not, eqb, List, [], ◌∷◌, length, sym, refl, ap, ◌∙◌, subst, inl, inr, arith}
use Rattle.std.proofs.lemmas.Bool.{cases_Bool, and_from, and_parts, not_from_false, not-true, ne_eqb, eqb-false, eqb-true}
use Rattle.costs.specs.Costs.{Ops}
use Rattle.costs.specs.Counting.{occurs}
use Rattle.least_pairs.specs.Views.{View, without}
use Rattle.least_pairs.specs.Routes.{Walk, Route}
use Rattle.least_pairs.specs.Runs.{has}
use Rattle.least_pairs.proofs.Sight.{SoundView}
use Rattle.least_pairs.proofs.Listed.{has_head, has_tail, has_cases, has_right, has_parts, lacks_more, lacks_head, lacks_tail, lacks_occurs, occurs_append}
use Rattle.least_pairs.proofs.Walks.{walk_parts}

-- a walk over some of another's links, none twice
pub record Shorter {C : Type 0} (v : View C) (a b : ℕ) (es : List ℕ) : Type 0 where
  pub links : List ℕ
  pub leads : Walk v a links b
  pub once : (e : ℕ) → occurs e links ≤ 1
  pub within : (e : ℕ) → has e links ≡ true → has e es ≡ true

module _ {C : Type 0} (v : View C) where
  -- every walk can be cut to one that uses no link twice
  pub shorter : (es : List ℕ) (a b : ℕ) → Walk v a es b → Shorter v a b es
  shorter [] a b w = record { links = []; leads = w; once = λ e. omega arith; within = λ e h. h }
  shorter (x ∷ es) a b w =
      let s = shorter es (v.end x) b w.2 in
      elim (cases_Bool (has x s.links)) [
        | inl t ↦
            let p = has_parts x s.links t in
            let q = walk_parts v p.0 (x ∷ p.1) (v.end x) b (subst (λ l. Walk v (v.end x) l b) p.2 s.leads) in
            record {
              links = x ∷ p.1;
              leads = (w.0, w.1, q.2.2);
              once = λ e. omega (arith, s.once e, ap (occurs e) p.2, occurs_append e p.0 (x ∷ p.1));
              within = λ e h. has_tail e x es (s.within e (ap (has e) p.2 ∙ has_right e p.0 (x ∷ p.1) h));
            }
        | inr f ↦
            record {
              links = x ∷ s.links;
              leads = (w.0, w.1, s.leads);
              once = λ e. fresh s.links s.once f e;
              within = λ e h. grind (arith, has_cases, has_head, has_tail, s.within);
            }
      ]
    where
      fresh : (ls : List ℕ) → ((e : ℕ) → occurs e ls ≤ 1) → has x ls ≡ false → (e : ℕ) → occurs e (x ∷ ls) ≤ 1
      fresh ls single f e =
          (elim (eqb e x) as (λ b. eqb e x ≡ b → cond b 1 0 + occurs e ls ≤ 1) [
            | true ↦ λ t. let q : occurs e ls ≡ 0 = ap (λ z. occurs z ls) (eqb-true e x t) ∙ lacks_occurs x ls f in omega arith
            | false ↦ λ t. omega (arith, single e)
          ]) refl

  -- a walk between two sites can be cut to a route
  pub walk_route : (es : List ℕ) (a b : ℕ) → (a ≡ b → ⊥) → Walk v a es b → (rs : List ℕ) × Route v a b rs × ((e : ℕ) → has e rs ≡ true → has e es ≡ true)
  walk_route es a b n w = let s = shorter es a b w in (s.links, record { some = long s.links s.leads; leads = s.leads; once = s.once }, s.within)
    where
      long : (ls : List ℕ) → Walk v a ls b → 1 ≤ length ls
      long [] l = absurd (n l)
      long (x ∷ ls) l = omega arith

  -- a walk that does not use a link is one without it
  pub walk_without : (f : ℕ) (es : List ℕ) (a b : ℕ) → Walk v a es b → has f es ≡ false → Walk (without f v) a es b
  walk_without f [] a b w h = w
  walk_without f (x ∷ es) a b w h =
      (and_from (v.usable x) (not (eqb x f)) w.0 (not_from_false (eqb x f) (ne_eqb x f (λ q. lacks_head f x es h (sym q)))), w.1, walk_without f es (v.end x) b w.2 (lacks_tail f x es h))

  -- a walk without a link is one that does not use it
  pub walk_with : (f : ℕ) (es : List ℕ) (a b : ℕ) → Walk (without f v) a es b → Walk v a es b × (has f es ≡ false)
  walk_with f [] a b w = (w, refl)
  walk_with f (x ∷ es) a b w =
      let u = and_parts (v.usable x) (not (eqb x f)) w.0 in
      let r = walk_with f es (v.end x) b w.2 in
      ((u.0, w.1, r.0), lacks_more f x es (λ q. eqb-false x f (not-true (eqb x f) u.1) (sym q)) r.1)

-- a sound view without a link is sound
pub sound_without : {C : Type 0} {k : Ops C} {v : View C} → SoundView k v → (f : ℕ) → SoundView k (without f v)
sound_without {C} {k} {v} s f =
    let usable : (e : ℕ) → (without f v).usable e ≡ true → v.usable e ≡ true = λ e h. (and_parts (v.usable e) (not (eqb e f)) h).0 in
    record {
      link = λ e h. s.link e (usable e h);
      start = λ e h. s.start e (usable e h);
      end = λ e h. s.end e (usable e h);
      apart = λ e h. s.apart e (usable e h);
      least = λ e h. s.least e (usable e h);
    }
