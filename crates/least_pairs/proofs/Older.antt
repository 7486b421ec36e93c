-- Older parts of an order, and moments within them.
use Rattle.std.proofs.Common.{◌≡◌, ℕ, ◌≤◌, true, ◌⊎◌, List, [], ◌∷◌, ◌++◌, length, sym, refl, ap, ◌∙◌, subst, inl, inr, arith, length-append}
use Rattle.costs.specs.Counting.{hit, occurs}
use Rattle.costs.proofs.Counted.{hit_self}
use Rattle.least_pairs.specs.Runs.{has}
use Rattle.least_pairs.specs.Laws.{Moment}
use Rattle.least_pairs.proofs.Listed.{has_occurs, occurs_append, has_head, has_right}
use Rattle.least_pairs.proofs.Moments.{moment_has, moment_more, moment_cases}

-- some sites are the oldest of an order, in its order
pub record Older (order part : List ℕ) : Type 0 where
  pub later : List ℕ
  pub whole : order ≡ later ++ part

-- nothing is older than the whole
pub older_none : (order : List ℕ) → Older order []
older_none [] = record { later = []; whole = refl }
older_none (y ∷ order) = let o = older_none order in record { later = y ∷ o.later; whole = ap (λ z. y ∷ z) o.whole }

-- the whole is its own part
pub older_all : (order : List ℕ) → Older order order
older_all order = record { later = []; whole = refl }

-- a site and those settled before it are an older part
pub older_moment : {order : List ℕ} {y : ℕ} {S : List ℕ} → Moment order y S → Older order (y ∷ S)
older_moment m = record { later = m.later; whole = m.whole }

-- an older part with a first site is that site's moment
pub moment_older : {order : List ℕ} {y : ℕ} {S : List ℕ} → Older order (y ∷ S) → Moment order y S
moment_older o = record { later = o.later; whole = o.whole }

-- a part with a site before it
one_fewer : (later : List ℕ) (y : ℕ) (S : List ℕ) → Older (later ++ y ∷ S) S
one_fewer [] y S = record { later = y ∷ []; whole = refl }
one_fewer (x ∷ later) y S = let o = one_fewer later y S in record { later = x ∷ o.later; whole = ap (λ z. x ∷ z) o.whole }

-- what was settled before a moment is an older part
pub older_before : {order : List ℕ} {y : ℕ} {S : List ℕ} → Moment order y S → Older order S
older_before {order} {y} {S} m = subst (λ o. Older o S) (sym m.whole) (one_fewer m.later y S)

-- what stands in an older part stands in the whole
pub older_has : {order part : List ℕ} → Older order part → (x : ℕ) → has x part ≡ true → has x order ≡ true
older_has {order} {part} o x h = subst (λ z. has x z ≡ true) (sym o.whole) (has_right x o.later part h)

-- a moment of a list is one of it behind another
outward : (later part : List ℕ) (x : ℕ) (S : List ℕ) → Moment part x S → Moment (later ++ part) x S
outward [] part x S m = m
outward (y ∷ later) part x S m = moment_more y (outward later part x S m)

-- a moment of an older part is one of the whole
pub older_outward : {order part : List ℕ} → Older order part → {x : ℕ} {S : List ℕ} → Moment part x S → Moment order x S
older_outward {order} {part} o {x} {S} m = subst (λ z. Moment z x S) (sym o.whole) (outward o.later part x S m)

-- a moment of two lists together whose site stands in the second is one of that
inward : (later part : List ℕ) (x : ℕ) (S : List ℕ) → occurs x (later ++ part) ≤ 1 → has x part ≡ true → Moment (later ++ part) x S → Moment part x S
inward [] part x S once h m = m
inward (y ∷ later) part x S once h m =
    elim (moment_cases m) [
      | inl q ↦
          let here : hit x y ≡ 1 = ap (λ z. hit x z) (sym q.0) ∙ hit_self x in
          absurd (omega (arith, occurs_append x later part, has_occurs x part h))
      | inr g ↦ inward later part x S (omega arith) h g
    ]

-- a moment of a site of an older part is one of that part, where no site is settled twice
pub older_inward : {order part : List ℕ} → Older order part → {x : ℕ} {S : List ℕ} → occurs x order ≤ 1 → has x part ≡ true → Moment order x S → Moment part x S
older_inward {order} {part} o {x} {S} once h m =
    inward o.later part x S (subst (λ z. occurs x z ≤ 1) o.whole once) h (subst (λ z. Moment z x S) o.whole m)

-- a site is not settled before itself
pub moment_once : {order : List ℕ} {y : ℕ} {S : List ℕ} → occurs y order ≤ 1 → Moment order y S → has y S ≡ true → ⊥
moment_once {order} {y} {S} once m h = grind (arith, occurs_append, hit_self, has_occurs)

-- a site has one moment
pub moment_one : {order : List ℕ} {y : ℕ} {S T : List ℕ} → occurs y order ≤ 1 → Moment order y S → Moment order y T → T ≡ S
moment_one {order} {y} {S} {T} once m n =
    elim (moment_cases (older_inward (older_moment m) once (has_head y S) n)) [
      | inl q ↦ q.1
      | inr g ↦ absurd (moment_once once m (moment_has g))
    ]

-- before a list stands nothing, or a last site
next_of : (later part : List ℕ) → (later ≡ []) ⊎ ((z : ℕ) × Moment (later ++ part) z part)
next_of [] part = inl refl
next_of (y ∷ later) part =
    elim (next_of later part) [
      | inl q ↦ inr (y, record { later = []; whole = ap (λ z. y ∷ (z ++ part)) q })
      | inr n ↦ inr (n.0, moment_more y n.1)
    ]

-- an older part is the whole, or there is a site settled next
pub older_next : {order part : List ℕ} → Older order part → (order ≡ part) ⊎ ((z : ℕ) × Moment order z part)
older_next {order} {part} o =
    elim (next_of o.later part) [
      | inl q ↦ inl (o.whole ∙ ap (λ z. z ++ part) q)
      | inr n ↦ inr (n.0, subst (λ z. Moment z n.0 part) (sym o.whole) n.1)
    ]

-- a list that is no longer than one of its older parts is that part
none_later : (later part order : List ℕ) → order ≡ later ++ part → length order ≤ length part → order ≡ part
none_later [] part order e h = e
none_later (y ∷ later) part order e h = absurd (omega (arith, ap length e, length-append later part))

-- two orders that are older parts of each other are one
pub older_both : {a b : List ℕ} → Older a b → Older b a → a ≡ b
older_both {a} {b} o p =
    none_later o.later b a o.whole (omega (arith, ap length p.whole, length-append p.later a))
