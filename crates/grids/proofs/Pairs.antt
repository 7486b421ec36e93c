-- Streets as pairs of links: what is added, and what stands where.
use Rattle.std.proofs.Common.{rules, tests, ◌≡◌, ℕ, zero, suc, ◌+◌, ◌-◌, ◌*◌, ◌/◌, ◌%◌, ◌<◌, ◌≤◌, true, List, [], ◌∷◌, ◌++◌, length, get_or, sym, refl, ap, ◌∙◌, ⊎_elim, mod-lt, mul_comm, mul-le-mul, mul-one, mul-add, arith, length-append, get_or-append-add}
use lib.Arith.{digits_lt}
use lib.Seq.{get_or_at}
use Rattle.std.proofs.lemmas.List.{get_or_append_left}
use Rattle.std.proofs.lemmas.Nat.{div-add-mod', div_below}
use Rattle.std.proofs.lemmas.Bool.{cases_lt}
use Rattle.networks.specs.declared.model.Link.{Link}
use Rattle.networks.specs.Meaning.{link_sound}
use Rattle.grids.specs.Streets.{street, two_ways, row_site, Plan}

module _ (from : ℕ → ℕ) (step metres channels : ℕ) where
  -- two links for each street
  pub two_ways_length : (m : ℕ) → length (two_ways from step metres channels m) ≡ 2 * m
  two_ways_length zero = refl
  two_ways_length (suc m) =
      let before = two_ways_length m in
      length-append (two_ways from step metres channels m) (street (from m) (from m + step) metres channels ∷ street (from m + step) (from m) metres channels ∷ []) ∙ omega (arith, before)

  -- the same behind other links
  pub longer : (before : List Link) (m : ℕ) → length (before ++ two_ways from step metres channels m) ≡ length before + 2 * m
  longer before m = length-append before (two_ways from step metres channels m) ∙ ap (λ k. length before + k) (two_ways_length m)

  -- the links of street i stand at 2 i and the next place
  pub two_ways_at : (m i : ℕ) (d : Link) → i < m → (get_or (two_ways from step metres channels m) (2 * i) d ≡ street (from i) (from i + step) metres channels) × (get_or (two_ways from step metres channels m) (2 * i + 1) d ≡ street (from i + step) (from i) metres channels)
  two_ways_at zero i d h = absurd (omega arith)
  two_ways_at (suc m) i d h =
      let before = two_ways from step metres channels m in
      let there = street (from m) (from m + step) metres channels in
      let back = street (from m + step) (from m) metres channels in
      let long = two_ways_length m in
      ⊎_elim
      (λ lt.
      let first : 2 * i < length before = omega arith in
      let next : 2 * i + 1 < length before = omega arith in
      let ih = two_ways_at m i d lt in
      (get_or_append_left before (there ∷ back ∷ []) d (2 * i) first ∙ ih.0, get_or_append_left before (there ∷ back ∷ []) d (2 * i + 1) next ∙ ih.1))
      (λ ge.
      let here : i ≡ m = omega arith in
      let first : length before ≡ 2 * i = omega arith in
      let next : 2 * i + 1 ≡ length before + 1 = omega arith in (
        get_or_at before there (back ∷ []) d (2 * i) first ∙ ap (λ k. street (from k) (from k + step) metres channels) (sym here),
        ap (λ k. get_or (before ++ there ∷ back ∷ []) k d) next ∙ get_or-append-add before (there ∷ back ∷ []) 1 d ∙ ap (λ k. street (from k + step) (from k) metres channels) (sym here),
      ))
      (cases_lt i m)

-- the numbers of a plan, and what follows of its streets
module _ {w h metres channels : ℕ} (plan : Plan w h metres channels) where
  -- a street along a row joins two sites
  pub row_inside : (m : ℕ) → m < h * (w - 1) → row_site w m + 1 < w * h
  row_inside m lt =
      let low = plan.few_columns in
      let some : 0 < w - 1 = omega arith in
      let whole : m / (w - 1) * (w - 1) + m % (w - 1) ≡ m = div-add-mod' m (w - 1) in
      let row : m / (w - 1) < h = div_below m (w - 1) h some lt in
      let column : m % (w - 1) < w - 1 = mod-lt m some in
      let next : m % (w - 1) + 1 < w = omega arith in
      let split : m / (w - 1) * w ≡ m / (w - 1) * (w - 1) + m / (w - 1) =
      ap (λ c. m / (w - 1) * c) {x = w} {y = w - 1 + 1} (omega arith) ∙ mul-add (m / (w - 1)) (w - 1) 1 ∙ ap (λ c. m / (w - 1) * (w - 1) + c) (mul-one (m / (w - 1))) in
      let all : m / (w - 1) * w + (m % (w - 1) + 1) < h * w = digits_lt row next in
      omega (arith, mul_comm w h)

  -- a street across joins two sites
  pub column_inside : (m : ℕ) → m < w * (h - 1) → m + w < w * h
  column_inside m lt =
      let low = plan.few_rows in
      let split : w * h ≡ w * (h - 1) + w = ap (λ c. w * c) {x = h} {y = h - 1 + 1} (omega arith) ∙ mul-add w (h - 1) 1 ∙ ap (λ c. w * (h - 1) + c) (mul-one w) in
      omega arith

  -- there are few sites, and few links
  pub few_sites : (4 ≤ w * h) × (w * h ≤ 256)
  few_sites = (mul-le-mul plan.few_columns plan.few_rows, mul-le-mul plan.most_columns plan.most_rows)

  pub few_streets : (h * (w - 1) ≤ 240) × (w * (h - 1) ≤ 240)
  few_streets =
      let a : w - 1 ≤ 15 = omega (arith, plan.most_columns) in
      let b : h - 1 ≤ 15 = omega (arith, plan.most_rows) in
      (mul-le-mul plan.most_rows a, mul-le-mul plan.most_columns b)

  -- a street between two different sites of the grid is sound
  pub street_fits : (sites a b : ℕ) → sites ≡ w * h → a < w * h → b < w * h → (a ≡ b → ⊥) → link_sound sites (street a b metres channels) ≡ true
  unfolding link_sound
  street_fits sites a b all low inside apart =
      let most_metres = plan.most_metres in
      let some_metres = plan.some_metres in
      let most_channels = plan.most_channels in
      let some_channels = plan.some_channels in
      search (rules, tests, arith)
