-- The whole grid: the list that is made is the grid, every link of it is a street's, and nothing else is.
use Rattle.std.proofs.Common.{rules, tests, ◌≡◌, ℕ, ◌+◌, ◌-◌, ◌*◌, ◌/◌, ◌%◌, ◌<◌, ◌≤◌, true, eqb, ◌⊎◌, ◌++◌, length, get_or, sym, refl, ap, ◌∙◌, subst, inl, inr, ⊎_elim, mod-lt, mul_assoc, mul_comm, mul-one, mul-add, arith, length-append, get_or-append-add, ext_get_or, eq-eqb, ne_eqb}
use lib.Arith.{digits_lt, digits_div}
use Rattle.std.proofs.lemmas.List.{get_or_append_left}
use Rattle.std.proofs.lemmas.Nat.{div-add-mod', div_below}
use Rattle.std.proofs.lemmas.Bool.{cases_lt, cond-true, cond-false}
use Rattle.networks.specs.Meaning.{Net, link_at, no_link}
use Rattle.grids.specs.Streets.{street, net, two_ways, row_site, grid_within, BothWays, Grid, Plan, beside, turned, ReturnLinksStandBeside}
use Rattle.grids.proofs.Pairs.{two_ways_length, two_ways_at}

-- numbers within their limits make a plan along and a plan across
pub plans : (w h along across channels : ℕ) → grid_within w h along across channels ≡ true → Plan w h along channels × Plan w h across channels
unfolding grid_within
plans w h along across channels e =
    let plan : (metres : ℕ) → 1 ≤ metres → metres ≤ 1000000 → Plan w h metres channels = λ metres low high. record {
      few_columns = search (rules, tests);
      most_columns = search (rules, tests);
      few_rows = search (rules, tests);
      most_rows = search (rules, tests);
      some_metres = low;
      most_metres = high;
      some_channels = search (rules, tests);
      most_channels = search (rules, tests);
    } in
    (plan along (search (rules, tests)) (search (rules, tests)), plan across (search (rules, tests)) (search (rules, tests)))

-- a number and its half
halves : (k m : ℕ) → k / 2 ≡ m → (k ≡ 2 * m) ⊎ (k ≡ 2 * m + 1)
halves k m e =
    let whole : k / 2 * 2 + k % 2 ≡ k = div-add-mod' k 2 in
    let small : k % 2 < 2 = mod-lt k (omega arith) in
    ⊎_elim (λ lt. inl (omega arith)) (λ ge. inr (omega arith)) (cases_lt (k % 2) 1)

-- the number beside an even one, and beside an odd one
beside_even : (m : ℕ) → beside (2 * m) ≡ 2 * m + 1
beside_even m =
    let whole : 2 * m / 2 * 2 + 2 * m % 2 ≡ 2 * m = div-add-mod' (2 * m) 2 in
    let small : 2 * m % 2 < 2 = mod-lt (2 * m) (omega arith) in
    let even : 2 * m % 2 ≡ 0 = omega arith in
    cond-true (eqb (2 * m % 2) 0) (2 * m + 1) (2 * m - 1) (eq-eqb (2 * m % 2) 0 even)

beside_odd : (m : ℕ) → beside (2 * m + 1) ≡ 2 * m
beside_odd m =
    let whole : (2 * m + 1) / 2 * 2 + (2 * m + 1) % 2 ≡ 2 * m + 1 = div-add-mod' (2 * m + 1) 2 in
    let small : (2 * m + 1) % 2 < 2 = mod-lt (2 * m + 1) (omega arith) in
    let odd : ((2 * m + 1) % 2 ≡ 0 → ⊥) = λ e. omega arith in
    cond-false (eqb ((2 * m + 1) % 2) 0) (2 * m + 1 + 1) (2 * m + 1 - 1) (ne_eqb ((2 * m + 1) % 2) 0 odd) ∙ omega arith

module _ (across : ℕ) {w h along channels : ℕ} (plan : Plan w h along channels) where
  -- a product with one column fewer
  less_one : (i : ℕ) → i * w ≡ i * (w - 1) + i
  less_one i =
      let low = plan.few_columns in
      ap (λ c. i * c) {x = w} {y = w - 1 + 1} (omega arith) ∙ mul-add i (w - 1) 1 ∙ ap (λ c. i * (w - 1) + c) (mul-one i)

  -- the site of row i and column j begins the street of that number along the rows
  row_of : (i j : ℕ) → i < h → j < w - 1 → (i * w + j - i ≡ i * (w - 1) + j) × (i * (w - 1) + j < h * (w - 1)) × (row_site w (i * (w - 1) + j) ≡ i * w + j)
  row_of i j hi hj =
      let e = less_one i in
      let d : (i * (w - 1) + j) / (w - 1) ≡ i = digits_div i hj in
      (omega arith, digits_lt hi hj, ap (λ q. i * (w - 1) + j + q) d ∙ omega arith)

  -- the list that is made is the grid
  pub is_grid : (n : Net) → n ≡ net (w * h) (two_ways (row_site w) 1 along channels (h * (w - 1)) ++ two_ways (λ m. m) w across channels (w * (h - 1))) → Grid w h along across channels n
  is_grid n e =
      let rows = two_ways (row_site w) 1 along channels (h * (w - 1)) in
      let cols = two_ways (λ m. m) w across channels (w * (h - 1)) in
      let long_rows = two_ways_length (row_site w) 1 along channels (h * (w - 1)) in
      let long_cols = two_ways_length (λ m. m) w across channels (w * (h - 1)) in
      let at : (k : ℕ) → link_at n k ≡ get_or (rows ++ cols) k no_link = λ k. ap (λ m. link_at m k) e in
      record {
        sites = ap (λ m. m.sites) e;
        count = ap (λ m. length m.links) e ∙ length-append rows cols ∙ omega arith;
        rows = λ i j hi hj.
            let r = row_of i j hi hj in
            let m = i * (w - 1) + j in
            let placed = two_ways_at (row_site w) 1 along channels (h * (w - 1)) m no_link r.1 in
            let here : 2 * (i * w + j - i) ≡ 2 * m = ap (λ x. 2 * x) r.0 in
            let first : 2 * m < length rows = omega (arith, r.1) in
            let next : 2 * m + 1 < length rows = omega (arith, r.1) in (
              at (2 * (i * w + j - i)) ∙ ap (λ k. get_or (rows ++ cols) k no_link) here ∙ get_or_append_left rows cols no_link (2 * m) first ∙ placed.0 ∙ ap (λ s. street s (s + 1) along channels) r.2,
              at (2 * (i * w + j - i) + 1) ∙ ap (λ k. get_or (rows ++ cols) (k + 1) no_link) here ∙ get_or_append_left rows cols no_link (2 * m + 1) next ∙ placed.1 ∙ ap (λ s. street (s + 1) s along channels) r.2,
            );
        columns = λ i j hi hj.
            let s = i * w + j in
            let inside : s < w * (h - 1) = subst (λ x. s < x) (mul_comm (h - 1) w) (digits_lt hi hj) in
            let placed = two_ways_at (λ m. m) w across channels (w * (h - 1)) s no_link inside in
            let here : 2 * (h * (w - 1)) + 2 * s ≡ length rows + 2 * s = omega arith in
            let next : 2 * (h * (w - 1)) + 2 * s + 1 ≡ length rows + (2 * s + 1) = omega arith in (
              at (2 * (h * (w - 1)) + 2 * s) ∙ ap (λ k. get_or (rows ++ cols) k no_link) here ∙ get_or-append-add rows cols (2 * s) no_link ∙ placed.0,
              at (2 * (h * (w - 1)) + 2 * s + 1) ∙ ap (λ k. get_or (rows ++ cols) k no_link) next ∙ get_or-append-add rows cols (2 * s + 1) no_link ∙ placed.1,
            );
      }

  -- which street a link number belongs to, in every such grid
  pub record Belongs (k : ℕ) : Type 0 where
    pub pair : ℕ
    pub from : ℕ
    pub to : ℕ
    pub metres : ℕ
    pub inside : 2 * pair + 1 < 2 * (h * (w - 1)) + 2 * (w * (h - 1))
    pub which : (k ≡ 2 * pair) ⊎ (k ≡ 2 * pair + 1)
    pub both : (n : Net) → Grid w h along across channels n → BothWays n (2 * pair) from to metres channels

  -- every link number belongs to a street
  pub covered : (k : ℕ) → k < 2 * (h * (w - 1)) + 2 * (w * (h - 1)) → Belongs k
  covered k lt =
      let low = plan.few_columns in
      let some : 0 < w - 1 = omega arith in
      let wide : 0 < w = omega arith in
      let whole : k / 2 * 2 + k % 2 ≡ k = div-add-mod' k 2 in
      ⊎_elim
      (λ row.
      let m = k / 2 in
      let i = m / (w - 1) in
      let j = m % (w - 1) in
      let back : i * (w - 1) + j ≡ m = div-add-mod' m (w - 1) in
      let hi : i < h = div_below m (w - 1) h some row in
      let hj : j < w - 1 = mod-lt m some in
      let r = row_of i j hi hj in
      let at : 2 * (i * w + j - i) ≡ 2 * m = ap (λ x. 2 * x) (r.0 ∙ back) in
      record {
        pair = m;
        from = i * w + j;
        to = i * w + j + 1;
        metres = along;
        inside = omega arith;
        which = halves k m refl;
        both = λ n g. subst (λ x. BothWays n x (i * w + j) (i * w + j + 1) along channels) at (g.rows i j hi hj);
      })
      (λ col.
      let s = k / 2 - h * (w - 1) in
      let i = s / w in
      let j = s % w in
      let back : i * w + j ≡ s = div-add-mod' s w in
      let low_s : s < w * (h - 1) = omega arith in
      let hi : i < h - 1 = div_below s w (h - 1) wide (subst (λ x. s < x) (mul_comm w (h - 1)) low_s) in
      let hj : j < w = mod-lt s wide in
      let at : 2 * (h * (w - 1)) + 2 * (i * w + j) ≡ 2 * (k / 2) = omega arith in
      record {
        pair = k / 2;
        from = i * w + j;
        to = i * w + j + w;
        metres = across;
        inside = omega arith;
        which = halves k (k / 2) refl;
        both = λ n g. subst (λ x. BothWays n x (i * w + j) (i * w + j + w) across channels) at (g.columns i j hi hj);
      })
      (cases_lt (k / 2) (h * (w - 1)))

  -- each link has its return link beside it
  pub returned : (n : Net) → Grid w h along across channels n → (k : ℕ) → k < length n.links → (beside k < length n.links) × (link_at n (beside k) ≡ turned (link_at n k))
  returned n g k lt =
      let count = g.count in
      let b = covered k (omega arith) in
      let in_pair = b.inside in
      let both = b.both n g in
      let m = b.pair in
      ⊎_elim
      (λ even.
      let here : beside k ≡ 2 * m + 1 = ap beside even ∙ beside_even m in
      (omega arith, ap (link_at n) here ∙ both.1 ∙ ap turned (sym (ap (link_at n) even ∙ both.0))))
      (λ odd.
      let here : beside k ≡ 2 * m = ap beside odd ∙ beside_odd m in
      (omega arith, ap (link_at n) here ∙ both.0 ∙ ap turned (sym (ap (link_at n) odd ∙ both.1))))
      b.which

  -- the numbers determine the grid
  pub same_grid : (n m : Net) → Grid w h along across channels n → Grid w h along across channels m → n ≡ m
  same_grid n m g f =
      let counts : length n.links ≡ length m.links = g.count ∙ sym f.count in
      let each : (k : ℕ) → k < length n.links → link_at n k ≡ link_at m k = λ k lt.
      let count = g.count in
      let b = covered k (omega arith) in
      ⊎_elim
      (λ even. ap (link_at n) even ∙ (b.both n g).0 ∙ sym (b.both m f).0 ∙ sym (ap (link_at m) even))
      (λ odd. ap (link_at n) odd ∙ (b.both n g).1 ∙ sym (b.both m f).1 ∙ sym (ap (link_at m) odd))
      b.which in
      let links : n.links ≡ m.links = ext_get_or no_link n.links m.links counts each in
      let sites : n.sites ≡ m.sites = g.sites ∙ sym f.sites in
      ap (λ s. net s n.links) sites ∙ ap (net m.sites) links

-- the theorem of the grid
pub return_links : ReturnLinksStandBeside
return_links w h along across channels within n g =
    let plan = (plans w h along across channels within).0 in
    (g.count ∙ omega (arith, mul_assoc 2 h (w - 1), mul_assoc 2 w (h - 1)), returned across plan n g, λ m f. same_grid across plan n m g f)
