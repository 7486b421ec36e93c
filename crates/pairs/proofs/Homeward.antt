-- A walk back over a network that leads home: where it goes on, and where it ends.
use Rattle.std.proofs.Common.{◌≡◌, ℕ, ◌+◌, ◌<◌, ◌≤◌, Bool, cond, List, [], reverse, length, get_or, take, drop, set, sym, refl, ap, ◌∙◌, subst, inl, inr, arith, length-append}
use Rattle.std.proofs.lemmas.Bool.{cases_eq}
use Rattle.costs.specs.Costs.{Ops, Laws}
use Rattle.networks.specs.Meaning.{Net, Sound}
use Rattle.marks.specs.Sets.{less}
use Rattle.least_pairs.specs.Views.{view}
use Rattle.least_pairs.specs.Routes.{Walk}
use Rattle.least_pairs.specs.Runs.{State}
use Rattle.least_pairs.proofs.Seen.{view_sound}
use Rattle.pairs.specs.Tables.{Tells, Marked}
use Rattle.pairs.specs.Reading.{first_of, second_of, walked_back, Home}
use Rattle.pairs.specs.Walking.{walked_over, Returning}
use Rattle.pairs.proofs.Writing.{written_none, turned}
use Rattle.pairs.proofs.Backwards.{over, walk_grows, walk_home, walk_same, Step, step, Stands, taken, stands_more}
use Rattle.pairs.proofs.Both.{first_ran, settled_labelled}

-- where a walk back over a network stands
abbrev pub At : {C : Type 0} (k : Ops C) (n : Net) (root : ℕ) (second : State C) (target : ℕ) (ms : List ℕ) (site : ℕ) (marked : ℕ → Bool) (before route : List ℕ) (count : ℕ) → Type 0
At k n root second target ms site marked before route count = Stands (view k n) (first_of k n root) second root target (walked_over k n root second target ms) site marked before route count

-- where it stands with each state and list of marks with which it leads home, and that neither the sites nor the route table are left
pub record Back {C : Type 0} (k : Ops C) (n : Net) (root : ℕ) (entry : List ℕ) (from : ℕ → Bool) (target site : ℕ) (marked : ℕ → Bool) (before route : List ℕ) (count : ℕ) : Type 0 where
  pub stands : (second : State C) (ms : List ℕ) → Returning k n root entry from target second ms → At k n root second target ms site marked before route count
  pub low : site < n.sites
  pub few : count < n.sites
  pub more : (site ≡ root → ⊥) → count + 1 < n.sites
  pub rest : drop count route ≡ drop count before

module _ {C : Type 0} {k : Ops C} (laws : Laws k) (n : Net) (sound : Sound n) (root : ℕ) (inside : root < n.sites) (entry : List ℕ) (from : ℕ → Bool) (target : ℕ) where
  module _ (second : State C) (ms : List ℕ) (home : Returning k n root entry from target second ms) where
    -- it stands at the target with nothing written
    pub begins : (route : List ℕ) → At k n root second target ms target from route route 0
    begins route = record {
      turns = length n.links;
      left = ms;
      passed = [];
      whole = refl;
      marks = home.marks;
      entries = home.entries;
      leads = refl;
      written = written_none route;
    }

    module _ (site : ℕ) (marked : ℕ → Bool) (before route : List ℕ) (count : ℕ) (s : At k n root second target ms site marked before route count) where
      -- no more links are written than the walk has
      count_low : count < n.sites
      count_low =
          let g = walk_grows (view k n) (first_of k n root) second root s.turns site s.left s.passed in
          omega (arith, s.written.many, home.few, ap (λ r. length r.0) s.whole, ap length g.1, length-append g.0 s.passed)

      module _ (d : site ≡ root → ⊥) where
        -- it takes a step
        goes : Step (view k n) (first_of k n root) second root target s.turns site s.left s.passed
        goes = step laws (view_sound laws n sound) (first_ran laws n sound root inside) second target s.turns site s.left s.passed d s.leads (subst (λ r. Walk (view k n) root r.0 target) s.whole home.leads)

        site_low : site < n.sites
        site_low = (first_ran laws n sound root inside).sites site goes.reached

        more_low : count + 1 < n.sites
        more_low = omega (arith, goes.room, s.written.many, home.few, ap (λ r. length r.0) s.whole)

        module _ (tree : List ℕ) (tells_tree : Tells n.sites tree (λ l. l.link) (first_of k n root).labels) (link : ℕ) (is : link ≡ cond (marked site) (get_or entry site 65535) (get_or tree site 65535)) where
          -- over this link
          goes_over : link ≡ over (view k n) (first_of k n root) second root site s.left
          goes_over =
              is ∙ taken (view k n) (first_of k n root) second root target n.sites tree entry tells_tree home.tells site s.left marked site_low
              (settled_labelled (first_ran laws n sound root inside) site goes.reached) s.marks s.entries

          link_below : link < length n.links
          link_below = subst (λ e. e < length n.links) (sym goes_over) ((view_sound laws n sound).link (over (view k n) (first_of k n root) second root site s.left) goes.usable)

          -- and stands where it starts
          goes_on : (after : ℕ → Bool) → ((x : ℕ) → after x ≡ less site marked x) → count < length route → At k n root second target ms ((view k n).start link) after before (set route count link) (count + 1)
          goes_on after wipes lt = stands_more (view k n) (first_of k n root) second root target (walked_over k n root second target ms) site marked after before route count link s goes goes_over wipes lt

    -- at the root all links are written, and these marks are left
    arrives_at : (marked : ℕ → Bool) (before route after : List ℕ) (count : ℕ) → At k n root second target ms root marked before route count → take count after ≡ reverse (take count route) → (take count after ≡ (walked_over k n root second target ms).0) × Marked marked (walked_over k n root second target ms).1
    arrives_at marked before route after count s turns =
        let end : walked_over k n root second target ms ≡ (s.passed, s.left) = s.whole ∙ walk_home (view k n) (first_of k n root) second root s.turns s.left s.passed in (
          turned before route after count s.passed s.written turns ∙ sym (ap (λ r. r.0) end),
          subst (λ r. Marked marked r.1) (sym end) s.marks,
        )

  module _ (some : (second : State C) × ((ms : List ℕ) × Returning k n root entry from target second ms)) where
    -- where it stands so, there are more sites and there is more room
    back : (site : ℕ) (marked : ℕ → Bool) (before route : List ℕ) (count : ℕ) → ((second : State C) (ms : List ℕ) → Returning k n root entry from target second ms → At k n root second target ms site marked before route count) → Back k n root entry from target site marked before route count
    back site marked before route count stands =
        let at = stands some.0 some.1.0 some.1.1 in
        record {
          stands = stands;
          low =
              elim (cases_eq site root) [
                | inl e ↦ subst (λ w. w < n.sites) (sym e) inside
                | inr d ↦ site_low some.0 some.1.0 some.1.1 site marked before route count at d
              ];
          few = count_low some.0 some.1.0 some.1.1 site marked before route count at;
          more = more_low some.0 some.1.0 some.1.1 site marked before route count at;
          rest = at.written.rest;
        }

    -- it begins at the target
    pub back_none : (route : List ℕ) → Back k n root entry from target target from route route 0
    back_none route = back target from route route 0 (λ second ms home. begins second ms home route)

    module _ (site : ℕ) (marked : ℕ → Bool) (before route : List ℕ) (count : ℕ) (b : Back k n root entry from target site marked before route count) (d : site ≡ root → ⊥) (tree : List ℕ) (tells : Tells n.sites tree (λ l. l.link) (first_of k n root).labels) (link : ℕ) (is : link ≡ cond (marked site) (get_or entry site 65535) (get_or tree site 65535)) where
      -- it leaves a site over a link
      pub link_low : link < length n.links
      link_low = link_below some.0 some.1.0 some.1.1 site marked before route count (b.stands some.0 some.1.0 some.1.1) d tree tells link is

      -- one link more
      pub back_more : (after : ℕ → Bool) → ((x : ℕ) → after x ≡ less site marked x) → n.sites ≤ length route → Back k n root entry from target ((view k n).start link) after before (set route count link) (count + 1)
      back_more after wipes long =
          let lt : count < length route = omega (arith, b.few, long) in
          back ((view k n).start link) after before (set route count link) (count + 1)
          (λ second ms home. goes_on second ms home site marked before route count (b.stands second ms home) d tree tells link is after wipes lt)

  -- it arrives at the root
  pub arrives : (site : ℕ) (marked : ℕ → Bool) (before route after : List ℕ) (count : ℕ) → Back k n root entry from target site marked before route count → site ≡ root → take count after ≡ reverse (take count route) → (second : State C) (ms : List ℕ) → Returning k n root entry from target second ms → (take count after ≡ (walked_over k n root second target ms).0) × Marked marked (walked_over k n root second target ms).1
  arrives site marked before route after count b e turns second ms home =
      arrives_at second ms home marked before route after count (subst (λ w. At k n root second target ms w marked before route count) e (b.stands second ms home)) turns

-- what lies past the links written is as it was
pub rest_kept : {C : Type 0} (k : Ops C) (n : Net) (root : ℕ) (entry : List ℕ) (from : ℕ → Bool) (target site : ℕ) (marked : ℕ → Bool) (before route after : List ℕ) (count : ℕ) → Back k n root entry from target site marked before route count → drop count after ≡ drop count route → drop count after ≡ drop count before
rest_kept k n root entry from target site marked before route after count b same = same ∙ b.rest

-- with another list of the same marks it is the same walk
pub same_walk : {C : Type 0} (k : Ops C) (n : Net) (root target : ℕ) (marked after : ℕ → Bool) (route ms ns : List ℕ) → Marked marked ms → Marked marked ns → (route ≡ (walked_back k n root target ms).0) × Marked after (walked_back k n root target ms).1 → (route ≡ (walked_back k n root target ns).0) × Marked after (walked_back k n root target ns).1
same_walk k n root target marked after route ms ns p q r =
    let w = walk_same (view k n) (first_of k n root) (second_of k n root) root (length n.links) target ms ns [] (λ x. sym (p x) ∙ q x) in
    (r.0 ∙ w.0, λ x. r.1 x ∙ w.1 x)

-- a walk back that leads home with the entry links of the second run
pub returning : {C : Type 0} (k : Ops C) (n : Net) (root : ℕ) (entry : List ℕ) (from : ℕ → Bool) (target : ℕ) (ms : List ℕ) → Tells n.sites entry (λ l. l.link) (second_of k n root).labels → Marked from ms → Home k n root target ms → Returning k n root entry from target (second_of k n root) ms
returning k n root entry from target ms tells marks home = record { tells = tells; marks = marks; leads = home.leads; few = home.few; entries = home.entries }
