-- The tree route of a site is the walk back on which no site is marked.
use Rattle.std.proofs.Common.{◌≡◌, ℕ, zero, suc, ◌<◌, ◌≤◌, Bool, true, false, eqb, List, [], ◌∷◌, ◌++◌, length, sym, refl, ap, ◌∙◌, subst, append_assoc, arith, length-append}
use Rattle.std.proofs.lemmas.Bool.{both_ways, cond-false, ne_eqb}
use Rattle.std.proofs.lemmas.List.{append-nil}
use Rattle.costs.specs.Costs.{Ops, Laws}
use Rattle.networks.specs.Meaning.{Net, Sound}
use Rattle.least_pairs.specs.Views.{view}
use Rattle.least_pairs.specs.Routes.{Walk}
use Rattle.least_pairs.specs.Runs.{State, has}
use Rattle.least_pairs.specs.Trees.{parent}
use Rattle.least_pairs.specs.Plans.{up, link_of, tree_route, walk_back}
use Rattle.least_pairs.proofs.Seen.{view_sound}
use Rattle.least_pairs.proofs.Distances.{tree_link_of}
use Rattle.least_pairs.proofs.Listed.{occurs_has}
use Rattle.least_pairs.proofs.Moments.{few}
use Rattle.least_pairs.proofs.Tree.{by_parents, up_once, up_reached}
use Rattle.least_pairs.proofs.TreeRoutes.{tree_route_root, tree_route_other, tree_route_from, tree_route_walk, tree_route_once, up_starts}
use Rattle.pairs.specs.Tables.{Tells}
use Rattle.pairs.specs.Reading.{first_of, tree_route_to}
use Rattle.pairs.specs.Walking.{walked_over, Returning}
use Rattle.pairs.proofs.Backwards.{walk_home}
use Rattle.pairs.proofs.Both.{first_ran}

-- there is one tree link fewer than sites above
links_above : {C : Type 0} (first : State C) (w : ℕ) (us : List ℕ) → length (tree_route first (w ∷ us)) ≡ length us
links_above first w [] = refl
links_above first w (u ∷ us) = length-append (tree_route first (u ∷ us)) (link_of (first.labels w) ∷ []) ∙ omega (arith, links_above first u us)

module _ {C : Type 0} {k : Ops C} (laws : Laws k) (n : Net) (sound : Sound n) (root : ℕ) (inside : root < n.sites) where
  -- a tree route has fewer links than there are sites
  pub route_few : (w : ℕ) → has w (first_of k n root).order ≡ true → length (tree_route_to k n root w) < n.sites
  route_few w h =
      let fl = first_ran laws n sound root inside in
      let first = first_of k n root in
      let p = up_starts fl w h in
      let long : length (up first w) ≤ n.sites = few n.sites (up first w) (λ x. up_once fl x w) (λ x one. fl.sites x (up_reached fl x w (occurs_has x (up first w) one))) in
      omega (arith, long, ap length p.1, ap (λ us. length (tree_route first us)) p.1, links_above first w p.0)

  -- nor has it more than there are links
  route_links_few : (w : ℕ) → has w (first_of k n root).order ≡ true → length (tree_route_to k n root w) ≤ length n.links
  route_links_few w h =
      let fl = first_ran laws n sound root inside in
      let sight = view_sound laws n sound in
      let es = tree_route_to k n root w in
      few (length n.links) es (tree_route_once laws sight fl w h)
      (λ e one.
      let x = tree_route_from fl e w h (occurs_has e es one) in
      let is : link_of ((first_of k n root).labels x.0) ≡ e = sym x.3 in
      subst (λ l. l < length n.links) is (sight.link (link_of ((first_of k n root).labels x.0)) (tree_link_of laws sight fl x.0 (up_reached fl x.0 w x.1) x.2).usable))

  -- where no site is marked, the walk back from a site passes its tree route
  abbrev Bare : ℕ → Type 0
  Bare w = (m : ℕ) (es : List ℕ) → length (tree_route_to k n root w) ≤ m → walk_back (view k n) (first_of k n root) (first_of k n root) root m w [] es ≡ (tree_route_to k n root w ++ es, [])

  bare : (w : ℕ) → has w (first_of k n root).order ≡ true → Bare w
  bare =
      let fl = first_ran laws n sound root inside in
      let first = first_of k n root in
      let v = view k n in
      by_parents fl Bare
      (λ m es long. walk_home v first first root m [] es ∙ ap (λ r. (r ++ es, [])) (sym (tree_route_root fl)))
      (λ w h d ih. other w h d ih)
    where
      other : (w : ℕ) → has w (first_of k n root).order ≡ true → (w ≡ root → ⊥) → Bare (parent (first_of k n root).labels w) → Bare w
      other w h d ih zero es long = absurd (omega (arith, long, ap length (tree_route_other (first_ran laws n sound root inside) w h d), length-append (tree_route_to k n root (parent (first_of k n root).labels w)) (link_of ((first_of k n root).labels w) ∷ [])))
      other w h d ih (suc m) es long =
          let fl = first_ran laws n sound root inside in
          let first = first_of k n root in
          let v = view k n in
          let e = link_of (first.labels w) in
          let p = parent first.labels w in
          let front = tree_route_to k n root p in
          let one = tree_route_other fl w h d in
          let fits : length front ≤ m = omega (arith, long, ap length one, length-append front (e ∷ [])) in
          cond-false (eqb w root) (es, []) (walk_back v first first root m (v.start e) [] (e ∷ es)) (ne_eqb w root d)
          ∙ ap (λ x. walk_back v first first root m x [] (e ∷ es)) (tree_link_of laws (view_sound laws n sound) fl w h d).starts
          ∙ ih m (e ∷ es) fits
          ∙ ap (λ r. (r, [])) (sym (append_assoc front (e ∷ []) es) ∙ ap (λ r. r ++ es) (sym one))

  -- so it leads home
  pub bare_walk : (w : ℕ) → has w (first_of k n root).order ≡ true → (walked_over k n root (first_of k n root) w []).0 ≡ tree_route_to k n root w
  bare_walk w h = ap (λ r. r.0) (bare w h (length n.links) [] (route_links_few w h)) ∙ append-nil (tree_route_to k n root w)

  pub bare_home : (set : ℕ → Bool) → ((x : ℕ) → set x ≡ false) → (links : List ℕ) → Tells n.sites links (λ l. l.link) (first_of k n root).labels → (w : ℕ) → has w (first_of k n root).order ≡ true → Returning k n root links set w (first_of k n root) []
  bare_home set none links tells w h =
      let is = bare_walk w h in
      record {
        tells = tells;
        marks = none;
        leads = subst (λ es. Walk (view k n) root es w) (sym is) (tree_route_walk laws (view_sound laws n sound) (first_ran laws n sound root inside) w h);
        few = omega (arith, route_few w h, ap length is);
        entries = λ x t. absurd (both_ways false refl t);
      }
