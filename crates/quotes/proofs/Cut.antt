-- Where only the first run labels the target, a link of its tree route cuts it off.
use Rattle.std.proofs.Common.{◌≡◌, ℕ, ◌<◌, false, Some, sym, refl, inl, inr}
use Rattle.std.proofs.lemmas.Bool.{both_ways, cases_Bool}
use Rattle.costs.specs.Costs.{Ops, Laws}
use Rattle.networks.specs.Meaning.{Net, Sound}
use Rattle.least_pairs.specs.Views.{view, without}
use Rattle.least_pairs.specs.Routes.{Shared}
use Rattle.least_pairs.specs.Runs.{Label, has}
use Rattle.least_pairs.specs.Plans.{up, tree_route, labelled, first_run, first_cut}
use Rattle.least_pairs.proofs.Seen.{view_sound}
use Rattle.least_pairs.proofs.Jobs.{first_laws}
use Rattle.least_pairs.proofs.Listed.{occurs_has}
use Rattle.least_pairs.proofs.TreeRoutes.{tree_route_walk}
use Rattle.least_pairs.proofs.Detours.{walk_route, walk_with, sound_without}
use Rattle.pairs.specs.Reading.{first_of, second_of, tree_route_to}
use Rattle.pairs.proofs.Backwards.{labelled_some}
use Rattle.pairs.proofs.Both.{first_ran}
use Rattle.cutting.specs.Cuts.{found_cut}
use Rattle.cutting.proofs.Passing.{cut_stands}
use Rattle.quotes.proofs.Answering.{cut_answered}

pub cut_is_found : {C : Type 0} {k : Ops C} (laws : Laws k) (n : Net) (sound : Sound n) (root target : ℕ) → root < n.sites → target < n.sites → (target ≡ root → ⊥) → (d : Label C) → (first_of k n root).labels target ≡ Some d → labelled ((second_of k n root).labels target) ≡ false → found_cut k (view k n) root target (tree_route_to k n root target) ≡ Some (first_cut k (view k n) root target (tree_route_to k n root target))
cut_is_found {k = k} laws n sound root target inside low other d hd hl =
    let v = view k n in
    let sight = view_sound laws n sound in
    let fl = first_ran laws n sound root inside in
    let es = tree_route_to k n root target in
    let e = first_cut k v root target es in
    let shared : Shared v root target e = (cut_answered laws n sound root target inside low other d hd hl e refl).right.says.1.shared in
    let away : root ≡ target → ⊥ = λ q. other (sym q) in
    let r = walk_route v es root target away (tree_route_walk laws sight fl target (fl.is_settled target d hd)) in
    let s = first_run k (without e v) root in
    let out = first_laws laws (without e v) (sound_without sight e) root inside in
    let cuts : labelled (s.labels target) ≡ false =
    elim (cases_Bool (labelled (s.labels target))) [
      | inl q ↦
          let l = labelled_some (s.labels target) q in
          let ds = tree_route s (up s target) in
          let w = walk_with v e ds root target (tree_route_walk laws (sound_without sight e) out target (out.is_settled target l.0 l.1)) in
          let p = walk_route v ds root target away w.0 in
          absurd (both_ways (has e ds) w.1 (p.2 e (occurs_has e p.0 (shared p.0 p.1))))
      | inr q ↦ q
    ] in
    cut_stands k v root target e cuts es (r.2 e (occurs_has e r.0 (shared r.0 r.1)))
