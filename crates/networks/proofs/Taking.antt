-- Takes and gives: one link written with other channels taken.
use Rattle.std.proofs.Common.{◌≡◌, ℕ, ◌+◌, ◌-◌, ◌<◌, ◌≤◌, true, false, cond, eqb, length, set, is_ok, Ok, sym, refl, ap, ◌∙◌, subst, arith, ltb-true, lt-ltb}
use Rattle.networks.specs.declared.model.Link.{Link}
use Rattle.networks.specs.Meaning.{Net, link_at, no_link, all_sound, link_sound, usable}
use Rattle.networks.specs.Changing.{numbered, changed, only, retaken, cleared}
use Rattle.networks.specs.Telling.{told, take_answer, take_after, give_answer, give_after}
use Rattle.networks.proofs.Numbering.{set_numbered, numbered_twice, numbered_same}
use Rattle.networks.proofs.Soundness.{limits, sound_at, sound_set, sound_retaken}

-- a link that is told is a link of the network
pub told_inside : (n : Net) (k : ℕ) (one : Link) → Ok one ≡ told (λ l. l) n k → (k < length n.links) × (one ≡ link_at n k)
told_inside n k one h = grind (arith, ltb-true)

-- a take of a usable link is accepted
pub take_accepted : (n : Net) (k : ℕ) → k < length n.links → usable (link_at n k) ≡ true → take_answer n k ≡ Ok tt
take_accepted n k inside free = grind (arith, lt-ltb)

-- a give where a channel is taken is accepted
pub give_accepted : (n : Net) (k : ℕ) → k < length n.links → 0 < (link_at n k).taken → give_answer n k ≡ Ok tt
give_accepted n k inside some = grind (arith, lt-ltb)

-- what an accepted take leaves
pub take_leaves : (n : Net) (k : ℕ) → take_answer n k ≡ Ok tt → changed (only k (retaken (λ t. t + 1))) n ≡ take_after n k
take_leaves n k e = sym (ap (λ a. cond (is_ok a) (changed (only k (retaken (λ t. t + 1))) n) n) e)

-- what an accepted give leaves
pub give_leaves : (n : Net) (k : ℕ) → give_answer n k ≡ Ok tt → changed (only k (retaken (λ t. t - 1))) n ≡ give_after n k
give_leaves n k e = sym (ap (λ a. cond (is_ok a) (changed (only k (retaken (λ t. t - 1))) n) n) e)

-- whatever is taken, the network without its taken channels stays
pub cleared_only : (g : ℕ → ℕ) (k : ℕ) (n : Net) → cleared (changed (only k (retaken g)) n) ≡ cleared n
cleared_only g k n =
    let each : (j : ℕ) (l : Link) → retaken (λ t. 0) (only k (retaken g) j l) ≡ retaken (λ t. 0) l =
    λ j l. elim (eqb j k) as (λ b. retaken (λ t. 0) (cond b (retaken g l) l) ≡ retaken (λ t. 0) l) [ true ↦ refl | false ↦ refl ] in
    ap (λ ls. record { sites = n.sites; links = ls }) (numbered_twice (λ j. retaken (λ t. 0)) (only k (retaken g)) 0 n.links ∙ numbered_same (λ j l. retaken (λ t. 0) (only k (retaken g) j l)) (λ j. retaken (λ t. 0)) each 0 n.links)

-- the network with one link written with other channels taken
abbrev pub rewritten : (ℕ → ℕ) → Net → ℕ → Link → Net
rewritten g n k one = record { sites = n.sites; links = set n.links k (retaken g one) }

-- one link that was told, written with other channels taken, is a change of that link alone
pub written : (g : ℕ → ℕ) (n : Net) (k : ℕ) (one : Link) → Ok one ≡ told (λ l. l) n k → rewritten g n k one ≡ changed (only k (retaken g)) n
written g n k one told =
    let at = told_inside n k one told in
    let from : 0 + k ≡ k = omega arith in
    let here : set n.links k (retaken g one) ≡ numbered (only k (retaken g)) 0 n.links =
    ap (λ l. set n.links k (retaken g l)) at.1 ∙ set_numbered 0 k (retaken g) n.links no_link at.0 ∙ ap (λ i. numbered (only i (retaken g)) 0 n.links) from in
    ap (λ ls. record { sites = n.sites; links = ls }) here

-- so written, a sound network stays sound where the channels suffice
pub written_sound : (g : ℕ → ℕ) (n : Net) (k : ℕ) (one : Link) → Ok one ≡ told (λ l. l) n k → all_sound n.sites n.links ≡ true → (one.taken ≤ one.channels → g one.taken ≤ one.channels) → all_sound n.sites (set n.links k (retaken g one)) ≡ true
written_sound g n k one told sound fits =
    let at = told_inside n k one told in
    let each : link_sound n.sites one ≡ true = subst (λ l. link_sound n.sites l ≡ true) (sym at.1) (sound_at n.sites n.links k no_link sound at.0) in
    sound_set n.sites n.links k (retaken g one) sound (sound_retaken g n.sites one each (fits (limits n.sites one each).taken_high))

-- whatever is written as taken, the network without its taken channels stays
pub written_cleared : (g : ℕ → ℕ) (n : Net) (k : ℕ) (one : Link) → Ok one ≡ told (λ l. l) n k → cleared n ≡ cleared (rewritten g n k one)
written_cleared g n k one told = sym (ap cleared (written g n k one told) ∙ cleared_only g k n)

-- one channel more is what a take leaves
pub written_take : (n : Net) (k : ℕ) (one : Link) → Ok one ≡ told (λ l. l) n k → usable one ≡ true → rewritten (λ t. t + 1) n k one ≡ take_after n k
written_take n k one told free =
    let at = told_inside n k one told in
    written (λ t. t + 1) n k one told ∙ take_leaves n k (take_accepted n k at.0 (sym (ap usable at.1) ∙ free))

-- one channel fewer is what a give leaves
pub written_give : (n : Net) (k : ℕ) (one : Link) → Ok one ≡ told (λ l. l) n k → 0 < one.taken → rewritten (λ t. t - 1) n k one ≡ give_after n k
written_give n k one told some =
    let at = told_inside n k one told in
    written (λ t. t - 1) n k one told ∙ give_leaves n k (give_accepted n k at.0 (subst (λ l. 0 < l.taken) at.1 some))
