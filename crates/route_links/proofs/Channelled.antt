-- Channels taken and given link by link.
use Rattle.std.proofs.Common.{◌≡◌, ℕ, suc, ◌+◌, ◌-◌, ◌<◌, ◌≤◌, Bool, true, false, cond, eqb, ltb, List, [], ◌∷◌, ◌++◌, length, get_or, take, drop, Ok, Err, sym, refl, ap, ◌∙◌, subst, inl, inr, arith, take-append-drop}
use Rattle.std.proofs.lemmas.List.{get_or_past, take_more, drop_more}
use Rattle.std.proofs.lemmas.Bool.{both_ways, cases_lt, cases_Bool, cases_eq, cond-true, cond-false, eq-eqb, ne_eqb, lt-ltb, le-ltb, ltb-true, ltb-false}
use Rattle.costs.specs.Counting.{hit, occurs}
use Rattle.networks.specs.declared.model.Link.{Link}
use Rattle.networks.specs.declared.model.NetworkRefusal.TheVariants.{LinkTooHigh, NoneTaken}
use Rattle.networks.specs.Meaning.{Net, no_link, link_at, usable}
use Rattle.networks.specs.Changing.{retaken, numbered, changed, only}
use Rattle.networks.specs.Telling.{take_answer, take_after, give_after}
use Rattle.networks.proofs.Numbering.{length_numbered, numbered_twice, numbered_same, numbered_none, link_at_changed}
use Rattle.networks.proofs.Layering.{refused_give}
use Rattle.networks.proofs.Taking.{take_accepted, take_leaves, give_accepted, give_leaves}
use Rattle.route_links.specs.Along.{taken_along, given_along}

-- a link with so many channels taken
abbrev pub with_taken : Link → ℕ → Link
with_taken l t = retaken (λ _. t) l

-- how often a number stands in a list with one more at its end
pub occurs_last : (j : ℕ) (xs : List ℕ) (k : ℕ) → occurs j (xs ++ k ∷ []) ≡ occurs j xs + hit j k
occurs_last j [] k = omega arith
occurs_last j (x ∷ xs) k = omega (arith, occurs_last j xs k)

-- how often it stands in two lists together
occurs_append : (j : ℕ) (xs ys : List ℕ) → occurs j (xs ++ ys) ≡ occurs j xs + occurs j ys
occurs_append j [] ys = omega arith
occurs_append j (x ∷ xs) ys = omega (arith, occurs_append j xs ys)

-- two changes that do the same to every link
pub changed_same : (f g : ℕ → Link → Link) → ((j : ℕ) (l : Link) → f j l ≡ g j l) → (n : Net) → changed f n ≡ changed g n
changed_same f g same n = ap (λ ls. record { sites = n.sites; links = ls }) (numbered_same f g same 0 n.links)

-- one change after another
pub changed_twice : (f g : ℕ → Link → Link) (n : Net) → changed f (changed g n) ≡ changed (λ j l. f j (g j l)) n
changed_twice f g n = ap (λ ls. record { sites = n.sites; links = ls }) (numbered_twice f g 0 n.links)

-- a change that leaves every link
pub changed_none : (f : ℕ → Link → Link) → ((j : ℕ) (l : Link) → f j l ≡ l) → (n : Net) → changed f n ≡ n
changed_none f same n = ap (λ ls. record { sites = n.sites; links = ls }) (numbered_none f same 0 n.links)

-- no link: nothing is taken
pub taken_none : (n : Net) → n ≡ taken_along [] n
taken_none n = sym (changed_none (λ k. retaken (λ t. t + 0)) (λ j l. ap (λ t. with_taken l t) (omega arith)) n)

-- one link more
pub taken_more : (route : List ℕ) (k : ℕ) (n : Net) → changed (only k (retaken (λ t. t + 1))) (taken_along route n) ≡ taken_along (route ++ k ∷ []) n
taken_more route k n =
    changed_twice (only k (retaken (λ t. t + 1))) (λ j. retaken (λ t. t + occurs j route)) n
    ∙ changed_same (λ j l. only k (retaken (λ t. t + 1)) j (retaken (λ t. t + occurs j route) l)) (λ j. retaken (λ t. t + occurs j (route ++ k ∷ []))) each n
  where
    one : (b : Bool) (j : ℕ) (l : Link) → cond b (retaken (λ t. t + 1) (retaken (λ t. t + occurs j route) l)) (retaken (λ t. t + occurs j route) l) ≡ with_taken l (l.taken + (occurs j route + cond b 1 0))
    one true j l = ap (λ t. with_taken l t) (omega arith)
    one false j l = ap (λ t. with_taken l t) (omega arith)

    each : (j : ℕ) (l : Link) → only k (retaken (λ t. t + 1)) j (retaken (λ t. t + occurs j route) l) ≡ retaken (λ t. t + occurs j (route ++ k ∷ [])) l
    each j l = one (eqb j k) j l ∙ ap (λ c. with_taken l (l.taken + c)) (sym (occurs_last j route k))

-- a usable link is a link
pub usable_low : (n : Net) (k : ℕ) → usable (link_at n k) ≡ true → k < length n.links
usable_low n k h =
    elim (cases_lt k (length n.links)) [
      | inl lt ↦ lt
      | inr ge ↦ absurd (both_ways (usable (link_at n k)) (ap usable (get_or_past n.links k no_link ge)) h)
    ]

-- a link that stands in no part of the route taken so far is usable still
pub still_usable : (route : List ℕ) (n : Net) (k : ℕ) → usable (link_at n k) ≡ true → occurs k route ≡ 0 → usable (link_at (taken_along route n) k) ≡ true
still_usable route n k h none =
    ap usable (link_at_changed (λ j. retaken (λ t. t + occurs j route)) n k (usable_low n k h))
    ∙ ap (λ t. usable (with_taken (link_at n k) t)) (omega (arith, none))
    ∙ h

length_along : (f : ℕ → Link → Link) (n : Net) (k : ℕ) → k < length n.links → k < length (changed f n).links
length_along f n k lt = subst (λ m. k < m) (sym (length_numbered f 0 n.links)) lt

-- the take of the next link is accepted, and then one link more is taken
pub take_next : (route : List ℕ) (n : Net) (k : ℕ) → usable (link_at n k) ≡ true → occurs k route ≡ 0 → (take_answer (taken_along route n) k ≡ Ok tt) × (take_after (taken_along route n) k ≡ taken_along (route ++ k ∷ []) n)
take_next route n k h none =
    let m = taken_along route n in
    let accepted = take_accepted m k (length_along (λ j. retaken (λ t. t + occurs j route)) n k (usable_low n k h)) (still_usable route n k h none) in
    (accepted, sym (take_leaves m k accepted) ∙ taken_more route k n)

-- no link: nothing is given back
pub given_none : (n : Net) → n ≡ given_along [] n
given_none n = sym (changed_none (λ k. retaken (λ t. t - 0)) (λ j l. ap (λ t. with_taken l t) (omega arith)) n)

-- a change that leaves the links there are
numbered_kept : (f : ℕ → Link → Link) (i : ℕ) (ls : List Link) → ((j : ℕ) → j < length ls → f (i + j) (get_or ls j no_link) ≡ get_or ls j no_link) → numbered f i ls ≡ ls
numbered_kept f i [] same = refl
numbered_kept f i (l ∷ ls) same =
    let first : f i l ≡ l = ap (λ j. f j l) (omega arith) ∙ same 0 (omega arith) in
    let rest = numbered_kept f (suc i) ls (λ j lt. ap (λ m. f m (get_or ls j no_link)) (omega arith) ∙ same (suc j) (omega (arith, lt))) in
    λ x. first x ∷ rest x

-- whatever a give answers, one channel fewer is taken on its link, if any was
pub give_any : (n : Net) (k : ℕ) → give_after n k ≡ changed (only k (retaken (λ t. t - 1))) n
give_any n k =
    elim (cases_lt k (length n.links)) [
      | inl lt ↦
          elim (cases_Bool (ltb 0 (link_at n k).taken)) [
            | inl some ↦ sym (give_leaves n k (give_accepted n k lt (ltb-true 0 (link_at n k).taken some)))
            | inr none ↦
                refused_give n k NoneTaken
                (cond-true (ltb k (length n.links)) (cond (ltb 0 (link_at n k).taken) (Ok tt) (Err NoneTaken)) (Err LinkTooHigh) (lt-ltb k (length n.links) lt)
                ∙ cond-false (ltb 0 (link_at n k).taken) (Ok tt) (Err NoneTaken) none)
                ∙ sym (kept lt none)
          ]
      | inr ge ↦ refused_give n k LinkTooHigh (cond-false (ltb k (length n.links)) (cond (ltb 0 (link_at n k).taken) (Ok tt) (Err NoneTaken)) (Err LinkTooHigh) (le-ltb k (length n.links) ge)) ∙ sym (past ge)
    ]
  where
    same : ((j : ℕ) → j < length n.links → only k (retaken (λ t. t - 1)) j (link_at n j) ≡ link_at n j) → changed (only k (retaken (λ t. t - 1))) n ≡ n
    same each = ap (λ ls. record { sites = n.sites; links = ls }) (numbered_kept (only k (retaken (λ t. t - 1))) 0 n.links (λ j lt. ap (λ m. only k (retaken (λ t. t - 1)) m (link_at n j)) (omega arith) ∙ each j lt))

    past : length n.links ≤ k → changed (only k (retaken (λ t. t - 1))) n ≡ n
    past ge = same (λ j lt. cond-false (eqb j k) (retaken (λ t. t - 1) (link_at n j)) (link_at n j) (ne_eqb j k (λ e. omega (arith, e, lt, ge))))

    kept : k < length n.links → ltb 0 (link_at n k).taken ≡ false → changed (only k (retaken (λ t. t - 1))) n ≡ n
    kept lt none = same (λ j low. elim (cases_eq j k) [
      | inl e ↦ cond-true (eqb j k) (retaken (λ t. t - 1) (link_at n j)) (link_at n j) (eq-eqb j k e) ∙ ap (λ t. with_taken (link_at n j) t) (omega (arith, ltb-false 0 (link_at n k).taken none, ap (λ i. (link_at n i).taken) e))
      | inr d ↦ cond-false (eqb j k) (retaken (λ t. t - 1) (link_at n j)) (link_at n j) (ne_eqb j k d)
    ])

-- one link more is given back
pub give_next : (route : List ℕ) (n : Net) (k : ℕ) → give_after (given_along route n) k ≡ given_along (route ++ k ∷ []) n
give_next route n k =
    give_any (given_along route n) k
    ∙ changed_twice (only k (retaken (λ t. t - 1))) (λ j. retaken (λ t. t - occurs j route)) n
    ∙ changed_same (λ j l. only k (retaken (λ t. t - 1)) j (retaken (λ t. t - occurs j route) l)) (λ j. retaken (λ t. t - occurs j (route ++ k ∷ []))) each n
  where
    one : (b : Bool) (j : ℕ) (l : Link) → cond b (retaken (λ t. t - 1) (retaken (λ t. t - occurs j route) l)) (retaken (λ t. t - occurs j route) l) ≡ with_taken l (l.taken - (occurs j route + cond b 1 0))
    one true j l = ap (λ t. with_taken l t) (omega arith)
    one false j l = ap (λ t. with_taken l t) (omega arith)

    each : (j : ℕ) (l : Link) → only k (retaken (λ t. t - 1)) j (retaken (λ t. t - occurs j route) l) ≡ retaken (λ t. t - occurs j (route ++ k ∷ [])) l
    each j l = one (eqb j k) j l ∙ ap (λ c. with_taken l (l.taken - c)) (sym (occurs_last j route k))

-- what the take of the next link of a route does
pub record Next (n : Net) (route : List ℕ) (at : ℕ) (m : Net) : Type 0 where
  pub accepted : take_answer m (get_or route at 0) ≡ Ok tt
  pub after : take_after m (get_or route at 0) ≡ taken_along (take (at + 1) route) n

-- over usable links, none twice, it is accepted
pub next_take : (n : Net) (route : List ℕ) (at : ℕ) → at < length route → ((k : ℕ) → 1 ≤ occurs k route → usable (link_at n k) ≡ true) → ((k : ℕ) → occurs k route ≤ 1) → (m : Net) → m ≡ taken_along (take at route) n → Next n route at m
next_take n route at lt free once m is =
    let k = get_or route at 0 in
    let front = take at route in
    let whole : occurs k route ≡ occurs k front + occurs k (drop at route) = ap (occurs k) (sym (take-append-drop at route)) ∙ occurs_append k front (drop at route) in
    let here : occurs k (drop at route) ≡ hit k k + occurs k (drop (at + 1) route) = ap (occurs k) (drop_more route at 0 lt) in
    let self : hit k k ≡ 1 = cond-true (eqb k k) 1 0 (eq-eqb k k refl) in
    let t = take_next front n k (free k (omega (arith, whole, here, self))) (omega (arith, once k, whole, here, self)) in
    record {
      accepted = ap (λ x. take_answer x k) is ∙ t.0;
      after = ap (λ x. take_after x k) is ∙ t.1 ∙ ap (λ r. taken_along r n) (sym (take_more route at 0 lt));
    }
