-- What is taken of a network, read off what a layer over it shows.
use Rattle.std.proofs.Common.{◌≡◌, ℕ, suc, ◌+◌, ◌-◌, List, [], ◌∷◌, ◌++◌, length, get_or, drop, sym, refl, ap, ◌∙◌, arith}
use Rattle.costs.specs.Counting.{occurs}
use Rattle.networks.specs.declared.model.Link.{Link}
use Rattle.networks.specs.Meaning.{Net}
use Rattle.networks.specs.Changing.{retaken, numbered, changed, cleared}
use Rattle.networks.proofs.Numbering.{numbered_swap}
use Rattle.networks.proofs.Layering.{alike_changed}
use Rattle.layers.specs.declared.closed.Closings.{Closings}
use Rattle.layers.specs.declared.surcharged.Surcharges.{Surcharges}
use Rattle.layers.specs.Shown.{is_closed, closing, amount_on, charging}
use Rattle.piles.specs.Piles.{piled}
use Rattle.route_links.specs.Along.{taken_along, given_along}
use Rattle.route_links.proofs.Channelled.{with_taken, changed_same, changed_twice}

-- the channels taken, link by link
abbrev pub channels_taken : List Link → List ℕ
channels_taken [] = []
channels_taken (l ∷ ls) = l.taken ∷ channels_taken ls

-- a change that leaves channels taken alone
channels_taken_kept : (f : ℕ → Link → Link) → ((j : ℕ) (l : Link) → (f j l).taken ≡ l.taken) → (i : ℕ) (ls : List Link) → channels_taken (numbered f i ls) ≡ channels_taken ls
channels_taken_kept f same i [] = refl
channels_taken_kept f same i (l ∷ ls) = ap (λ t. t ∷ channels_taken (numbered f (suc i) ls)) (same i l) ∙ ap (λ ts. l.taken ∷ ts) (channels_taken_kept f same (suc i) ls)

-- lists that are alike but for channels taken, and alike in these, are the same
same_links : (i : ℕ) (xs ys : List Link) → numbered (λ k. retaken (λ t. 0)) i xs ≡ numbered (λ k. retaken (λ t. 0)) i ys → channels_taken xs ≡ channels_taken ys → xs ≡ ys
same_links i [] [] e t = refl
same_links i [] (y ∷ ys) e t = absurd (omega (arith, ap (λ ls. length ls) e))
same_links i (x ∷ xs) [] e t = absurd (omega (arith, ap (λ ls. length ls) e))
same_links i (x ∷ xs) (y ∷ ys) e t =
    ap (λ l. with_taken l x.taken ∷ xs) (ap (λ ls. get_or ls 0 x) e)
    ∙ ap (λ n. with_taken y n ∷ xs) (ap (λ ns. get_or ns 0 0) t)
    ∙ ap (λ ls. y ∷ ls) (same_links (suc i) xs ys (ap (drop 1) e) (ap (drop 1) t))

-- networks that are alike but for channels taken, and alike in these, are the same
same_network : (a b : Net) → cleared a ≡ cleared b → channels_taken a.links ≡ channels_taken b.links → a ≡ b
same_network a b e t =
    ap (λ s. record { sites = s; links = a.links }) (ap (λ (n : Net). n.sites) e)
    ∙ ap (λ ls. record { sites = b.sites; links = ls }) (same_links 0 a.links b.links (ap (λ (n : Net). n.links) e) t)

-- other channels taken, by a function of the link's number and of those taken before
abbrev pub retaken_by : (ℕ → ℕ → ℕ) → Net → Net
retaken_by g n = changed (λ k. retaken (g k)) n

-- they leave a network alike
cleared_retaken : (g : ℕ → ℕ → ℕ) (n : Net) → cleared (retaken_by g n) ≡ cleared n
cleared_retaken g n =
    changed_twice (λ k. retaken (λ t. 0)) (λ k. retaken (g k)) n
    ∙ changed_same (λ j l. retaken (λ t. 0) (retaken (g j) l)) (λ j. retaken (λ t. 0)) (λ j l. refl) n

-- a layer that leaves channels taken alone
module _ (f : ℕ → Link → Link) (commutes : (g : ℕ → ℕ) (j : ℕ) (l : Link) → f j (retaken g l) ≡ retaken g (f j l)) (same : (j : ℕ) (l : Link) → (f j l).taken ≡ l.taken) where
  -- other channels taken below show as those above
  shown_retaken_by : (g : ℕ → ℕ → ℕ) (n : Net) → retaken_by g (changed f n) ≡ changed f (retaken_by g n)
  shown_retaken_by g n = ap (λ ls. record { sites = n.sites; links = ls }) (numbered_swap (λ k. retaken (g k)) f (λ j l. sym (commutes (g j) j l)) 0 n.links)

  -- so those below are read off those above
  read_off : (g : ℕ → ℕ → ℕ) (a b : Net) → cleared a ≡ cleared b → changed f b ≡ retaken_by g (changed f a) → b ≡ retaken_by g a
  read_off g a b alike shown =
      same_network b (retaken_by g a) (sym alike ∙ sym (cleared_retaken g a))
      (sym (channels_taken_kept f same 0 b.links)
      ∙ ap (λ n. channels_taken n.links) (shown ∙ shown_retaken_by g a)
      ∙ channels_taken_kept f same 0 (retaken_by g a).links)

-- through both layers of a pile, whose tables stay
pub pile_read_off : (closings closings' : Closings) (surcharges surcharges' : Surcharges) → closings ≡ closings' → surcharges ≡ surcharges' → (g : ℕ → ℕ → ℕ) (a b : Net) → cleared a ≡ cleared b → piled (is_closed closings') (amount_on surcharges') b ≡ retaken_by g (piled (is_closed closings) (amount_on surcharges) a) → b ≡ retaken_by g a
pile_read_off closings closings' surcharges surcharges' c s g a b alike shown =
    let closed = is_closed closings in
    let amount = amount_on surcharges in
    read_off (charging amount) (λ g j l. refl) (λ j l. refl) g a b alike
    (read_off (closing closed) (λ g j l. refl) (λ j l. refl) g (changed (charging amount) a) (changed (charging amount) b)
    (alike_changed (charging amount) (λ g j l. refl) a b alike)
    (ap (λ x. piled (is_closed x) amount b) c ∙ ap (λ x. piled (is_closed closings') (amount_on x) b) s ∙ shown))

-- how often a number stands in two lists together
occurs_append : (j : ℕ) (xs ys : List ℕ) → occurs j (xs ++ ys) ≡ occurs j xs + occurs j ys
occurs_append j [] ys = omega arith
occurs_append j (x ∷ xs) ys = omega (arith, occurs_append j xs ys)

-- one route taken after another
pub taken_both : (one two : List ℕ) (n : Net) → taken_along two (taken_along one n) ≡ taken_along (one ++ two) n
taken_both one two n =
    changed_twice (λ j. retaken (λ t. t + occurs j two)) (λ j. retaken (λ t. t + occurs j one)) n
    ∙ changed_same (λ j l. retaken (λ t. t + occurs j two) (retaken (λ t. t + occurs j one) l)) (λ j. retaken (λ t. t + occurs j (one ++ two))) (λ j l. ap (λ t. with_taken l t) (omega (arith, occurs_append j one two))) n

-- one route given back after another
pub given_both : (one two : List ℕ) (n : Net) → given_along two (given_along one n) ≡ given_along (one ++ two) n
given_both one two n =
    changed_twice (λ j. retaken (λ t. t - occurs j two)) (λ j. retaken (λ t. t - occurs j one)) n
    ∙ changed_same (λ j l. retaken (λ t. t - occurs j two) (retaken (λ t. t - occurs j one) l)) (λ j. retaken (λ t. t - occurs j (one ++ two))) (λ j l. ap (λ t. with_taken l t) (omega (arith, occurs_append j one two))) n
