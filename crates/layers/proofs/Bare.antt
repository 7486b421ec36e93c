-- A layer that changes nothing shows what lies below.
use Rattle.std.proofs.Common.{rules, tests, ◌≡◌, ℕ, suc, ◌≤◌, Bool, true, false, List, [], ◌∷◌, refl, ap, ◌∙◌}
use Rattle.std.proofs.Math.Bool.{and-true}
use Rattle.networks.specs.declared.model.Link.{Link}
use Rattle.networks.specs.Meaning.{Net, Sound, link_sound, all_sound}
use Rattle.networks.specs.Changing.{numbered, changed, dimmed, remeasured}
use Rattle.networks.proofs.Soundness.{limits}

-- a link that shows neither dark nor with other metres shows as it is
pub unaltered : (dark : Bool) (raised : ℕ → ℕ) (l : Link) → dark ≡ false → raised l.metres ≡ l.metres → dimmed dark (remeasured raised l) ≡ l
unaltered dark raised l d m =
    ap (λ b. dimmed b (remeasured raised l)) d
    ∙ ap (λ k. dimmed false (remeasured (λ _. k) l)) m
    ∙ ap (λ b. record { start = l.start; end = l.end; metres = l.metres; poles = l.poles; channels = l.channels; taken = l.taken; lit = b }) (and-true l.lit)

-- a change that leaves each sound link as it is
pub numbered_bare : (f : ℕ → Link → Link) (sites : ℕ) → ((j : ℕ) (l : Link) → link_sound sites l ≡ true → f j l ≡ l) → (k : ℕ) (ls : List Link) → all_sound sites ls ≡ true → numbered f k ls ≡ ls
numbered_bare f sites bare k [] h = refl
numbered_bare f sites bare k (l ∷ ls) h = search (rules, tests, bare k l, numbered_bare f sites bare (suc k) ls)

-- links that show neither dark nor with other metres: the network shows as it is
pub bare_shows : (shown : ℕ → Link → Link) (dark : ℕ → Bool) (raised : ℕ → ℕ → ℕ) → ((k : ℕ) (l : Link) → shown k l ≡ dimmed (dark k) (remeasured (raised k) l)) → ((k : ℕ) → dark k ≡ false) → ((k m : ℕ) → m ≤ 1000000 → raised k m ≡ m) → (n : Net) → Sound n → changed shown n ≡ n
bare_shows shown dark raised shows none same n s =
    ap (λ ls. record { sites = n.sites; links = ls })
    (numbered_bare shown n.sites (λ k l h. shows k l ∙ unaltered (dark k) (raised k) l (none k) (same k l.metres (limits n.sites l h).metres_high)) 0 n.links s.each_link)
