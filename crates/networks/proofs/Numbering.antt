-- Lists of links changed by number: lengths, places, one change after another.
use Rattle.std.proofs.Common.{rules, tests, ◌≡◌, ℕ, zero, suc, ◌+◌, ◌<◌, true, List, [], ◌∷◌, length, get_or, set, sym, refl, ap, ◌∙◌, add-zero, arith}
use Rattle.networks.specs.declared.model.Link.{Link}
use Rattle.networks.specs.Meaning.{Net, link_at, no_link, all_sound, link_sound}
use Rattle.networks.specs.Changing.{numbered, changed, only}

-- a change of each link leaves as many
pub length_numbered : (f : ℕ → Link → Link) (k : ℕ) (ls : List Link) → length (numbered f k ls) ≡ length ls
length_numbered f k [] = refl
length_numbered f k (l ∷ ls) = ap suc (length_numbered f (suc k) ls)

-- what stands at a place
pub get_d_numbered : (f : ℕ → Link → Link) (k : ℕ) (ls : List Link) (j : ℕ) (d : Link) → j < length ls → get_or (numbered f k ls) j d ≡ f (k + j) (get_or ls j d)
get_d_numbered f k [] j d h = absurd (omega arith)
get_d_numbered f k (l ∷ ls) zero d h = ap (λ i. f i l) (sym (add-zero k))
get_d_numbered f k (l ∷ ls) (suc j) d h =
    let inside : j < length ls = omega arith in
    let shift : suc k + j ≡ k + suc j = omega arith in
    get_d_numbered f (suc k) ls j d inside ∙ ap (λ i. f i (get_or ls j d)) shift

-- one change after another is one change
pub numbered_twice : (f g : ℕ → Link → Link) (k : ℕ) (ls : List Link) → numbered f k (numbered g k ls) ≡ numbered (λ j l. f j (g j l)) k ls
numbered_twice f g k [] = refl
numbered_twice f g k (l ∷ ls) = ap (λ t. f k (g k l) ∷ t) (numbered_twice f g (suc k) ls)

-- changes that agree give the same links
pub numbered_same : (f g : ℕ → Link → Link) → ((j : ℕ) (l : Link) → f j l ≡ g j l) → (k : ℕ) (ls : List Link) → numbered f k ls ≡ numbered g k ls
numbered_same f g e k [] = refl
numbered_same f g e k (l ∷ ls) = ap (λ x. x ∷ numbered f (suc k) ls) (e k l) ∙ ap (λ t. g k l ∷ t) (numbered_same f g e (suc k) ls)

-- a change that changes no link
pub numbered_none : (f : ℕ → Link → Link) → ((j : ℕ) (l : Link) → f j l ≡ l) → (k : ℕ) (ls : List Link) → numbered f k ls ≡ ls
numbered_none f e k [] = refl
numbered_none f e k (l ∷ ls) = ap (λ x. x ∷ numbered f (suc k) ls) (e k l) ∙ ap (λ t. l ∷ t) (numbered_none f e (suc k) ls)

-- two changes that commute link by link commute on the list
pub numbered_swap : (f g : ℕ → Link → Link) → ((j : ℕ) (l : Link) → f j (g j l) ≡ g j (f j l)) → (k : ℕ) (ls : List Link) → numbered f k (numbered g k ls) ≡ numbered g k (numbered f k ls)
numbered_swap f g e k ls = numbered_twice f g k ls ∙ numbered_same (λ j l. f j (g j l)) (λ j l. g j (f j l)) e k ls ∙ sym (numbered_twice g f k ls)

-- no link past k is the link k
past_only : (k i : ℕ) (f : Link → Link) (ls : List Link) → k < i → numbered (only k f) i ls ≡ ls
past_only k i f [] h = refl
past_only k i f (l ∷ ls) h = grind (arith, tests, past_only k (suc i) f ls)

-- the place k of a list written, where the first link's number is i
pub set_numbered : (i k : ℕ) (f : Link → Link) (ls : List Link) (d : Link) → k < length ls → set ls k (f (get_or ls k d)) ≡ numbered (only (i + k) f) i ls
set_numbered i k f [] d h = absurd (omega arith)
set_numbered i zero f (l ∷ ls) d h = grind (arith, tests, past_only i (suc i) f ls)
set_numbered i (suc k) f (l ∷ ls) d h = grind (arith, tests, set_numbered (suc i) k f ls d)

-- the link of a number after a change by number
pub link_at_changed : (f : ℕ → Link → Link) (n : Net) (k : ℕ) → k < length n.links → link_at (changed f n) k ≡ f k (link_at n k)
link_at_changed f n k h =
    let from : 0 + k ≡ k = omega arith in
    get_d_numbered f 0 n.links k no_link h ∙ ap (λ i. f i (link_at n k)) from

-- a change that keeps each link sound keeps all sound
pub all_sound_numbered : (f : ℕ → Link → Link) (sites : ℕ) → ((j : ℕ) (l : Link) → link_sound sites l ≡ true → link_sound sites (f j l) ≡ true) → (k : ℕ) (ls : List Link) → all_sound sites ls ≡ true → all_sound sites (numbered f k ls) ≡ true
all_sound_numbered f sites keeps k [] h = refl
all_sound_numbered f sites keeps k (l ∷ ls) h = search (rules, tests, keeps k l, all_sound_numbered f sites keeps (suc k) ls)
