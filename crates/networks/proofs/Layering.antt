-- What a layer shows: every link changed by its number, channels taken left alone. Its answers, takes and gives follow from those below.
use Rattle.std.proofs.Common.{tests, ◌≡◌, ℕ, ◌+◌, ◌-◌, ◌<◌, ◌≤◌, Bool, true, false, cond, eqb, ltb, length, is_ok, Ok, Err, sym, refl, ap, ◌∙◌, subst, arith}
use Rattle.networks.specs.declared.model.Link.{Link}
use Rattle.networks.specs.declared.model.NetworkRefusal.{NetworkRefusal}
use Rattle.networks.specs.declared.model.NetworkRefusal.TheVariants.{LinkTooHigh, NotUsable, NoneTaken}
use Rattle.networks.specs.Meaning.{Net, Sound, link_at, link_sound, usable}
use Rattle.networks.specs.Changing.{changed, only, retaken, cleared}
use Rattle.networks.specs.Telling.{told, take_answer, take_after, give_answer, give_after}
use Rattle.networks.proofs.Numbering.{length_numbered, link_at_changed, numbered_swap, all_sound_numbered}

-- what is answered of a link, where it is below the count or not
answer_changed : {A : Type 0} (f : ℕ → Link → Link) (n : Net) (k : ℕ) (g h : Link → A) (e : A) → (k < length n.links → g (f k (link_at n k)) ≡ h (link_at n k)) → cond (ltb k (length (changed f n).links)) (g (link_at (changed f n) k)) e ≡ cond (ltb k (length n.links)) (h (link_at n k)) e
answer_changed f n k g h e same = grind (arith, tests, length_numbered f 0 n.links, link_at_changed f n k)

-- a layer tells of a link what lies below, changed
pub told_changed : {A : Type 0} (f : ℕ → Link → Link) (g : Link → A) (n : Net) (k : ℕ) → told g (changed f n) k ≡ told (λ l. g (f k l)) n k
told_changed f g n k = answer_changed f n k (λ l. Ok (g l)) (λ l. Ok (g (f k l))) (Err LinkTooHigh) (λ inside. refl)

-- a sound network stays sound under a layer that keeps each link sound
pub sound_changed : (f : ℕ → Link → Link) (n : Net) → ((j : ℕ) (l : Link) → link_sound n.sites l ≡ true → link_sound n.sites (f j l) ≡ true) → Sound n → Sound (changed f n)
sound_changed f n keeps s =
    record {
      fewest_sites = s.fewest_sites;
      most_sites = s.most_sites;
      most_links = subst (λ m. m ≤ 2048) (sym (length_numbered f 0 n.links)) s.most_links;
      each_link = all_sound_numbered f n.sites keeps 0 n.links s.each_link;
    }

-- what a refused give leaves
pub refused_give : (n : Net) (k : ℕ) (e : NetworkRefusal) → give_answer n k ≡ Err e → give_after n k ≡ n
refused_give n k e h = ap (λ a. cond (is_ok a) (changed (only k (retaken (λ t. t - 1))) n) n) h

-- a change of links that commutes with other channels taken
module _ (f : ℕ → Link → Link) (commutes : (g : ℕ → ℕ) (j : ℕ) (l : Link) → f j (retaken g l) ≡ retaken g (f j l)) where
  -- one link's channels taken below show as that link's above
  pub only_changed : (g : ℕ → ℕ) (k : ℕ) (n : Net) → changed (only k (retaken g)) (changed f n) ≡ changed f (changed (only k (retaken g)) n)
  only_changed g k n =
      let each : (j : ℕ) (l : Link) → only k (retaken g) j (f j l) ≡ f j (only k (retaken g) j l) =
      λ j l. elim (eqb j k) as (λ b. cond b (retaken g (f j l)) (f j l) ≡ f j (cond b (retaken g l) l)) [ true ↦ sym (commutes g j l) | false ↦ refl ] in
      ap (λ ls. record { sites = n.sites; links = ls }) (numbered_swap (only k (retaken g)) f each 0 n.links)

  -- what is left where a take or give was accepted, and where it was refused
  after_passed : (g : ℕ → ℕ) (k : ℕ) (n : Net) (ok : Bool) → cond ok (changed (only k (retaken g)) (changed f n)) (changed f n) ≡ changed f (cond ok (changed (only k (retaken g)) n) n)
  after_passed g k n true = only_changed g k n
  after_passed g k n false = refl

  -- networks alike but for channels taken look so through the layer
  pub alike_changed : (a b : Net) → cleared a ≡ cleared b → cleared (changed f a) ≡ cleared (changed f b)
  alike_changed a b e =
      let over : (n : Net) → cleared (changed f n) ≡ changed f (cleared n) =
      λ n. ap (λ ls. record { sites = n.sites; links = ls }) (numbered_swap (λ j. retaken (λ t. 0)) f (λ j l. sym (commutes (λ t. 0) j l)) 0 n.links) in
      over a ∙ ap (changed f) e ∙ sym (over b)

  -- a take that is passed down: answered alike, the layer shows what it left
  pub take_passed : (n : Net) (k : ℕ) → (k < length n.links → usable (f k (link_at n k)) ≡ usable (link_at n k)) → (take_answer (changed f n) k ≡ take_answer n k) × (take_after (changed f n) k ≡ changed f (take_after n k))
  take_passed n k same =
      let answer : take_answer (changed f n) k ≡ take_answer n k =
      answer_changed f n k (λ l. cond (usable l) (Ok tt) (Err NotUsable)) (λ l. cond (usable l) (Ok tt) (Err NotUsable)) (Err LinkTooHigh) (λ inside. ap (λ u. cond u (Ok tt) (Err NotUsable)) (same inside)) in
      let after : take_after (changed f n) k ≡ changed f (take_after n k) =
      ap (λ a. cond (is_ok a) (changed (only k (retaken (λ t. t + 1))) (changed f n)) (changed f n)) answer ∙ after_passed (λ t. t + 1) k n (is_ok (take_answer n k)) in
      (answer, after)

  -- a give that is passed down: answered alike, the layer shows what it left
  pub give_passed : ((j : ℕ) (l : Link) → (f j l).taken ≡ l.taken) → (n : Net) (k : ℕ) → (give_answer (changed f n) k ≡ give_answer n k) × (give_after (changed f n) k ≡ changed f (give_after n k))
  give_passed same n k =
      let answer : give_answer (changed f n) k ≡ give_answer n k =
      answer_changed f n k (λ l. cond (ltb 0 l.taken) (Ok tt) (Err NoneTaken)) (λ l. cond (ltb 0 l.taken) (Ok tt) (Err NoneTaken)) (Err LinkTooHigh) (λ inside. ap (λ t. cond (ltb 0 t) (Ok tt) (Err NoneTaken)) (same k (link_at n k))) in
      let after : give_after (changed f n) k ≡ changed f (give_after n k) =
      ap (λ a. cond (is_ok a) (changed (only k (retaken (λ t. t - 1))) (changed f n)) (changed f n)) answer ∙ after_passed (λ t. t - 1) k n (is_ok (give_answer n k)) in
      (answer, after)

-- what is told of a link, by a function of what was told
pub told_with : {A B : Type 0} (f : Link → A) (h : A → B) (n : Net) (k : ℕ) (x : A) → Ok x ≡ told f n k → Ok (h x) ≡ told (λ l. h (f l)) n k
told_with f h n k x e = grind arith

-- where one question is refused, so is every other, alike
pub told_refused : {A B : Type 0} (f : Link → A) (h : Link → B) (n : Net) (k : ℕ) (x : NetworkRefusal) → Err x ≡ told f n k → Err x ≡ told h n k
told_refused f h n k x e = grind arith
