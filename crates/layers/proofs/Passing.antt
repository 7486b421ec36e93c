-- What every layer tells, takes and gives, by what the network below does: its links show dark or with other metres.
use Rattle.std.proofs.Common.{◌≡◌, ℕ, Bool, true, cond, not, ◌&&◌, ltb, length, Ok, Err, sym, refl, ap, ◌∙◌, arith}
use Rattle.std.proofs.lemmas.Bool.{and_parts}
use Rattle.networks.specs.declared.model.Link.{Link}
use Rattle.networks.specs.declared.model.NetworkRefusal.{NetworkRefusal}
use Rattle.networks.specs.declared.model.NetworkRefusal.TheVariants.{LinkTooHigh}
use Rattle.networks.specs.Meaning.{Net, link_at, usable}
use Rattle.networks.specs.Changing.{changed, dimmed, remeasured}
use Rattle.networks.specs.Telling.{told, ends, lengths, channels, take_answer, take_after, give_answer, give_after}
use Rattle.networks.proofs.Layering.{told_changed, told_with, told_refused, take_passed, give_passed}
use Rattle.layers.specs.LayerLaws.{shown_retaken}

-- where what is told of a link is the same, so is the answer
told_same : {A : Type 0} (g h : Link → A) (n : Net) (k : ℕ) → ((l : Link) → g l ≡ h l) → told g n k ≡ told h n k
told_same g h n k same = ap (λ x. cond (ltb k (length n.links)) (Ok x) (Err LinkTooHigh)) (same (link_at n k))

-- what is told of a link is what the link has
told_value : {A : Type 0} (g : Link → A) (n : Net) (k : ℕ) (x : A) → Ok x ≡ told g n k → x ≡ g (link_at n k)
told_value g n k x e = grind arith

module _ (shown : ℕ → Link → Link) (dark : ℕ → Bool) (raised : ℕ → ℕ → ℕ) (shows : (k : ℕ) (l : Link) → shown k l ≡ dimmed (dark k) (remeasured (raised k) l)) where
  -- a question is answered by what the link shows
  shown_as : {A : Type 0} (g h : Link → A) (n : Net) (k : ℕ) → ((l : Link) → g (dimmed (dark k) (remeasured (raised k) l)) ≡ h l) → told g (changed shown n) k ≡ told h n k
  shown_as g h n k same = told_changed shown g n k ∙ told_same (λ l. g (shown k l)) h n k (λ l. ap g (shows k l) ∙ same l)

  -- start and end show as below
  pub shown_ends : (n : Net) (k : ℕ) → told ends (changed shown n) k ≡ told ends n k
  shown_ends n k = shown_as ends ends n k (λ l. refl)

  -- channels show as below
  pub shown_channels : (n : Net) (k : ℕ) → told channels (changed shown n) k ≡ told channels n k
  shown_channels n k = shown_as channels channels n k (λ l. refl)

  -- the metres told below show raised
  pub shown_lengths : (n : Net) (k metres poles : ℕ) → Ok (metres, poles) ≡ told lengths n k → Ok (raised k metres, poles) ≡ told lengths (changed shown n) k
  shown_lengths n k metres poles e =
      told_with lengths (λ p. (raised k p.0, p.1)) n k (metres, poles) e ∙ sym (shown_as lengths (λ l. (raised k l.metres, l.poles)) n k (λ l. refl))

  -- the light told below shows, but on a dark link
  pub shown_lit : (n : Net) (k : ℕ) (lit : Bool) → Ok lit ≡ told (λ l. l.lit) n k → Ok (lit && not (dark k)) ≡ told (λ l. l.lit) (changed shown n) k
  shown_lit n k lit e =
      told_with (λ l. l.lit) (λ b. b && not (dark k)) n k lit e ∙ sym (shown_as (λ l. l.lit) (λ l. l.lit && not (dark k)) n k (λ l. refl))

  -- a refusal below is a refusal above
  pub shown_refused : {A : Type 0} (g : Link → A) (n : Net) (k : ℕ) (x : NetworkRefusal) → Err x ≡ told g n k → Err x ≡ told g (changed shown n) k
  shown_refused g n k x e = told_refused g (λ l. g (shown k l)) n k x e ∙ sym (told_changed shown g n k)

  -- a link that shows lit is as usable as below
  lit_usable : (k : ℕ) (l : Link) → (shown k l).lit ≡ true → usable (shown k l) ≡ usable l
  lit_usable k l h =
      let parts = and_parts l.lit (not (dark k)) (sym (ap (λ x. x.lit) (shows k l)) ∙ h) in
      ap usable (shows k l) ∙ ap (λ b. b && ltb l.taken l.channels) (sym (ap (λ x. x.lit) (shows k l)) ∙ h ∙ sym parts.0)

  -- a take of a link that shows lit is passed down
  pub shown_take : (n : Net) (k : ℕ) (lit : Bool) → Ok lit ≡ told (λ l. l.lit) (changed shown n) k → lit ≡ true → (take_answer (changed shown n) k ≡ take_answer n k) × (take_after (changed shown n) k ≡ changed shown (take_after n k))
  shown_take n k lit e h =
      let value = told_value (λ l. (shown k l).lit) n k lit (e ∙ told_changed shown (λ l. l.lit) n k) in
      take_passed shown (shown_retaken shown dark raised shows) n k (λ _. lit_usable k (link_at n k) (sym value ∙ h))

  -- a give is passed down
  pub shown_give : (n : Net) (k : ℕ) → (give_answer (changed shown n) k ≡ give_answer n k) × (give_after (changed shown n) k ≡ changed shown (give_after n k))
  shown_give n k = give_passed shown (shown_retaken shown dark raised shows) (λ j l. ap (λ x. x.taken) (shows j l)) n k
