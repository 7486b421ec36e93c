-- One record more: what was read stays lawful, and its bytes are those before it and then its own.
use Rattle.std.proofs.Common.{◌≡◌, ℕ, ◌+◌, ◌<◌, ◌≤◌, Bool, true, cond, ◌⊎◌, List, [], ◌∷◌, ◌++◌, length, drop, Some, None, Option, sym, refl, ap, ◌∙◌, subst, ⊎_elim, append_assoc, append-nil, arith, length-append, length-drop}
use Rattle.std.specs.List.{flat_map}
use Rattle.std.proofs.slice.Lists.{all_by_recursion_push}
use Rattle.std.proofs.lemmas.List.{flat_map_more, drop_all, nil_from_length}
use Rattle.std.proofs.lemmas.Bool.{and_parts, and_from, leb-true, ltb-true, eqb-true, false≢true}
use Rattle.std.proofs.lemmas.List.Recursion.{and_push}
use Rattle.std.proofs.lemmas.Bool.Decides.{nat_tests}
use Rattle.networks.specs.declared.model.Link.{Link}
use Rattle.networks.specs.Meaning.{link_sound, all_sound}
use Rattle.records.specs.Bytes.{le16, le32, u16_at, u32_at, record_bytes}
use Rattle.records.proofs.Cutting.{Bytes}
use Rattle.records.proofs.Payloads.{two_at, four_at, u16_fits, u32_fits}
use Rattle.sheet_format.specs.Items.{Named, Item, header, name, link, bytes_of, shaped, item_of}
use Rattle.sheet_format.specs.Rules.{Rule, Before, unbegun, begun, next_site, in_order, within, counted, refused, added}
use Rattle.sheet_format.specs.Sheets.{GoodName, Rising, Unused, written_before, LawfulBefore}
use Rattle.sheet_format.proofs.Back.{Fitting}

-- the three kinds of a fitting payload
by_kind : (kind size : ℕ) → shaped kind size ≡ true → ((kind ≡ 1) × (size ≡ 4)) ⊎ (((kind ≡ 2) × (3 ≤ size) × (size ≤ 34)) ⊎ ((kind ≡ 3) × (size ≡ 14)))
by_kind kind size h = grind (arith, nat_tests)

-- a payload of a fitting size is the writing of its record
WholeItem : ℕ → List ℕ → Type 0
WholeItem kind payload = (bytes_of (item_of kind payload) ≡ record_bytes kind payload) × Fitting (item_of kind payload)

module _ (p : List ℕ) (typed : Bytes p) where
  header_whole : length p ≡ 4 → WholeItem 1 p
  unfolding WholeItem
  header_whole size =
      let parts : p ≡ le16 (u16_at p 0) ++ le16 (u16_at p 2) = two_at p 0 typed (omega arith) ∙ ap (λ l. le16 (u16_at p 0) ++ l) (two_at p 2 typed (omega arith) ∙ ap (λ l. le16 (u16_at p 2) ++ l) (drop_all 4 p (omega arith))) in
      (ap (record_bytes 1) (sym parts), (u16_fits p 0 typed, u16_fits p 2 typed))

  name_whole : 3 ≤ length p → length p ≤ 34 → WholeItem 2 p
  unfolding WholeItem
  name_whole least most =
      let parts : p ≡ le16 (u16_at p 0) ++ drop 2 p = two_at p 0 typed (omega arith) in
      (ap (record_bytes 2) (sym parts), (u16_fits p 0 typed, omega (arith, length-drop 2 p), omega (arith, length-drop 2 p)))

  link_whole : length p ≡ 14 → WholeItem 3 p
  unfolding WholeItem
  link_whole size =
      let last : drop 12 p ≡ le16 (u16_at p 12) = two_at p 12 typed (omega arith) ∙ ap (λ l. le16 (u16_at p 12) ++ l) (drop_all 14 p (omega arith)) in
      let poles : drop 8 p ≡ le32 (u32_at p 8) ++ le16 (u16_at p 12) = four_at p 8 typed (omega arith) ∙ ap (λ l. le32 (u32_at p 8) ++ l) last in
      let metres : drop 4 p ≡ le32 (u32_at p 4) ++ (le32 (u32_at p 8) ++ le16 (u16_at p 12)) = four_at p 4 typed (omega arith) ∙ ap (λ l. le32 (u32_at p 4) ++ l) poles in
      let end : drop 2 p ≡ le16 (u16_at p 2) ++ (le32 (u32_at p 4) ++ (le32 (u32_at p 8) ++ le16 (u16_at p 12))) = two_at p 2 typed (omega arith) ∙ ap (λ l. le16 (u16_at p 2) ++ l) metres in
      let parts : p ≡ le16 (u16_at p 0) ++ (le16 (u16_at p 2) ++ (le32 (u32_at p 4) ++ (le32 (u32_at p 8) ++ le16 (u16_at p 12)))) = two_at p 0 typed (omega arith) ∙ ap (λ l. le16 (u16_at p 0) ++ l) end in
      (ap (record_bytes 3) (sym parts), (u16_fits p 0 typed, u16_fits p 2 typed, u32_fits p 4 typed, u32_fits p 8 typed, u16_fits p 12 typed, (refl, refl)))

  pub whole_item : (kind : ℕ) → shaped kind (length p) ≡ true → (bytes_of (item_of kind p) ≡ record_bytes kind p) × Fitting (item_of kind p)
  unfolding WholeItem
  whole_item kind h =
      ⊎_elim (λ w. subst (λ k. WholeItem k p) (sym w.0) (header_whole w.1))
      (λ v. ⊎_elim (λ w. subst (λ k. WholeItem k p) (sym w.0) (name_whole w.1 w.2)) (λ w. subst (λ k. WholeItem k p) (sym w.0) (link_whole w.1)) v)
      (by_kind kind (length p) h)

-- a record with a name of 1 to 32 bytes, or a link that is lit with no channel taken
abbrev pub Proper : Item → Type 0
Proper (header sites links) = Unit {0}
Proper (name n) = (1 ≤ length n.name) × (length n.name ≤ 32)
Proper (link l) = Unused l

pub proper_item : (kind : ℕ) (p : List ℕ) → shaped kind (length p) ≡ true → Proper (item_of kind p)
proper_item kind p h =
    ⊎_elim (λ w. let is : Proper (item_of 1 p) = tt in subst (λ k. Proper (item_of k p)) (sym w.0) is)
    (λ v. ⊎_elim
    (λ w. let is : Proper (item_of 2 p) = (omega (arith, length-drop 2 p), omega (arith, length-drop 2 p)) in subst (λ k. Proper (item_of k p)) (sym w.0) is)
    (λ w. let is : Proper (item_of 3 p) = (refl, refl) in subst (λ k. Proper (item_of k p)) (sym w.0) is) v)
    (by_kind kind (length p) h)

all_three : (p q r : Bool) (x y z : Rule) → ◌≡◌ {A = Option Rule} (cond p (cond q (cond r None (Some x)) (Some y)) (Some z)) None → (p ≡ true) × (q ≡ true) × (r ≡ true)
all_three p q r x y z h = grind arith

-- a record that breaks no rule passes the three checks
pub passes : (b : Before) (x : Item) → refused b x ≡ None → (in_order b x ≡ true) × (within b x ≡ true) × (counted b x ≡ true)
passes b x h = all_three (in_order b x) (within b x) (counted b x) _ _ _ h

rising_push : (from : ℕ) (ns : List Named) (n : Named) → Rising from ns → next_site from ns ≤ n.site → Rising from (ns ++ n ∷ [])
rising_push from [] n r h = (h, tt)
rising_push from (m ∷ ns) n r h = (r.0, rising_push (m.site + 1) ns n r.1 h)

sound_push : (s : ℕ) (ls : List Link) (l : Link) → all_sound s ls ≡ true → link_sound s l ≡ true → all_sound s (ls ++ l ∷ []) ≡ true
sound_push s ls l h k = and_push (all_sound s) (link_sound s) refl (λ _ _. refl) ls l ∙ and_from _ _ h k

-- what came before and the record stay lawful
pub grows : (b : Before) (x : Item) → LawfulBefore b → Proper x → refused b x ≡ None → LawfulBefore (added b x)
grows unbegun (header s c) law fits none = record { head = (passes unbegun (header s c) none).1; names = tt; rising = tt; links = refl; unused = tt; number = omega arith }
grows unbegun (name n) law fits none = absurd (false≢true (passes unbegun (name n) none).0)
grows unbegun (link l) law fits none = absurd (false≢true (passes unbegun (link l) none).0)
grows (begun f) (header s c) law fits none = absurd (false≢true (passes (begun f) (header s c) none).0)
grows (begun f) (name n) law fits none =
    let p = passes (begun f) (name n) none in
    record {
      head = law.head;
      names = all_by_recursion_push (GoodName f.sites) f.names n law.names (record { shortest = fits.0; longest = fits.1; limits = p.1 });
      rising = rising_push 0 f.names n law.rising (leb-true _ _ (and_parts _ _ p.0).1);
      links = law.links;
      unused = law.unused;
      number = law.number;
    }
grows (begun f) (link l) law fits none =
    let p = passes (begun f) (link l) none in
    let lt : length f.links < f.count = ltb-true _ _ p.2 in
    record {
      head = law.head;
      names = law.names;
      rising = law.rising;
      links = sound_push f.sites f.links l law.links p.1;
      unused = all_by_recursion_push Unused f.links l law.unused fits;
      number = omega (arith, length-append f.links (l ∷ []));
    }

after_names : (h : List ℕ) (ns : List Named) (n : Named) (ls : List Link) → ls ≡ [] → h ++ (flat_map (λ m. bytes_of (name m)) (ns ++ n ∷ []) ++ flat_map (λ l. bytes_of (link l)) ls) ≡ (h ++ (flat_map (λ m. bytes_of (name m)) ns ++ flat_map (λ l. bytes_of (link l)) ls)) ++ bytes_of (name n)
after_names h ns n [] e =
    ap (λ l. h ++ l) (append-nil _ ∙ sym (flat_map_more (λ m. bytes_of (name m)) [] ns n)) ∙ sym (append_assoc h (flat_map (λ m. bytes_of (name m)) ns) (bytes_of (name n))) ∙ ap (λ l. (h ++ l) ++ bytes_of (name n)) (sym (append-nil (flat_map (λ m. bytes_of (name m)) ns)))
after_names h ns n (l ∷ ls) e = cc

-- and its bytes come after theirs
pub written_more : (b : Before) (x : Item) → refused b x ≡ None → written_before (added b x) ≡ written_before b ++ bytes_of x
written_more unbegun (header s c) none = append-nil (bytes_of (header s c))
written_more unbegun (name n) none = absurd (false≢true (passes unbegun (name n) none).0)
written_more unbegun (link l) none = absurd (false≢true (passes unbegun (link l) none).0)
written_more (begun f) (header s c) none = absurd (false≢true (passes (begun f) (header s c) none).0)
written_more (begun f) (name n) none =
    after_names (bytes_of (header f.sites f.count)) f.names n f.links (nil_from_length f.links (eqb-true _ _ (and_parts _ _ (passes (begun f) (name n) none).0).0))
written_more (begun f) (link l) none =
    let h = bytes_of (header f.sites f.count) in
    let ns = flat_map (λ n. bytes_of (name n)) f.names in
    let ls = flat_map (λ k. bytes_of (link k)) f.links in
    ap (λ k. h ++ (ns ++ k)) (sym (flat_map_more (λ k. bytes_of (link k)) [] f.links l)) ∙ ap (λ k. h ++ k) (sym (append_assoc ns ls (bytes_of (link l)))) ∙ sym (append_assoc h (ns ++ ls) (bytes_of (link l)))
