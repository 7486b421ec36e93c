-- The names by their sites, and the bytes of one.
use Rattle.std.proofs.Common.{
  ◌≡◌,
  ℕ,
  zero,
  suc,
  ◌+◌,
  ◌<◌,
  ◌≤◌,
  Bool,
  true,
  false,
  cond,
  ◌&&◌,
  eqb,
  leb,
  length,
  get_or,
  List,
  [],
  ◌∷◌,
  ◌++◌,
  map,
  Some,
  None,
  Bor,
  Less,
  Equal,
  Greater,
  sym,
  refl,
  ap,
  ◌∙◌,
  subst,
  arith,
}
use Rattle.std.specs.List.{list_all, AllByRecursion, HoldsAt}
use Rattle.std.specs.List.Sorted.{IsStrictlySortedBy, IsNonDecreasingBy, IsPartitionPoint}
use Rattle.std.specs.Map.{keys_of}
use Rattle.std.specs.Ordering.{nat_cmp, ordering_index}
use Rattle.std.specs.Cmp.{nat_cmp_is}
use Rattle.std.proofs.Math.Logic.{⊎_elim}
use Rattle.std.proofs.ByRecursion.{All-push}
use Rattle.std.proofs.lemmas.Bool.{cases_lt}
use Rattle.std.proofs.lemmas.Bool.Decides.{nat_tests}
use Rattle.std.proofs.lemmas.Cmp.{ranked}
use Rattle.std.proofs.lemmas.List.{map_push, length-map}
use Rattle.std.proofs.lemmas.List.Recursion.{same_from_clauses}
use Rattle.std.proofs.lemmas.Map.Keys.{
  sorted_head,
  sorted_tail,
  below_from_sorted,
  non_decreasing_from_sorted,
}
use Rattle.sheet_format.specs.Rules.{next_site, printable}
use Rattle.sheets.specs.Naming.{entry_of, name_of}

-- a site and its name, as the table of names has them
abbrev Entry : Type 0
Entry = ℕ × Bor (List ℕ)

abbrev Entries : Type 0
Entries = List Entry

-- the sites of the entries rise
abbrev Rising : Entries → Type 0
Rising es = IsStrictlySortedBy nat_cmp (keys_of es)

-- a new entry, behind the others
abbrev pushed : Entries → ℕ → Bor (List ℕ) → Entries
pushed es site name = es ++ (site, name) ∷ []

less : (a b : ℕ) → nat_cmp a b ≡ Less → a < b
less a b h = grind (arith, nat_tests)

-- the sites after a first one are above it
above : (x : ℕ) (es : Entries) → IsStrictlySortedBy nat_cmp (x ∷ keys_of es) →
    x < next_site (x + 1) (map entry_of es)
above x [] s = omega arith
above x (e ∷ es) s =
    let first : x < e.0 = less x e.0 (sorted_head nat_cmp x (keys_of (e ∷ es)) s).0 in
    let rest : e.0 < next_site (e.0 + 1) (map entry_of es) =
    above e.0 es (sorted_tail nat_cmp x (keys_of (e ∷ es)) s) in
    omega arith

-- no entries are in order
pub sorted_none : (es : Entries) → es ≡ [] → Rising es
unfolding IsStrictlySortedBy
sorted_none es is = subst Rising (sym is) tt

-- an entry of a site above the others keeps the order
sorted_more : (from : ℕ) (es : Entries) (site : ℕ) (name : Bor (List ℕ)) → Rising es →
    next_site from (map entry_of es) ≤ site → Rising (pushed es site name)
unfolding IsStrictlySortedBy
sorted_more from [] site name s h = (tt, tt)
sorted_more from (e ∷ es) site name s h =
    let below : e.0 < site = omega (arith, above e.0 es s) in
    let P : ℕ → Type 0 = λ y. nat_cmp e.0 y ≡ Less in
    let last : P site = sym (nat_cmp_is e.0 site Less below) in (
      subst (AllByRecursion P) (sym (map_push (λ x. x.0) es (site, name)))
          (All-push P (keys_of es) site s.0 last),
      sorted_more (e.0 + 1) es site name s.1 h,
    )

-- with or without memory for it
pub sorted_pushed : (ok : Bool) (es after : Entries) (site : ℕ) (name : Bor (List ℕ)) →
    Rising es → next_site 0 (map entry_of es) ≤ site → after ≡ cond ok (pushed es site name) es →
    Rising after
sorted_pushed true es after site name s h is =
    subst Rising (sym is) (sorted_more 0 es site name s h)
sorted_pushed false es after site name s h is = subst Rising (sym is) s

-- the site of an entry, by its place
site_at : (es : Entries) (i : ℕ) (d : Entry) → (get_or es i d).0 ≡ get_or (keys_of es) i d.0
site_at [] i d = refl
site_at (e ∷ es) zero d = refl
site_at (e ∷ es) (suc i) d = site_at es i d

-- a site that no entry has bears no name
none_at : (es : Entries) (site : ℕ) →
    ((k : ℕ) (d : Entry) → k < length es → (get_or es k d).0 ≡ site → ⊥) →
    name_of (map entry_of es) site ≡ None
none_at [] site h = refl
none_at (e ∷ es) site h =
    let other : e.0 ≡ site → ⊥ = h 0 e (omega arith) in
    let apart : eqb e.0 site ≡ false = grind (arith, nat_tests) in
    ap (λ b. cond b (Some e.1.now) (name_of (map entry_of es) site)) apart
    ∙ none_at es site (λ k d l same. h (suc k) d (omega arith) same)

-- a site that an entry has bears that entry's name, where the sites rise
some_at : (es : Entries) (site i : ℕ) (d : Entry) → Rising es → i < length es →
    (get_or es i d).0 ≡ site → name_of (map entry_of es) site ≡ Some (get_or es i d).1.now
some_at [] site i d s l same = absurd (omega arith)
some_at (e ∷ es) site zero d s l same =
    let here : eqb e.0 site ≡ true = grind (arith, nat_tests) in
    ap (λ b. cond b (Some e.1.now) (name_of (map entry_of es) site)) here
some_at (e ∷ es) site (suc i) d s l same =
    let within : suc i < length (keys_of (e ∷ es)) = omega (arith, length-map es (λ x. x.0)) in
    let low : e.0 < get_or (keys_of es) i d.0 =
    below_from_sorted (keys_of (e ∷ es)) 0 (suc i) d.0 s (omega arith) within in
    let other : e.0 ≡ site → ⊥ = λ q. omega (arith, low, site_at es i d, same, q) in
    let apart : eqb e.0 site ≡ false = grind (arith, nat_tests) in
    ap (λ b. cond b (Some e.1.now) (name_of (map entry_of es) site)) apart
    ∙ some_at es site i d (sorted_tail nat_cmp e.0 (keys_of es) s) (omega arith) same

-- the comparisons with a site rise along the entries, as a search by halving asks
abbrev ComparisonsRise : ℕ → Entries → Type 0
ComparisonsRise site es = IsNonDecreasingBy (λ e. ordering_index (nat_cmp e.0 site)) es

comparisons_rise : (es : Entries) (site : ℕ) → Rising es → ComparisonsRise site es
comparisons_rise es site s i j d le l =
    let within : j < length (keys_of es) = omega (arith, length-map es (λ x. x.0)) in
    let up = non_decreasing_from_sorted (keys_of es) s i j d.0 le within in
    let rise : (get_or es i d).0 ≤ (get_or es j d).0 =
    omega (arith, up, site_at es i d, site_at es j d) in
    grind (arith, nat_tests)

-- the entry that a search by halving finds bears the site's name
pub found_name : (es slice : Entries) (site i : ℕ) (one : Entry) → slice ≡ es → Rising es →
    i < length slice → HoldsAt (λ e. nat_cmp e.0 site ≡ Equal) slice i → one ≡ get_or es i one →
    name_of (map entry_of es) site ≡ Some one.1.now
found_name es slice site i one is s within equal at =
    let there : (get_or slice i one).0 ≡ site = ranked _ site _ (sym (equal one)) in
    let same : (get_or es i one).0 ≡ site = subst (λ l. (get_or l i one).0 ≡ site) is there in
    some_at es site i one s (subst (λ l. i < length l) is within) same
    ∙ ap (λ x. Some x.1.now) (sym at)

-- the place where it would stand: entries of lower sites before it, and of higher ones behind
abbrev Parts : ℕ → ℕ → Entries → Type 0
Parts site i es =
    IsPartitionPoint (λ e. nat_cmp e.0 site ≡ Less) (λ e. nat_cmp e.0 site ≡ Greater) es i

-- where it finds none, the site bears no name
pub found_none : (es slice : Entries) (site i : ℕ) → slice ≡ es → Rising es →
    (ComparisonsRise site slice → Parts site i slice) → name_of (map entry_of es) site ≡ None
found_none es slice site i is s parted =
    let parts : Parts site i es =
    subst (λ l. ComparisonsRise site l → Parts site i l) is parted (comparisons_rise es site s) in
    none_at es site (λ k d l same. ⊎_elim
    (λ low.
    let lower : (get_or es k d).0 < site =
    ranked _ site _ (sym (parts.0 k d (omega arith) low)) in
    absurd (omega (arith, lower, same)))
    (λ high.
    let higher : site < (get_or es k d).0 = ranked _ site _ (sym (parts.1 k d high l)) in
    absurd (omega (arith, higher, same)))
    (cases_lt k i))

-- whether a byte can be printed
abbrev pub visible : ℕ → Bool
visible b = leb 32 b && leb b 126

-- a name can be printed if all its bytes can
pub printable_all : (bs : List ℕ) → list_all visible bs ≡ printable bs
printable_all bs =
    same_from_clauses (list_all visible) printable (λ b rest. visible b && rest) refl
    (λ b bs. refl) (λ b bs. refl) bs
