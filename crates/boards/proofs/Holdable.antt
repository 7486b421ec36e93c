-- A pair that a planning answers can be held: its links are usable and used once, and its certificate is within the limits.
use Rattle.std.proofs.Common.{rules, tests, ◌≡◌, ℕ, ◌+◌, ◌<◌, ◌≤◌, min, Bool, true, false, cond, ◌==◌, ◌&&◌, List, [], ◌∷◌, length, take, Ok, Err, Result, nat_lt, is_ok, sym, inl, inr, refl, ap, ◌∙◌, subst, arith, ◌≢◌}
use Rattle.std.proofs.lemmas.Bool.{both_ways, ltb-true, cases_eq, cases_lt, ne_eqb, cond-false}
use Rattle.std.proofs.lemmas.List.{length-take}
use Rattle.costs.specs.Costs.{Ops}
use Rattle.costs.specs.Counting.{occurs, hit}
use Rattle.networks.specs.Meaning.{Net, Sound, link_at, usable}
use Rattle.networks.proofs.Layering.{sound_changed}
use Rattle.layers.specs.Shown.{closing, charging, charged_over}
use Rattle.layers.specs.LayerLaws.{shown_sound}
use Rattle.layers.specs.SurchargeLaws.{charged_shows, charged_more, charged_most}
use Rattle.piles.specs.Piles.{piled}
use Rattle.least_pairs.specs.Views.{view}
use Rattle.least_pairs.specs.Routes.{Walk, Pair}
use Rattle.certificates.specs.Limits.{circuit_sound, within}
use Rattle.pair_certificates.specs.Pairs.{pair_fields}
use Rattle.pair_certificates.proofs.Within.{pairs_are_within}
use Rattle.planner_tables.specs.Room.{all_fit}
use Rattle.quotes.specs.Quotes.{two_sites, Quoted}
use Rattle.quotes.specs.declared.quotation.Quote.{Quote}
use Rattle.ledger.specs.Rows.{is_vacant, held_rows, hold_answer}
use Rattle.ledger.specs.declared.refusing.LedgerRefusal.{LedgerRefusal}
use Rattle.ledger.specs.declared.refusing.LedgerRefusal.TheVariants.{NotCircuit, WrongRow, EightHeld}
use Rattle.registers.specs.States.{State, shown}
use Rattle.registers.specs.Histories.{Free, Holds}
use Rattle.boards.specs.Settling.{Settleable}

-- what a pile shows of a sound network is sound
pub piled_sound : (closed : ℕ → Bool) (amounts : ℕ → ℕ) (n : Net) → Sound n → Sound (piled closed amounts n)
piled_sound closed amounts n sound =
    let below = charged_over amounts n in
    let charged : Sound below =
    sound_changed (charging amounts) n
    (λ j l. shown_sound (charging amounts) (λ _. false) (λ k m. min (m + amounts k) 1000000) (charged_shows amounts) (charged_more amounts) (λ k m h. charged_most amounts k m) n.sites j l)
    sound in
    sound_changed (closing closed) below
    (λ j l. shown_sound (closing closed) closed (λ _ m. m) (λ k l. refl) (λ k m h. omega arith) (λ k m h. h) below.sites j l)
    charged

-- a link of a walk is usable
walk_free : {C : Type 0} (k : Ops C) (n : Net) (from to : ℕ) (es : List ℕ) → Walk (view k n) from es to → (e : ℕ) → 1 ≤ occurs e es → usable (link_at n e) ≡ true
walk_free k n from to [] walk e here = let none : 1 ≤ 0 = here in absurd (omega (arith, none))
walk_free k n from to (f ∷ es) walk e here =
    elim (cases_eq e f) [
      | inl is ↦ ap (λ x. usable (link_at n x)) is ∙ walk.0
      | inr other ↦
          let not_hit : hit e f ≡ 0 = cond-false (e == f) 1 0 (ne_eqb e f other) in
          walk_free k n (link_at n f).end to es walk.2 e (omega (arith, here, not_hit))
    ]

-- a pair is over usable links, none used twice
pub pair_free : {C : Type 0} (k : Ops C) (n : Net) (root target : ℕ) (one two : List ℕ) → Pair (view k n) root target one two → Free n one two
pair_free k n root target one two pair =
    record {
      usable_each = λ e here. elim (cases_lt 0 (occurs e one)) [
        | inl first ↦ walk_free k n root target one pair.first.leads e first
        | inr none ↦ walk_free k n root target two pair.second.leads e (omega (arith, here, none))
      ];
      none_twice = pair.apart;
    }

-- what a quote that was answered gives a hold
pub record Answered (n : Net) (circuit root target count_one count_two : ℕ) (one two : List ℕ) : Type 0 where
  pub first_table : count_one ≤ length one
  pub second_table : count_two ≤ length two
  pub free : Free n (take count_one one) (take count_two two)
  pub limits : within (pair_fields n circuit root target (take count_one one) (take count_two two)) ≡ true

pub answered : {C : Type 0} (k : Ops C) (n : Net) → Sound n → (circuit root target : ℕ) → circuit_sound circuit ≡ true → (room : Bool) (q : Quote C) (one two one_after two_after : List ℕ) → (room ≡ true → (n.sites ≤ length one_after) × (n.sites ≤ length two_after)) → Quoted k n root target room (Ok q) one two one_after two_after → Answered n circuit root target q.one q.two one_after two_after
answered k n sound circuit root target circuit_is room q one two one_after two_after long quoted =
    let right = quoted.1.right in
    let pair = right.says.0.pair in
    let short = right.no_site_twice in
    let fits = long quoted.0.room_is in
    let few_one : min q.one (length one_after) < n.sites = subst (λ m. m < n.sites) (length-take q.one one_after) short.0.few in
    let few_two : min q.two (length two_after) < n.sites = subst (λ m. m < n.sites) (length-take q.two two_after) short.1.few in
    let ends = two_apart n.sites root target quoted.0.sites_stand in
    record {
      first_table = omega (arith, few_one, fits.0);
      second_table = omega (arith, few_two, fits.1);
      free = pair_free k n root target (take q.one one_after) (take q.two two_after) pair;
      limits = pairs_are_within k n sound circuit root target circuit_is ends.0 ends.1 ends.2 (take q.one one_after) (take q.two two_after) pair short.0 short.1;
    }
  where
    two_apart : (sites root target : ℕ) → two_sites sites root target ≡ true → (root < sites) × (target < sites) × (root ≢ target)
    two_apart sites root target h = (search (rules, tests), search (rules, tests), search (rules, tests))

-- the answer of a ledger by its three tests
abbrev answered_so : Bool → Bool → Bool → Result (Unit {0}) LedgerRefusal
answered_so a b c = cond a (cond b (cond c (Ok tt) (Err EightHeld)) (Err WrongRow)) (Err NotCircuit)

-- a circuit that can be held
answered_circuit : (a b c : Bool) → answered_so a b c ≡ Ok tt → (a ≡ true) × (b ≡ true) × (c ≡ true)
answered_circuit true true true h = (refl, refl, refl)
answered_circuit true true false h = absurd (both_ways false refl (ap is_ok h))
answered_circuit true false c h = absurd (both_ways false refl (ap is_ok h))
answered_circuit false b c h = absurd (both_ways false refl (ap is_ok h))

-- so an accepted hold is one that a board may accept
pub holds_so : (s : State) (circuit : ℕ) (one two : List ℕ) → hold_answer s.rows circuit ≡ Ok tt → Free (shown s) one two → Holds s circuit one two
holds_so s circuit one two answer free =
    let parts = answered_circuit (circuit_sound circuit) (is_vacant (s.rows circuit)) (nat_lt (held_rows s.rows) 8) answer in
    record { circuit_stands = parts.0; row_vacant = parts.1; row_free = ltb-true (held_rows s.rows) 8 parts.2; routes = free }

pub can_be_held : (s : State) (circuit : ℕ) → hold_answer s.rows circuit ≡ Ok tt → circuit_sound circuit ≡ true
can_be_held s circuit answer = (answered_circuit (circuit_sound circuit) (is_vacant (s.rows circuit)) (nat_lt (held_rows s.rows) 8) answer).0

-- the pair that a quote answered can be settled
pub settleable : (s : State) (circuit root target count_one count_two : ℕ) (one two first second : List ℕ) → hold_answer s.rows circuit ≡ Ok tt → Answered (shown s) circuit root target count_one count_two one two → first ≡ take count_one one → second ≡ take count_two two → Settleable s circuit root target first second
settleable s circuit root target count_one count_two one two first second row is p q =
    record {
      row = row;
      free = subst (λ x. Free (shown s) x second) (sym p) (subst (λ y. Free (shown s) (take count_one one) y) (sym q) is.free);
      limits = ap (λ x. within (pair_fields (shown s) circuit root target x second)) p ∙ ap (λ y. within (pair_fields (shown s) circuit root target (take count_one one) y)) q ∙ is.limits;
    }

-- where all tables are long enough, the route tables are, and stay so
pub long_tables : (sites : ℕ) (working : Bool) (one two one_after two_after : List ℕ) → length one_after ≡ length one → length two_after ≡ length two → (working && all_fit sites (length one ∷ length two ∷ [])) ≡ true → (sites ≤ length one_after) × (sites ≤ length two_after)
long_tables sites working one two one_after two_after same_one same_two h =
    let tables : (sites ≤ length one) × (sites ≤ length two) = (search (rules, tests), search (rules, tests)) in
    (omega (arith, tables.0, same_one), omega (arith, tables.1, same_two))

-- so it is with a quote over what a board shows, for a circuit that can be held
pub quoted_pair : {C : Type 0} (k : Ops C) (s : State) → Sound s.bottom → (circuit root target : ℕ) → hold_answer s.rows circuit ≡ Ok tt → (working : Bool) (q : Quote C) (one two one_after two_after : List ℕ) → length one_after ≡ length one → length two_after ≡ length two → Quoted k (shown s) root target (working && all_fit (shown s).sites (length one ∷ length two ∷ [])) (Ok q) one two one_after two_after → Answered (shown s) circuit root target q.one q.two one_after two_after
quoted_pair k s sound circuit root target row working q one two one_after two_after same_one same_two quoted =
    answered k (shown s) (piled_sound s.closed s.amounts s.bottom sound) circuit root target (can_be_held s circuit row)
    (working && all_fit (shown s).sites (length one ∷ length two ∷ [])) q one two one_after two_after
    (λ h. long_tables (shown s).sites working one two one_after two_after same_one same_two h)
    quoted
