-- The order of the checks, one case at a time, and what a passed check says.
use Rattle.std.proofs.Common.{◌≡◌, ℕ, ◌<◌, ◌≤◌, true, false, eqb, List, length, Some, None, ◌∙◌, arith}
use Rattle.std.proofs.lemmas.Bool.{cond-true, cond-false, eq-eqb, ne_eqb}
use Rattle.std.proofs.lemmas.Bool.Decides.{nat_tests}
use Rattle.networks.specs.declared.model.Link.{Link}
use Rattle.networks.specs.Meaning.{link_sound}
use Rattle.records.specs.Bytes.{cut_short, kind_of, payload_of}
use Rattle.sheet_format.specs.Items.{Item, shaped, item_of}
use Rattle.sheet_format.specs.Rules.{whole_record, right_shape, Before, header_sound, in_order, within, counted, refused, unfinished, broken}

module _ (b : Before) (rest : List ℕ) where
  pub broken_end : length rest ≡ 0 → broken b rest ≡ unfinished b
  broken_end h = cond-true _ _ _ (eq-eqb _ _ h)

  more : 0 < length rest → eqb (length rest) 0 ≡ false
  more h = ne_eqb _ _ (λ e. omega arith)

  pub broken_cut : 0 < length rest → cut_short rest ≡ true → broken b rest ≡ Some whole_record
  broken_cut h c = cond-false _ _ _ (more h) ∙ cond-true _ _ _ c

  pub broken_shape : 0 < length rest → cut_short rest ≡ false → shaped (kind_of rest) (length (payload_of rest)) ≡ false → broken b rest ≡ Some right_shape
  broken_shape h c s = cond-false _ _ _ (more h) ∙ cond-false _ _ _ c ∙ cond-false _ _ _ s

  pub broken_record : 0 < length rest → cut_short rest ≡ false → shaped (kind_of rest) (length (payload_of rest)) ≡ true → broken b rest ≡ refused b (item_of (kind_of rest) (payload_of rest))
  broken_record h c s = cond-false _ _ _ (more h) ∙ cond-false _ _ _ c ∙ cond-true _ _ _ s

module _ (b : Before) (x : Item) where
  pub refused_none : in_order b x ≡ true → within b x ≡ true → counted b x ≡ true → refused b x ≡ None
  refused_none h i j = cond-true _ _ _ h ∙ cond-true _ _ _ i ∙ cond-true _ _ _ j

-- a sound link's numbers
pub record LinkLimits (sites : ℕ) (l : Link) : Type 0 where
  pub start_in : l.start < sites
  pub end_in : l.end < sites
  pub metres_in : l.metres ≤ 1000000
  pub poles_in : l.poles ≤ l.metres
  pub channels_in : l.channels ≤ 255

pub link_limits : (sites : ℕ) (l : Link) → link_sound sites l ≡ true → LinkLimits sites l
unfolding link_sound
link_limits sites l h =
    record {
      start_in = grind (arith, nat_tests);
      end_in = grind (arith, nat_tests);
      metres_in = grind (arith, nat_tests);
      poles_in = grind (arith, nat_tests);
      channels_in = grind (arith, nat_tests);
    }

pub header_limits : (sites count : ℕ) → header_sound sites count ≡ true → (sites ≤ 256) × (count ≤ 2048)
header_limits sites count h = (grind (arith, nat_tests), grind (arith, nat_tests))
