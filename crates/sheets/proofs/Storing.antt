-- Bytes that are a sheet are stored record by record.
use Rattle.std.proofs.Common.{
  ◌≡◌,
  ℕ,
  List,
  [],
  ◌∷◌,
  ◌++◌,
  length,
  drop,
  Some,
  None,
  Ok,
  Err,
  Option,
  Result,
  IsOk,
  sym,
  refl,
  ap,
  ◌∙◌,
  subst,
  append_assoc,
  arith,
  length-append,
  lt-ltb,
  leb-true,
  ltb-true,
}
use Rattle.std.proofs.lemmas.Bool.{and_parts, and_from, false≢true}
use Rattle.networks.specs.Meaning.{link_sound}
use Rattle.records.specs.Bytes.{kind_of, payload_of}
use Rattle.sheet_format.specs.Items.{Item, header, name, link, bytes_of, item_of}
use Rattle.sheet_format.specs.Rules.{
  Rule,
  whole_record,
  right_shape,
  Fields,
  Before,
  unbegun,
  begun,
  refused,
  unfinished,
  broken,
  added,
}
use Rattle.sheet_format.specs.Sheets.{Beginning, LawfulBefore, sheet, fault, Means}
use Rattle.sheet_format.proofs.Checks.{
  broken_end,
  broken_cut,
  broken_shape,
  broken_record,
  header_limits,
}
use Rattle.sheet_format.proofs.Back.{reads_back}
use Rattle.sheet_format.proofs.Unique.{unique}
use Rattle.sheet_format.proofs.Steps.{passes}
use Rattle.sheet_records.specs.declared.record.Placed.{Placed}
use Rattle.sheet_records.specs.declared.faults.RecordFault.{RecordFault}
use Rattle.sheet_records.specs.declared.faults.RecordFault.TheVariants.{CutShort, WrongShape}
use Rattle.sheet_records.specs.Records.{item, Found, Next}
use Rattle.sheets.specs.declared.gathering.Sheet.{Sheet}
use Rattle.sheets.specs.Gathering.{fields_of, IsSheet, Storable, grown}
use Rattle.sheets.proofs.Going.{Sofar, failed, apart, goes_on, whole, count_right}

-- what is stored of the records so far, in a network of so many sites
abbrev pub stored : ℕ → Before → Fields
stored sites unbegun = record { sites = sites; count = 0; names = []; links = [] }
stored sites (begun f) =
    record { sites = sites; count = length f.links; names = f.names; links = f.links }

-- the header comes first
first_item : (bytes more : List ℕ) (f : Fields) → Beginning f →
    bytes ≡ bytes_of (header f.sites f.count) ++ more →
    item_of (kind_of bytes) (payload_of bytes) ≡ header f.sites f.count
first_item bytes more f law e =
    let top = header_limits f.sites f.count law.head in
    ap (λ l. item_of (kind_of l) (payload_of l)) e ∙
    (reads_back (header f.sites f.count) more (omega arith, omega arith)).item

-- so what came before has the sites of the sheet
sites_from : (s c t d : ℕ) → header s c ≡ header t d → s ≡ t
sites_from s c t d e = cc

RightSites : ℕ → Before → Type 0
RightSites sites unbegun = Unit {0}
RightSites sites (begun f) = f.sites ≡ sites

-- a record that breaks no rule can be stored
storable : (sites : ℕ) (b : Before) (x : Item) → LawfulBefore b → RightSites sites b →
    refused b x ≡ None → Storable (stored sites b) x
unfolding RightSites
storable sites b (header s c) law right none = tt
storable sites unbegun (name n) law right none =
    absurd (false≢true (passes unbegun (name n) none).0)
storable sites unbegun (link l) law right none =
    absurd (false≢true (passes unbegun (link l) none).0)
storable sites (begun f) (name n) law right none =
    leb-true _ _ (and_parts _ _ (passes (begun f) (name n) none).0).1
storable sites (begun f) (link l) law right none =
    let p = passes (begun f) (link l) none in
    let top = header_limits f.sites f.count law.head in
    let room = ltb-true _ _ p.2 in
    and_from _ _ (lt-ltb _ _ (omega arith)) (ap (λ s. link_sound s l) (sym right) ∙ p.1)

-- and stored, it is among what came before
stored_more : (sites : ℕ) (b : Before) (x : Item) → refused b x ≡ None →
    grown (stored sites b) x ≡ stored sites (added b x)
stored_more sites unbegun (header s c) none = refl
stored_more sites unbegun (name n) none = absurd (false≢true (passes unbegun (name n) none).0)
stored_more sites unbegun (link l) none = absurd (false≢true (passes unbegun (link l) none).0)
stored_more sites (begun f) (header s c) none =
    absurd (false≢true (passes (begun f) (header s c) none).0)
stored_more sites (begun f) (name n) none = refl
stored_more sites (begun f) (link l) none =
    ap (λ c. record { sites = sites; count = c; names = f.names; links = f.links ++ l ∷ [] })
    (sym (length-append f.links (l ∷ [])))

module _ (bytes : List ℕ) (sites : ℕ) (is : IsSheet bytes sites) (place : ℕ) (b : Before)
    (s : Sofar bytes place b) where
  -- after a lawful beginning of a sheet no rule is broken
  unbroken : broken b (drop place bytes) ≡ None
  unbroken =
      (elim (broken b (drop place bytes)) as
      (λ o. broken b (drop place bytes) ≡ o → broken b (drop place bytes) ≡ None) [
        | None ↦ λ h. h
        | Some r ↦ λ h. absurd
            (apart is.0 r place (unique bytes (sheet is.0) (fault r place) is.1.0
            (failed bytes place b s r place h refl)))
      ]) refl

  -- so the record reader finds no fault
  faultless : (f : RecordFault) (after : ℕ) → Next (drop place bytes) place (Err f) after → ⊥
  faultless (CutShort at) after h =
      let e : ◌≡◌ {A = Option Rule} None (Some whole_record) = sym unbroken ∙
      broken_cut b (drop place bytes) h.0.some h.0.cut in cc
  faultless (WrongShape at) after h =
      let e : ◌≡◌ {A = Option Rule} None (Some right_shape) = sym unbroken ∙
      broken_shape b (drop place bytes) h.0.some h.0.whole h.0.shape in cc

  pub finds : (r : Result (Option Placed) RecordFault) (after : ℕ) →
      Next (drop place bytes) place r after → IsOk r
  finds (Ok found) after h = refl
  finds (Err f) after h = absurd (faultless f after h)

  -- and the record that it finds breaks none
  taken : (p : Placed) (after : ℕ) → Found (drop place bytes) place p after →
      refused b (item p.record) ≡ None
  taken p after found = ap (refused b) found.says ∙
      sym (broken_record b (drop place bytes) found.some found.whole found.shape) ∙ unbroken

right_sites : (bytes : List ℕ) (sites : ℕ) → IsSheet bytes sites → (place : ℕ) (b : Before) →
    Sofar bytes place b → RightSites sites b
unfolding RightSites
right_sites bytes sites is place unbegun s = tt
right_sites bytes sites is place (begun f) s =
    let g = is.0 in
    let own = first_item bytes _ f s.lawful
    (s.split ∙ append_assoc (bytes_of (header f.sites f.count)) _ (drop place bytes)) in
    let its = first_item bytes _ g is.1.0.0.beginning is.1.0.1 in
    sites_from f.sites f.count g.sites g.count (sym own ∙ its) ∙ is.1.1

-- what was read up to a place is what is stored
pub record Storing (bytes : List ℕ) (sites place : ℕ) (so_far : Sheet) : Type 0 where
  pub before : Before
  pub sofar : Sofar bytes place before
  pub holds : fields_of so_far ≡ stored sites before

module _ (bytes : List ℕ) (sites : ℕ) (is : IsSheet bytes sites) (place : ℕ) (so_far : Sheet)
    (t : Storing bytes sites place so_far) where
  -- one record more can be stored, and is
  pub fits : (p : Placed) (after : ℕ) → Found (drop place bytes) place p after →
      Storable (fields_of so_far) (item p.record)
  fits p after found =
      subst (λ f. Storable f (item p.record)) (sym t.holds)
      (storable sites t.before (item p.record) t.sofar.lawful
      (right_sites bytes sites is place t.before t.sofar)
      (taken bytes sites is place t.before t.sofar p after found))

  pub stores : (p : Placed) (place' : ℕ) → Found (drop place bytes) place p place' →
      (after : Sheet) → fields_of after ≡ grown (fields_of so_far) (item p.record) →
      Storing bytes sites place' after
  stores p place' found after is_grown =
      let none = taken bytes sites is place t.before t.sofar p place' found in
      record {
        before = added t.before (item p.record);
        sofar = goes_on bytes place t.before t.sofar p place' found _ none refl;
        holds = is_grown ∙ ap (λ f. grown f (item p.record)) t.holds ∙
            stored_more sites t.before (item p.record) none;
      }

-- where no byte is left all of the sheet is stored
all_stored : (bytes : List ℕ) (sites : ℕ) → IsSheet bytes sites →
    (place : ℕ) (so_far : Sheet) (b : Before) → Sofar bytes place b →
    fields_of so_far ≡ stored sites b → length (drop place bytes) ≡ 0 →
    Means bytes (sheet (fields_of so_far))
unfolding RightSites
all_stored bytes sites is place so_far unbegun s holds none =
    let e : ◌≡◌ {A = Option Rule} None (Some whole_record) =
    sym (unbroken bytes sites is place unbegun s) ∙
    broken_end unbegun (drop place bytes) none in cc
all_stored bytes sites is place so_far (begun f) s holds none =
    let complete : unfinished (begun f) ≡ None = sym (broken_end (begun f) (drop place bytes) none)
    ∙ unbroken bytes sites is place (begun f) s in
    let right : f.sites ≡ sites = right_sites bytes sites is place (begun f) s in
    let same : fields_of so_far ≡ f = holds ∙
    (λ i. record {
      sites = sym right i;
      count = count_right f complete i;
      names = f.names;
      links = f.links;
    }) in
    subst (λ g. Means bytes (sheet g)) (sym same) (whole bytes place f s none complete)

pub stored_all : (bytes : List ℕ) (sites : ℕ) → IsSheet bytes sites →
    (place : ℕ) (so_far : Sheet) → Storing bytes sites place so_far →
    length (drop place bytes) ≡ 0 → Means bytes (sheet (fields_of so_far))
stored_all bytes sites is place so_far t none =
    all_stored bytes sites is place so_far t.before t.sofar t.holds none
