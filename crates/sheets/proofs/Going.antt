-- Reading goes on by a record, stops at a fault, or comes to the sheet's end.
use Rattle.std.proofs.Common.{
  ◌≡◌,
  ◌≢◌,
  ℕ,
  ◌+◌,
  List,
  ◌++◌,
  length,
  drop,
  Some,
  None,
  Ok,
  Err,
  Result,
  sym,
  refl,
  ap,
  ◌∙◌,
  subst,
  append_assoc,
  append-nil,
  arith,
  length-append,
  length-drop,
  eqb-true,
}
use Rattle.std.proofs.lemmas.List.{drop-drop, nil_from_length}
use Rattle.records.specs.Bytes.{kind_of, payload_of}
use Rattle.sheet_format.specs.Items.{bytes_of}
use Rattle.sheet_format.specs.Rules.{
  Rule,
  whole_record,
  right_shape,
  right_order,
  within_limits,
  link_count,
  Fields,
  Before,
  unbegun,
  begun,
  refused,
  unfinished,
  broken,
  added,
}
use Rattle.sheet_format.specs.Sheets.{
  written,
  Lawful,
  written_before,
  LawfulBefore,
  Fails,
  sheet,
  fault,
  Means,
}
use Rattle.sheet_format.proofs.Checks.{broken_end, broken_cut, broken_shape, broken_record}
use Rattle.sheet_format.proofs.Unique.{unique}
use Rattle.sheet_format.proofs.Steps.{Proper, proper_item, grows, written_more}
use Rattle.sheet_records.specs.declared.record.Placed.{Placed}
use Rattle.sheet_records.specs.declared.faults.RecordFault.{RecordFault}
use Rattle.sheet_records.specs.declared.faults.RecordFault.TheVariants.{CutShort, WrongShape}
use Rattle.sheets.specs.declared.faults.SheetFault.{SheetFault}
use Rattle.sheets.specs.declared.faults.SheetFault.TheVariants as its
use Rattle.sheets.specs.declared.gathering.Sheet.{Sheet}
use Rattle.sheets.specs.declared.judging.Tally.{Tally}
use Rattle.sheet_records.specs.Records.{item, Found, Next}
use Rattle.sheets.specs.Gathering.{fields_of}
use Rattle.sheets.specs.Judging.{tally, Tallies, Blames, Judged, Finished, Judges}
use Rattle.sheets.specs.Reads.{Reads, Gives}

-- What was read up to a place is lawful, and its bytes are those before the place.
pub record Sofar (bytes : List ℕ) (place : ℕ) (before : Before) : Type 0 where
  pub lawful : LawfulBefore before
  pub split : bytes ≡ written_before before ++ drop place bytes
  pub at_place : place ≡ length (written_before before)

-- as many links as the header says, where none is missing
pub count_right : (f : Fields) → unfinished (begun f) ≡ None → length f.links ≡ f.count
count_right f h = grind (arith, eqb-true)

module _ (bytes : List ℕ) (place : ℕ) (b : Before) (s : Sofar bytes place b) where
  pub failed : (r : Rule) (at : ℕ) → broken b (drop place bytes) ≡ Some r → at ≡ place →
      Fails bytes r at
  failed r at e same = record {
    before = b;
    rest = drop place bytes;
    lawful = s.lawful;
    split =
        s.split;
    at_place = same ∙ s.at_place;
    breaks = e;
  }

  -- the first fault is the one that the bytes mean
  pub tells : (e : SheetFault) → Blames e (broken b (drop place bytes)) place → Reads bytes (Err e)
      × (e ≢ its.Memory)
  tells (its.Record (CutShort at)) h = (failed _ at h.0 h.1, λ q. cc)
  tells (its.Record (WrongShape at)) h = (failed _ at h.0 h.1, λ q. cc)
  tells (its.OutOfOrder at) h = (failed _ at h.0 h.1, λ q. cc)
  tells (its.OutsideLimits at) h = (failed _ at h.0 h.1, λ q. cc)
  tells (its.LinkCount at) h = (failed _ at h.0 h.1, λ q. cc)
  tells its.Memory h = elim h [ ]

  -- a fault of the record reader is the sheet's
  pub stops : (f : RecordFault) (after : ℕ) → Next (drop place bytes) place (Err f) after →
      Reads bytes (Err (its.Record f)) × (its.Record f ≢ its.Memory)
  stops (CutShort at) after h = tells (its.Record (CutShort at))
      (broken_cut b (drop place bytes) h.0.some h.0.cut, h.1)
  stops (WrongShape at) after h = tells (its.Record (WrongShape at))
      (broken_shape b (drop place bytes) h.0.some h.0.whole h.0.shape, h.1)

  -- a record that was found
  module _ (p : Placed) (place' : ℕ) (found : Found (drop place bytes) place p place') where
    -- it is refused, and breaks the rule that it is refused for
    pub refuses : (e : SheetFault) → Blames e (refused b (item p.record)) p.place →
        Reads bytes (Err e) × (e ≢ its.Memory)
    refuses e h =
        tells e (subst (λ o. Blames e o place)
        (ap (refused b) found.says ∙
        sym (broken_record b (drop place bytes) found.some found.whole found.shape))
        (subst (Blames e (refused b (item p.record))) found.begins h))

    -- it is taken, and what was read stays lawful
    pub goes_on : (after : Before) → refused b (item p.record) ≡ None →
        after ≡ added b (item p.record) → Sofar bytes place' after
    goes_on after none is =
        let left = drop place bytes in
        let own = bytes_of (item p.record) in
        let more = written_more b (item p.record) none in
        let onward : drop (length own) left ≡ drop place' bytes =
        drop-drop (length own) place bytes ∙ ap (λ n. drop n bytes) (sym found.ends) in
        subst (Sofar bytes place') (sym is) (record {
          lawful = grows b (item p.record) s.lawful
              (subst Proper (sym found.says)
              (proper_item (kind_of left) (payload_of left) found.shape)) none;
          split = s.split ∙ ap (λ l. written_before b ++ l) found.split ∙
              sym (append_assoc (written_before b) own (drop (length own) left)) ∙
              (λ i. sym more i ++ onward i);
          at_place = found.ends ∙ ap (λ n. n + length own) s.at_place ∙
              sym (ap length more ∙ length-append (written_before b) own);
        })

-- at the start nothing was read
pub at_start : (bytes : List ℕ) → Sofar bytes 0 unbegun
at_start bytes = record { lawful = tt; split = refl; at_place = refl }

-- what came before a tally has begun
tallied : (t : Tally) (b : Before) → Tallies t b → (f : Fields) × ((b ≡ begun f) × (t ≡ tally f))
tallied t unbegun h = elim h [ ]
tallied t (begun f) h = (f, (refl, h))

-- a record that was judged is tallied with those before it
pub tallies : (bytes : List ℕ) (place : ℕ) (b : Before) (s : Sofar bytes place b) (p : Placed)
    (place' : ℕ) → Found (drop place bytes) place p place' → (t : Tally) →
    Judged b (item p.record) p.place (Ok t) → (f : Fields) ×
    (Sofar bytes place' (begun f) × (t ≡ tally f))
tallies bytes place b s p place' found t judged =
    let next = tallied t (added b (item p.record)) judged.1 in (
      next.0,
      (
        goes_on bytes place b s p place' found (begun next.0) judged.0 (sym next.1.0),
        next.1.1,
      ),
    )

-- no byte is left
module _ (bytes : List ℕ) (place : ℕ) (f : Fields) (s : Sofar bytes place (begun f))
    (none : length (drop place bytes) ≡ 0) where
  ended : length bytes ≡ place
  ended = omega (
    arith,
    length-drop place bytes,
    ap length s.split ∙
        length-append (written f) (drop place bytes),
    s.at_place,
  )

  -- the bytes are a sheet
  pub whole : unfinished (begun f) ≡ None → Means bytes (sheet f)
  whole h = (
    record { beginning = s.lawful; complete = count_right f h },
    s.split ∙
        ap (λ l. written f ++ l) (nil_from_length (drop place bytes) none) ∙ append-nil (written f),
  )

  pub done : (r : Result ℕ SheetFault) → Finished f (length bytes) r → Judges bytes r
  done (Ok sites) h = (f, (whole h.0, sym h.1))
  done (Err e) h = tells bytes place (begun f) s e
      (subst (Blames e (broken (begun f) (drop place bytes))) ended
      (subst (λ o. Blames e o (length bytes)) (sym (broken_end (begun f) (drop place bytes) none))
      h))

-- a sheet is not a fault
pub apart : (f : Fields) (r : Rule) (place : ℕ) → sheet f ≡ fault r place → ⊥
apart f r place e = let z : ◌≡◌ {A = ℕ} 0 1 = cc in omega arith

same_fields : (f g : Fields) → sheet f ≡ sheet g → f ≡ g
same_fields f g e = cc

-- the writing of lawful fields is read as those fields
pub gives : (bytes : List ℕ) (f : Fields) → Lawful f → bytes ≡ written f →
    (r : Result Sheet SheetFault) → Reads bytes r → Gives f r
gives bytes f law same (Ok s) h =
    same_fields (fields_of s) f (unique bytes (sheet (fields_of s)) (sheet f) h (law, same))
gives bytes f law same (Err (its.Record (CutShort at))) h =
    apart f _ at (unique bytes (sheet f) (fault whole_record at) (law, same) h)
gives bytes f law same (Err (its.Record (WrongShape at))) h =
    apart f _ at (unique bytes (sheet f) (fault right_shape at) (law, same) h)
gives bytes f law same (Err (its.OutOfOrder at)) h =
    apart f _ at (unique bytes (sheet f) (fault right_order at) (law, same) h)
gives bytes f law same (Err (its.OutsideLimits at)) h =
    apart f _ at (unique bytes (sheet f) (fault within_limits at) (law, same) h)
gives bytes f law same (Err (its.LinkCount at)) h =
    apart f _ at (unique bytes (sheet f) (fault link_count at) (law, same) h)
gives bytes f law same (Err its.Memory) h = tt
