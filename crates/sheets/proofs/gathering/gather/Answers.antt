-- Each record of a sheet is found and fits behind the others, and at the end all are stored.
use Rattle.std.proofs.Common.{◌≡◌, length, drop, ◌∙◌, subst, rules}
use Rattle.sheet_records.specs.Records.{item, Found, Next}
use Rattle.sheets.specs.Gathering.{fields_of, grown}
use Rattle.sheets.proofs.Storing.{finds, fits, stores, stored_all}
use Rattle.sheets.proofs.gathering.gather.Goals as goal

pub unwrap-requires-in-loop-next : goal.unwrap-requires-in-loop-next
unwrap-requires-in-loop-next c =
    let loop = c.loop-next in
    finds c.args.sheet.now c.args.sites c.requires loop.reader.place
    loop.invariant.0.before loop.invariant.0.sofar c.next.result c.next.new.self.place
    (subst (λ l. Next (drop loop.reader.place l) loop.reader.place c.next.result
    c.next.new.self.place) loop.invariant.1 c.next.ensures.next)

pub store-requires : goal.store-requires
store-requires c =
    let loop = c.loop-next in
    let next = c.in-Some.next in
    let found : Found (drop loop.reader.place loop.reader.sheet.now) loop.reader.place next
    c.next.new.self.place = search rules in
    fits c.args.sheet.now c.args.sites c.requires loop.reader.place loop.gathered loop.invariant.0
    next c.next.new.self.place
    (subst (λ l. Found (drop loop.reader.place l) loop.reader.place next c.next.new.self.place)
    loop.invariant.1 found)

pub loop-next-preserved : goal.loop-next-preserved
loop-next-preserved c =
    let loop = c.loop-next in
    let next = c.in-Some.next in
    let found : Found (drop loop.reader.place loop.reader.sheet.now) loop.reader.place next
    c.next.new.self.place = search rules in
    let is_grown : fields_of c.store.new.self ≡ grown (fields_of loop.gathered)
    (item next.record) = search rules in (
      stores c.args.sheet.now c.args.sites c.requires loop.reader.place loop.gathered
          loop.invariant.0 next c.next.new.self.place
          (subst (λ l. Found (drop loop.reader.place l) loop.reader.place next
          c.next.new.self.place) loop.invariant.1 found) c.store.new.self is_grown,
      c.next.ensures.sheet ∙ loop.invariant.1,
    )

pub returns : goal.returns
returns c =
    let loop = c.loop-next in
    let none : length (drop loop.reader.place loop.reader.sheet.now) ≡ 0 = search rules in
    stored_all c.args.sheet.now c.args.sites c.requires loop.reader.place loop.gathered
    loop.invariant.0 (subst (λ l. length (drop loop.reader.place l) ≡ 0) loop.invariant.1 none)
