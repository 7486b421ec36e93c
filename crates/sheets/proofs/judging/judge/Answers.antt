-- The first record, the ends of the reading after it, and each record more.
use Rattle.std.proofs.Common.{◌≡◌, length, drop, Ok, Err, ◌∙◌, subst, rules}
use Rattle.std.proofs.lemmas.Result.{err_from_is_err_and}
use Rattle.sheet_format.specs.Rules.{unbegun, begun, refused}
use Rattle.sheet_records.specs.Records.{item, Found, Next}
use Rattle.sheets.specs.Judging.{Blames, Judged}
use Rattle.sheets.proofs.Going.{stops, refuses, tallies, at_start, done}
use Rattle.sheets.proofs.judging.judge.Goals as goal

pub loop-next-init : goal.loop-next-init
loop-next-init c =
    let sheet = c.args.sheet.now in
    let first = c.in_ok-first.first in
    let found : Found sheet 0 first c.next.new.self.place = search rules in
    let judged : Judged unbegun (item first.record) first.place (Ok c.in_ok-tally.tally) =
    search rules in (
      tallies sheet 0 unbegun (at_start sheet) first c.next.new.self.place found c.in_ok-tally.tally
          judged,
      search rules,
    )

pub returns-in_err-next-2 : goal.returns-in_err-next-2
returns-in_err-next-2 c =
    let loop = c.loop-next in
    let fault = c.in_err-next-2.field-0.0 in
    let after = c.next-in-loop-next.new.self.place in
    let told : Next (drop loop.reader.place loop.reader.sheet.now) loop.reader.place
    (Err fault) after = search rules in
    let p = err_from_is_err_and c.from_residual-in_err-next-2.result
    c.from_residual-in_err-next-2.ensures.1 in
    rw (p.1, p.2) (stops c.args.sheet.now loop.reader.place _ loop.invariant.0.1.0 fault after
    (subst (λ l. Next (drop loop.reader.place l) loop.reader.place (Err fault) after)
    loop.invariant.1 told))

pub returns-in_err-tally-2 : goal.returns-in_err-tally-2
returns-in_err-tally-2 c =
    let loop = c.loop-next in
    let next = c.in-Some.next in
    let before = begun loop.invariant.0.0 in
    let after = c.next-in-loop-next.new.self.place in
    let fault = c.in_err-tally-2.field-0.0 in
    let found : Found (drop loop.reader.place loop.reader.sheet.now) loop.reader.place next after =
    search rules in
    let blamed : Blames fault (refused before (item next.record)) next.place =
    search (rules, c.after.ensures loop.invariant.0.0 loop.invariant.0.1.1) in
    let p = err_from_is_err_and c.from_residual-in_err-tally-2.result
    c.from_residual-in_err-tally-2.ensures.1 in
    rw (p.1, p.2) (refuses c.args.sheet.now loop.reader.place before loop.invariant.0.1.0 next
    after (subst (λ l. Found (drop loop.reader.place l) loop.reader.place next after)
    loop.invariant.1 found) fault blamed)

pub loop-next-preserved : goal.loop-next-preserved
loop-next-preserved c =
    let loop = c.loop-next in
    let next = c.in-Some.next in
    let before = begun loop.invariant.0.0 in
    let after = c.next-in-loop-next.new.self.place in
    let found : Found (drop loop.reader.place loop.reader.sheet.now) loop.reader.place next after =
    search rules in
    let judged : Judged before (item next.record) next.place (Ok c.in_ok-tally-2.tally) =
    search (rules, c.after.ensures loop.invariant.0.0 loop.invariant.0.1.1) in (
      tallies c.args.sheet.now loop.reader.place before loop.invariant.0.1.0 next after
          (subst (λ l. Found (drop loop.reader.place l) loop.reader.place next after)
          loop.invariant.1 found) _ judged,
      c.next-in-loop-next.ensures.sheet ∙ loop.invariant.1,
    )

pub returns : goal.returns
returns c =
    let loop = c.loop-next in
    let f = loop.invariant.0.0 in
    let none : length (drop loop.reader.place loop.reader.sheet.now) ≡ 0 = search rules in
    done c.args.sheet.now loop.reader.place f loop.invariant.0.1.0
    (subst (λ l. length (drop loop.reader.place l) ≡ 0) loop.invariant.1 none) c.finish.result
    (c.finish.ensures f loop.invariant.0.1.1)
