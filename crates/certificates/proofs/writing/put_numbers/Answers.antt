-- Each turn puts one number more.
use Rattle.std.proofs.Common.{◌++◌, take, get_or, sym, ap, ◌∙◌, arith}
use Rattle.std.specs.List.{flat_map}
use Rattle.std.proofs.lemmas.List.{flat_map_more, take_more}
use Rattle.records.specs.Bytes.{le16}
use Rattle.certificates.proofs.Buffers.{still}
use Rattle.certificates.proofs.writing.put_numbers.Goals as goal

pub loop-number-preserved : goal.loop-number-preserved
loop-number-preserved c =
    let numbers = c.args.numbers.now in
    let index = c.loop-number.number-index in
    let front = take c.args.place c.args.buffer.now in
    record {
      behind = omega arith;
      written =
          c.put-behind.ensures.written ∙ (λ i. c.loop-number.invariant.written i ++ c.to_le_bytes.ensures i)
          ∙ flat_map_more le16 front (take index numbers) (get_or numbers index 0)
          ∙ ap (λ l. front ++ flat_map le16 l) (sym (take_more numbers index 0 (omega arith)));
      left = c.put-behind.ensures.left ∙ still {m = c.loop-number.behind} {n = c.put-behind.result} _ _ c.loop-number.invariant.left (omega arith);
    }
