-- Each turn reads one link more.
use Rattle.std.proofs.Common.{◌/◌, ◌∷◌, ◌++◌, [], length, sym, ap, ◌∙◌, append_assoc, arith}
use Rattle.std.proofs.lemmas.List.{length-append}
use Rattle.records.specs.Bytes.{u16_at}
use Rattle.certificates.specs.Format.{links_in}
use Rattle.certificates.proofs.Routes.{link_more}
use Rattle.certificates.proofs.reading.read_links.Goals as goal

pub loop-pair-preserved : goal.loop-pair-preserved
loop-pair-preserved c =
    let steps = c.in-Some.ensures.steps in
    let pair = c.in-Some.pair.now in
    let links = c.loop-pair.links.items in
    let rest = c.next.new.self.rest.now in
    record {
      room = omega (arith, c.push.ensures.len, steps.1.1, ap length steps.1.0, length-append pair rest, c.loop-pair.invariant.size, c.loop-pair.invariant.room);
      size = steps.0 ∙ c.loop-pair.invariant.size;
      links =
          ap (λ l. l ++ links_in (length rest / 2) rest) (c.push.ensures.items ∙ ap (λ n. links ++ n ∷ []) c.from_le_bytes.ensures)
          ∙ append_assoc links (u16_at pair 0 ∷ []) (links_in (length rest / 2) rest)
          ∙ ap (λ l. links ++ l) (sym (link_more pair rest _ steps.1.0 (steps.1.1 ∙ c.loop-pair.invariant.size)))
          ∙ c.loop-pair.invariant.links;
    }
