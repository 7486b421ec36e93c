-- The new name's site is above the others, so the sites still rise.
use Rattle.std.specs.Prelude.{is_ok}
use Rattle.sheets.proofs.Finding.{sorted_pushed}
use Rattle.sheets.proofs.names.Names.add.Goals as goal

pub invariant_of-self : goal.invariant_of-self
invariant_of-self c =
    let names = c.args.self.now in
    let after = c.push.new.self.items in
    record {
      rising = sorted_pushed (is_ok c.push.result) names.by_site.items after c.args.site c.args.name
          names.rising c.requires c.push.ensures.items;
    }
