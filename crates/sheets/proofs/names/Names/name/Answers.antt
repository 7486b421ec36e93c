-- What is found by halving is the name of the site.
use Rattle.std.proofs.Common.{rules}
use Rattle.std.proofs.lemmas.List.Sorted.{answers_always}
use Rattle.sheets.proofs.Finding.{found_name, found_none}
use Rattle.sheets.proofs.names.Names.name.Goals as goal

pub returns-in-Ok : goal.returns-in-Ok
returns-in-Ok c =
    let names = c.args.self.now in
    let by_site = answers_always _ _ _ (λ f a r g called. search rules) in
    found_name names.by_site.items c.deref.result.now c.args.site c.in-Ok.place c.index.result.now
    c.deref.ensures.value names.rising c.in-Ok.ensures.bound
    (c.in-Ok.ensures.position (λ e. e.0) by_site) c.index.ensures

pub returns-in-Err : goal.returns-in-Err
returns-in-Err c =
    let names = c.args.self.now in
    let by_site = answers_always _ _ _ (λ f a r g called. search rules) in
    found_none names.by_site.items c.deref.result.now c.args.site c.in-Err.field-0
    c.deref.ensures.value names.rising (c.in-Err.ensures.position (λ e. e.0) by_site)
