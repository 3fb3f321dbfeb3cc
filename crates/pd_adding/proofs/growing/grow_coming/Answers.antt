use Rattle.std.proofs.Common.{Err, refl, ap}
use Rattle.pd_canvas.specs.Views.{entry_of}
use Rattle.pd_growth.specs.declared.supply.Supply.{Supply}
use Rattle.pd_growth.specs.Growing.{stock}
use Rattle.pd_gather.specs.declared.refusal.BoxRefusal.{BoxRefusal}
use Rattle.pd_gather.specs.Gather.{known}
use Rattle.pd_adding.specs.Growing.{growth_of}
use Rattle.pd_adding.proofs.GrowLemmas.{same_growth, grows_to, ends_for}
use Rattle.pd_adding.proofs.growing.grow_coming.Goals as goal

pub gather_box-requires-clause-scope : goal.gather_box-requires-clause-scope
gather_box-requires-clause-scope g c = c.site_of-site.ensures.suits c.args.symbols.now

pub returns-in-Ok-clause-grown : goal.returns-in-Ok-clause-grown
returns-in-Ok-clause-grown g c =
    let e = entry_of c.args.element.now in
    let supply : Supply = record { next_zero = c.args.counts.next_zero; room = c.saturating_sub.result } in
    grows_to (g.H.Shelf.holds c.args.shelf.now) c.site_of-site.result e supply (known c.args.library.now c.args.symbols.now)
    (growth_of c.args.zero c.args.counts c.args.name.now c.args.left e)
    (same_growth c.site_of-site.result supply c.args.zero c.args.counts c.args.name.now c.args.left e c.site_of-site.ensures.grows refl c.saturating_sub.ensures)
    c.gather_box.new.self c.in-Ok.rows (stock c.gather_box.new.symbols c.gather_box.new.supply) c.in-Ok.ensures.grown

pub returns-in-Err-clause-refused : goal.returns-in-Err-clause-refused
returns-in-Err-clause-refused g c =
    let e = entry_of c.args.element.now in
    let supply : Supply = record { next_zero = c.args.counts.next_zero; room = c.saturating_sub.result } in
    ends_for (g.H.Shelf.holds c.args.shelf.now) c.site_of-site.result e supply (known c.args.library.now c.args.symbols.now)
    (growth_of c.args.zero c.args.counts c.args.name.now c.args.left e)
    (same_growth c.site_of-site.result supply c.args.zero c.args.counts c.args.name.now c.args.left e c.site_of-site.ensures.grows refl c.saturating_sub.ensures)
    c.in-Err.refusal (λ h. c.in-Err.ensures.many (ap (λ (r : BoxRefusal). Err r) h)) (λ h. c.in-Err.ensures.full (ap (λ (r : BoxRefusal). Err r) h))
