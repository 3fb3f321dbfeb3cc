use Rattle.std.proofs.Common.{Result, IfOk, IsErrOf, sym, subst}
use Rattle.pd_canvas.specs.Views.{entry_of}
use Rattle.pd_growth.specs.declared.growing.Stop.TheVariants as stop
use Rattle.pd_growth.specs.Growing.{stock}
use Rattle.pd_gather.specs.declared.boxes.Trial.{Trial}
use Rattle.pd_gather.specs.declared.refusal.GatherRefusal.{GatherRefusal}
use Rattle.pd_gather.specs.declared.refusal.GatherRefusal.TheVariants.{SymbolsFull}
use Rattle.pd_gather.specs.Gather.{known}
use Rattle.pd_gather.specs.Boxes.{box_growth, StopsSo, Tells}
use Rattle.pd_gather.proofs.SuitLemmas.{still_found, files_suit}
use Rattle.pd_gather.proofs.BoxLemmas.{has_grown, told_by, full_by}
use Rattle.pd_gather.proofs.boxes.try_box.Goals as goal

pub grow_box-grown-requires-clause-files : goal.grow_box-grown-requires-clause-files
grow_box-grown-requires-clause-files c = files_suit c.args.symbols.now c.args.files.now c.requires.found

pub returns-in-Ok-clause-tells : goal.returns-in-Ok-clause-tells
returns-in-Ok-clause-tells c =
    has_grown c.args.site.now (entry_of c.args.element.now) c.args.supply.now (known c.args.files.now c.args.symbols.now) c.in-Ok.rows.items
    (stock c.grow_box-grown.new.symbols c.grow_box-grown.new.supply) c.in-Ok.ensures.grows

pub returns-in-Ok-clause-found : goal.returns-in-Ok-clause-found
returns-in-Ok-clause-found c =
    still_found c.args.symbols.now c.grow_box-grown.new.symbols c.grow_box-grown.ensures.extends c.len-before.ensures.table c.len-after.ensures.table
    c.args.files.now c.requires.found

pub returns-in-Err-clause-tells : goal.returns-in-Err-clause-tells
returns-in-Err-clause-tells c =
    let e = entry_of c.args.element.now in
    let k = known c.args.files.now c.args.symbols.now in
    subst
    (λ (r : Result Trial GatherRefusal). IfOk r (λ t. Tells t c.args.files.now c.grow_box-grown.new.symbols c.args.supply.now c.args.supply.now
    (box_growth c.args.site.now e c.args.supply.now k))) (sym c.ended.ensures)
    (told_by c.args.site.now e c.args.supply.now k c.in-Err.stop c.grow_box-grown.new.symbols c.grow_box-grown.new.supply c.in-Err.ensures.grows)

pub returns-in-Err-clause-full : goal.returns-in-Err-clause-full
returns-in-Err-clause-full c =
    let e = entry_of c.args.element.now in
    let k = known c.args.files.now c.args.symbols.now in
    subst
    (λ (r : Result Trial GatherRefusal). IsErrOf r SymbolsFull → StopsSo stop.SymbolsFull c.grow_box-grown.new.symbols (box_growth c.args.site.now e c.args.supply.now k))
    (sym c.ended.ensures)
    (full_by c.args.site.now e c.args.supply.now k c.in-Err.stop c.grow_box-grown.new.symbols c.grow_box-grown.new.supply c.in-Err.ensures.grows)

pub returns-in-Err-clause-found : goal.returns-in-Err-clause-found
returns-in-Err-clause-found c =
    still_found c.args.symbols.now c.grow_box-grown.new.symbols c.grow_box-grown.ensures.extends c.len-before.ensures.table c.len-after.ensures.table
    c.args.files.now c.requires.found
