use Rattle.std.proofs.Common.{rules, subst}
use Rattle.pd_canvas.specs.Views.{entry_of}
use Rattle.pd_growth.proofs.SuitLemmas.{entry_extended}
use Rattle.pd_gather.specs.declared.boxes.Trial.{Trial}
use Rattle.pd_gather.specs.Gather.{known}
use Rattle.pd_gather.specs.Steps.{FillsTable}
use Rattle.pd_gather.specs.Boxes.{box_growth, Tells}
use Rattle.pd_gather.proofs.BoxLemmas.{first_try, tries_on, fills_learning}
use Rattle.pd_gather.proofs.boxes.gather_one.Goals as goal

pub trials-init : goal.trials-init
trials-init g c = first_try (g.H.Shelf.holds c.args.shelf.now) (g.H.Shelf.faults c.args.shelf.now) c.args.site.now (entry_of c.args.element.now)
    (known c.args.files.now c.args.symbols.now) c.args.supply.now c.requires.found

pub try_box-requires-clause-element : goal.try_box-requires-clause-element
try_box-requires-clause-element g c =
    entry_extended c.args.symbols.now c.trials.symbols c.args.site.now.left (entry_of c.args.element.now) c.trials.invariant.extends c.requires.element

pub trials-preserved : goal.trials-preserved
trials-preserved g c =
    let k = known c.trials.files c.trials.symbols in
    let told = subst
    (λ (t : Trial). Tells t c.trials.files c.try_box.new.symbols c.trials.supply c.try_box.new.supply
    (box_growth c.args.site.now (entry_of c.args.element.now) c.trials.supply k)) c.in-Lacks.is c.in_ok-rows.ensures.tells in
    tries_on (g.H.Shelf.holds c.args.shelf.now) (g.H.Shelf.holds c.trials.shelf) (g.H.Shelf.faults c.args.shelf.now) (g.H.Shelf.faults c.trials.shelf)
    c.args.site.now (entry_of c.args.element.now) (known c.args.files.now c.args.symbols.now) k c.args.supply.now c.trials.supply c.trials.invariant
    c.try_box.new.symbols c.in-Lacks.name (known c.learn.new.files c.learn.new.symbols) (g.H.Shelf.holds c.learn.new.shelf) (g.H.Shelf.faults c.learn.new.shelf)
    c.try_box.new.supply told.0 c.in_ok-rows.ensures.extends c.in_ok-learn-in-Lacks.ensures.learns c.in_ok-learn-in-Lacks.ensures.extends
    c.in_ok-learn-in-Lacks.ensures.found c.in_ok-learn-in-Lacks.ensures.behind c.in_ok-learn-in-Lacks.ensures.kept c.in_ok-learn-in-Lacks.ensures.counted told.1

pub returns-in_err-learn-in-Lacks-clause-full : goal.returns-in_err-learn-in-Lacks-clause-full
returns-in_err-learn-in-Lacks-clause-full g c = λ h.
    let k = known c.trials.files c.trials.symbols in
    let told = subst
    (λ (t : Trial). Tells t c.trials.files c.try_box.new.symbols c.trials.supply c.try_box.new.supply
    (box_growth c.args.site.now (entry_of c.args.element.now) c.trials.supply k)) c.in-Lacks.is c.in_ok-rows.ensures.tells in
    let fills : FillsTable (g.H.Shelf.holds c.trials.shelf) c.in-Lacks.name (known c.trials.files c.try_box.new.symbols) = search rules in
    fills_learning (g.H.Shelf.holds c.args.shelf.now) (g.H.Shelf.holds c.trials.shelf) (g.H.Shelf.faults c.args.shelf.now) (g.H.Shelf.faults c.trials.shelf)
    c.args.site.now (entry_of c.args.element.now) (known c.args.files.now c.args.symbols.now) k c.args.supply.now c.trials.supply c.trials.invariant
    c.try_box.new.symbols c.in-Lacks.name told.0 fills
