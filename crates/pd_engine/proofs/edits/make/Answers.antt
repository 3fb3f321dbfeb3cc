use Rattle.std.proofs.Common.{◌≡◌, ap, sym, subst, ◌∙◌, Result, Err}
use Rattle.std.proofs.lemmas.Result.{err_from_is_err_and}
use Rattle.pd_canvas.specs.declared.edits.Edit.{Edit}
use Rattle.pd_wiring.specs.Plans.{IsRewired}
use Rattle.pd_wiring.specs.declared.refusals.EditRefusal.{EditRefusal}
use Rattle.pd_engine.specs.Edits.{EditsTo, Makes}
use Rattle.pd_engine.proofs.MakingLemmas.{is_wire_edit, refused_to}
use Rattle.pd_engine.proofs.edits.make.Goals as goal
use Rattle.std.specs.Prelude.{ℕ}

pub returns-in_err-made-clause-edits : goal.returns-in_err-made-clause-edits
returns-in_err-made-clause-edits g c = λ e is.
    let p = err_from_is_err_and c.from_residual.result c.from_residual.ensures.1 in
    let why : EditRefusal = c.in_err-made.field-0.0 in
    let same : c.args.edit ≡ e = is_wire_edit e c.args.edit is in
    let refused : EditsTo c.args.patch.now c.rewire.new.patch c.args.path.now c.args.edit (Err why) c.args.steps.now c.rewire.new.steps =
    refused_to c.args.patch.now c.rewire.new.patch c.args.path.now c.args.edit why c.args.steps.now c.rewire.new.steps c.in_err-made.ensures.no_looks c.in_err-made.ensures.refused
    (λ memory. c.in_err-made.ensures.short (ap (λ (x : EditRefusal). Err x) memory)) in
    subst (λ (r : Result ℕ EditRefusal). EditsTo c.args.patch.now c.rewire.new.patch c.args.path.now e r c.args.steps.now c.rewire.new.steps)
    (sym (p.1 ∙ ap (λ (x : EditRefusal). Err x) p.2))
    (subst (λ (x : Edit). EditsTo c.args.patch.now c.rewire.new.patch c.args.path.now x (Err why) c.args.steps.now c.rewire.new.steps) same refused)

pub returns-clause-edits : goal.returns-clause-edits
returns-clause-edits g c = λ e is.
    let same : c.args.edit ≡ e = is_wire_edit e c.args.edit is in
    let done : IsRewired c.args.patch.now c.rewire.new.patch c.args.path.now c.args.edit c.in_ok-made.made.canvas = c.in_ok-made.ensures.done in
    subst (λ (x : Edit). Makes c.args.patch.now c.rewire.new.patch c.args.path.now x c.in_ok-made.made.canvas c.args.steps.now c.rewire.new.steps) same
    (record { rewired = done; few_looks = c.in_ok-made.ensures.looks done.plan done.is_planned })
