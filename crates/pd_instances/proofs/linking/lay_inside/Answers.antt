use Rattle.std.proofs.Common.{◌*◌, ℕ, length, sym, ◌∙◌, subst}
use Rattle.std.proofs.lemmas.Option.{none-some, same_Some}
use Rattle.slab.specs.Slab.{get}
use Rattle.pd_web.specs.Canvases.{keys_at}
use Rattle.pd_web.specs.Changes.{HasRoom}
use Rattle.pd_patch.specs.Numbers.{IsOut}
use Rattle.pd_instances.proofs.InsideLemmas.{none_inside, some_inside, wires_inside}
use Rattle.pd_instances.proofs.linking.lay_inside.Goals as goal

pub lay_canvas-requires-clause-room : goal.lay_canvas-requires-clause-room
lay_canvas-requires-clause-room c =
    subst (λ (n : ℕ). HasRoom c.args.web.now 0 (2 * n) n) (wires_inside c.args.grove.now c.args.key c.in-Some.canvas (sym c.canvas_in.ensures ∙ c.in-Some.is)) c.requires.room

pub lay_canvas-requires-clause-takes : goal.lay_canvas-requires-clause-takes
lay_canvas-requires-clause-takes c = c.requires.takes c.in-Some.canvas (sym c.canvas_in.ensures ∙ c.in-Some.is)

pub returns-in_default-clause-lays : goal.returns-in_default-clause-lays
returns-in_default-clause-lays c = none_inside c.args.grove.now c.args.web.now c.args.key (sym c.canvas_in.ensures ∙ c.in_default.is)

pub returns-in_default-clause-others : goal.returns-in_default-clause-others
returns-in_default-clause-others c = λ d k e out. absurd (none-some d (sym (sym c.canvas_in.ensures ∙ c.in_default.is) ∙ e))

pub returns-clause-lays : goal.returns-clause-lays
returns-clause-lays c = some_inside c.args.grove.now c.args.web.now c.lay_canvas.new.web c.args.key c.in-Some.canvas (sym c.canvas_in.ensures ∙ c.in-Some.is) c.lay_canvas.ensures.lays

pub returns-clause-others : goal.returns-clause-others
returns-clause-others c = λ d k e out.
    c.lay_canvas.ensures.others k
    (subst (λ x. IsOut (keys_at c.args.grove.now x) k) (same_Some d c.in-Some.canvas (sym e ∙ sym c.canvas_in.ensures ∙ c.in-Some.is)) out)

pub returns-clause-none : goal.returns-clause-none
returns-clause-none c = λ none. absurd (none-some c.in-Some.canvas (sym none ∙ sym c.canvas_in.ensures ∙ c.in-Some.is))
