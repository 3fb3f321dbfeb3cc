-- The lines of growth, and of boxes that came with all that lies in them.
use Rattle.std.specs.Prelude.{ℕ, List, [], ◌++◌, Option, Some, None, if◌then◌else◌}
use Rattle.std.specs.List.{flat_map}
use Rattle.slab.specs.Slab.{get}
use Rattle.pd_atom.specs.Names.{Names}
use Rattle.pd_canvas.specs.declared.wires.Wire.{Wire}
use Rattle.pd_tree.specs.Ports.{fits}
use Rattle.pd_grove.specs.Telling.{inner_in}
use Rattle.pd_web.specs.Canvases.{keys_at}
use Rattle.pd_web.specs.Hops.{boxes_told}
use Rattle.pd_web.specs.Lines.{wires_in}
use Rattle.pd_patch.specs.declared.patch.Patch.{Patch}
use Rattle.pd_patch.specs.declared.report.Remark.{Remark}
use Rattle.pd_patch.specs.declared.report.Remark.TheVariants.{NotMade, Unfit, Loop}
use Rattle.pd_patch.specs.Telling.{fault_in}
use Rattle.pd_stage.specs.Lines.{path_in, loop_text, unfit_text, unmade_text, unmades_text, loops_if, loops_text, canvas_of_port}

-- the line of a remark
unfoldable pub remark_text : Names → Patch → Remark → List ℕ
remark_text names p (NotMade node) = unmade_text names (fault_in (get p.grove.nodes node))
remark_text names p (Unfit canvas wire) = unfit_text (path_in p canvas) wire
remark_text names p (Loop canvas) = loop_text p canvas

-- the lines of remarks, in order
abbrev pub remarks_text : Names → Patch → List Remark → List ℕ
remarks_text names p remarks = flat_map (remark_text names p) remarks

-- the line of a wire that doesn't fit
abbrev pub unfit_if : Patch → ℕ → Wire → List ℕ
unfit_if p canvas w = if fits (boxes_told p.web (keys_at p.grove canvas)) w then [] else unfit_text (path_in p canvas) w

abbrev pub wires_text : Patch → ℕ → List Wire → List ℕ
wires_text p canvas wires = flat_map (unfit_if p canvas) wires

-- those of a canvas, if there is one
abbrev pub unfits_in : Patch → Option ℕ → List ℕ
unfits_in p None = []
unfits_in p (Some canvas) = wires_text p canvas (wires_in (get p.grove.boards canvas))

-- those of the canvases that boxes hold, and the loops of these canvases
abbrev pub unfits_held : Patch → List ℕ → List ℕ
unfits_held p boxes = flat_map (λ k. unfits_in p (inner_in (get p.grove.nodes k))) boxes

abbrev pub loops_held : Patch → List ℕ → List ℕ
loops_held p boxes = flat_map (λ k. loops_if p (inner_in (get p.grove.nodes k))) boxes

-- the lines of a box that came with these in it
abbrev pub part_text : Names → Patch → (key canvas : ℕ) → List ℕ → List ℕ
part_text names p key canvas part =
    unmades_text names p part ++ (unfits_held p part ++ (loops_if p (canvas_of_port p key canvas) ++ (loops_text p canvas ++ loops_held p part)))
