-- Whether the box that an edit puts may come into the canvas at a path, before it grows.
use Rattle.std.specs.Prelude.{ℕ, nat_lt, ◌&&◌, if◌then◌else◌, length, List, Option, Some, None, Result, Ok, Err}
use Rattle.slab.specs.Slab.{get}
use Rattle.pd_atom.specs.Names.{Names}
use Rattle.pd_canvas.specs.declared.edits.Edit.{Edit}
use Rattle.pd_canvas.specs.Pages.{Entry}
use Rattle.pd_grove.specs.declared.boards.Board.{Board}
use Rattle.pd_grove.specs.OwnPaths.{sub_reached}
use Rattle.pd_grove.specs.TextOrder.{is_sub}
use Rattle.pd_patch.specs.declared.patch.Patch.{Patch}
use Rattle.pd_wiring.specs.declared.refusals.EditRefusal.{EditRefusal}
use Rattle.pd_wiring.specs.declared.refusals.EditRefusal.TheVariants.{NoDocument, NoCanvas, TextTooLong, TooDeep}
use Rattle.pd_adding.specs.Boxes.{settled_edit, box_put}

-- a box in the canvas at a path of so many numbers: a text has at most 1,024 atoms, and with the root at most 256 canvases lie in one
-- another
abbrev pub coming_in : ℕ → Entry → Option ℕ → Result (ℕ × Entry) EditRefusal
coming_in depth e None = Err NoCanvas
coming_in depth e (Some canvas) =
    if nat_lt 1024 (length e.head.text) then Err TextTooLong else
    if is_sub e.head.form && nat_lt 254 depth then Err TooDeep else Ok (canvas, e)

abbrev pub coming_by : Patch → List ℕ → Option Entry → Result (ℕ × Entry) EditRefusal
coming_by p path None = Err NoDocument
coming_by p path (Some e) = coming_in (length path) e (sub_reached p.grove (Some p.grove.root) path)

-- the canvas of the patch's own document into which an edit puts a box, and that box, or the first reason against it
abbrev pub coming : Names → Patch → List ℕ → Edit → Result (ℕ × Entry) EditRefusal
coming names p path e = coming_by p path (box_put (settled_edit names e))

-- there is such a canvas, and nothing is against the box
abbrev pub IsComing : Result (ℕ × Entry) EditRefusal → Type 0
IsComing (Ok c) = Unit {0}
IsComing (Err why) = ⊥

-- the `$0` of the patch's own document
abbrev pub zero_in : Option Board → ℕ
zero_in None = 0
zero_in (Some b) = b.sheet.zero

abbrev pub own_zero : Patch → ℕ
own_zero p = zero_in (get p.grove.boards p.grove.root)
