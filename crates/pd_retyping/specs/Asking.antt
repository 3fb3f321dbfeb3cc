-- Which box an edit makes another one, and what it becomes, before that grows.
use Rattle.std.specs.Prelude.{ℕ, ℤ, nat_lt, Bool, ◌&&◌, not, cond, if◌then◌else◌, length, map, List, slice_get, Option, Some, None, Result, Ok, Err}
use Rattle.slab.specs.Slab.{get}
use Rattle.pd_atom.specs.declared.Atom.{Atom}
use Rattle.pd_atom.specs.Names.{Names}
use Rattle.pd_atom.specs.Tokens.{settled}
use Rattle.pd_canvas.specs.declared.edits.Edit.{Edit}
use Rattle.pd_canvas.specs.declared.edits.Edit.TheVariants as edit
use Rattle.pd_canvas.specs.Pages.{Shape, Msg, Comment, Entry}
use Rattle.pd_canvas.specs.Edits.{begins_with_pd, retyped, takes_text}
use Rattle.pd_canvas.specs.Views.{entry_of}
use Rattle.pd_grove.specs.declared.grove.Grove.{Grove}
use Rattle.pd_grove.specs.declared.nodes.Node.{Node}
use Rattle.pd_grove.specs.OwnPaths.{sub_reached}
use Rattle.pd_grove.specs.TextOrder.{is_sub}
use Rattle.pd_web.specs.Canvases.{keys_at}
use Rattle.pd_patch.specs.declared.patch.Patch.{Patch}
use Rattle.pd_wiring.specs.declared.refusals.EditRefusal.{EditRefusal}
use Rattle.pd_wiring.specs.declared.refusals.EditRefusal.TheVariants.{NoCanvas, NoBox, TextTooLong, TooDeep}

-- whether a box can have another text: a message, a comment, an object or a subpatch
abbrev pub takes_text_so : Entry → Bool
takes_text_so e = takes_text e.head.form e.head.text

-- a subpatch keeps what it holds where its new text begins with `pd`
abbrev pub keeps_inside : Entry → List Atom → Bool
keeps_inside e text = is_sub e.head.form && begins_with_pd text

-- a text has at most 1,024 atoms, and with the root at most 256 canvases lie in one another
abbrev pub retyping_to : ℕ → List Atom → ℕ → ℕ → Entry → Result (ℕ × (ℕ × Entry)) EditRefusal
retyping_to depth text canvas key e =
    if nat_lt 1024 (length (retyped text e).head.text) then Err TextTooLong else
    if is_sub (retyped text e).head.form && (not (keeps_inside e text) && nat_lt 254 depth) then Err TooDeep else Ok (canvas, (key, retyped text e))

abbrev pub retyping_node : ℕ → List Atom → ℕ → ℕ → ℕ → Option Node → Result (ℕ × (ℕ × Entry)) EditRefusal
retyping_node depth text canvas number key None = Err (NoBox number)
retyping_node depth text canvas number key (Some n) =
    cond (takes_text_so (entry_of n.element)) (retyping_to depth text canvas key (entry_of n.element)) (Err (NoBox number))

abbrev pub retyping_box : Grove → ℕ → List Atom → ℕ → ℕ → Option ℕ → Result (ℕ × (ℕ × Entry)) EditRefusal
retyping_box g depth text canvas number None = Err (NoBox number)
retyping_box g depth text canvas number (Some key) = retyping_node depth text canvas number key (get g.nodes key)

abbrev pub retyping_in : Grove → ℕ → List Atom → ℕ → Option ℕ → Result (ℕ × (ℕ × Entry)) EditRefusal
retyping_in g depth text number None = Err NoCanvas
retyping_in g depth text number (Some canvas) = retyping_box g depth text canvas number (slice_get (keys_at g canvas) number)

-- a text as it is written down: each atom as its spelling reads
abbrev pub settled_text : Names → List Atom → List Atom
settled_text names text = map (settled names) text

-- the keys of the canvas at a path of the patch's own document and of its box of a number, and what the document gets in its place, or the first
-- reason against it
abbrev pub retyping : Names → Patch → List ℕ → ℕ → List Atom → Result (ℕ × (ℕ × Entry)) EditRefusal
retyping names p path number text = retyping_in p.grove (length path) (settled_text names text) number (sub_reached p.grove (Some p.grove.root) path)

-- there is such a box, and nothing is against the text
abbrev pub IsRetyping : Result (ℕ × (ℕ × Entry)) EditRefusal → Type 0
IsRetyping (Ok c) = Unit {0}
IsRetyping (Err why) = ⊥

-- the edit that would put at a place what a box of such a form becomes
abbrev pub put_as : Shape → ℤ → ℤ → List Atom → Edit
put_as Msg x y text = edit.Msg x y text
put_as Comment x y text = edit.Comment x y text
put_as form x y text = edit.Obj x y text

abbrev pub put_instead : Entry → List Atom → Edit
put_instead e text = put_as e.head.form e.head.x e.head.y text
