-- The edit that a verb and the tokens behind it give, with the table after it.
use Rattle.std.specs.Prelude.{ℕ, ℤ, List, Option, Some, None, if◌then◌else◌, codes, bytes_eq}
use Rattle.pd_atom.specs.Names.{Names}
use Rattle.pd_atom.specs.declared.Atom.{Atom}
use Rattle.pd_canvas.specs.declared.wires.Wire.{Wire}
use Rattle.pd_canvas.specs.declared.edits.Edit.{Edit}
use Rattle.pd_canvas.specs.declared.edits.Edit.TheVariants as edit
use Rattle.pd_script.specs.declared.changes.BoxVerb.{BoxVerb}
use Rattle.pd_script.specs.declared.changes.BoxVerb.TheVariants as shape
use Rattle.pd_script.specs.declared.changes.Verb.{Verb}
use Rattle.pd_script.specs.declared.changes.Verb.TheVariants as verb
use Rattle.pd_script.specs.Options.{◌>>=◌}
use Rattle.pd_script.specs.Tokens.{only}
use Rattle.pd_script.specs.Fields.{number_first, whole_first}
use Rattle.pd_script.specs.Atoms.{atoms_of}

-- the verb of a new box
unfoldable pub box_verb_of : List ℕ → Option BoxVerb
box_verb_of w =
    if bytes_eq w (codes "obj") then Some shape.Obj else
    if bytes_eq w (codes "msg") then Some shape.Msg else
    if bytes_eq w (codes "text") then Some shape.Text else
    if bytes_eq w (codes "floatatom") then Some shape.FloatAtom else
    if bytes_eq w (codes "symbolatom") then Some shape.SymbolAtom else
    if bytes_eq w (codes "sub") then Some shape.Sub else None

unfoldable pub other_verb_of : List ℕ → Option Verb
other_verb_of w =
    if bytes_eq w (codes "connect") then Some verb.Connect else
    if bytes_eq w (codes "disconnect") then Some verb.Disconnect else
    if bytes_eq w (codes "delete") then Some verb.Delete else
    if bytes_eq w (codes "move") then Some verb.Move else
    if bytes_eq w (codes "retype") then Some verb.Retype else None

abbrev pub box_or : Option BoxVerb → Option Verb → Option Verb
box_or None other = other
box_or (Some s) other = Some (verb.Box s)

abbrev pub verb_of : List ℕ → Option Verb
verb_of w = box_or (box_verb_of w) (other_verb_of w)

abbrev pub made_box : BoxVerb → ℤ → ℤ → List Atom → Edit
made_box shape.Obj x y text = edit.Obj x y text
made_box shape.Msg x y text = edit.Msg x y text
made_box shape.Text x y text = edit.Comment x y text
made_box shape.FloatAtom x y text = edit.FloatBox x y text
made_box shape.SymbolAtom x y text = edit.SymbolBox x y text
made_box shape.Sub x y text = edit.Sub x y text

-- X Y atoms
unfoldable pub new_box : BoxVerb → Names → List (List ℕ) → Option (Edit × Names)
new_box s names ts =
    number_first ts >>= (λ x. number_first x.1 >>= (λ y. atoms_of names y.1 >>= (λ a. Some (made_box s x.0 y.0 a.0, a.1))))

-- S O D I
unfoldable pub wire_of : List (List ℕ) → Option Wire
wire_of ts =
    whole_first ts >>= (λ s. whole_first s.1 >>= (λ o. whole_first o.1 >>= (λ d. whole_first d.1 >>= (λ i.
    only i.1 (record { source = s.0; outlet = o.0; sink = d.0; inlet = i.0 })))))

-- N
unfoldable pub delete_of : List (List ℕ) → Option Edit
delete_of ts = whole_first ts >>= (λ n. only n.1 (edit.Delete n.0))

-- N X Y
unfoldable pub move_of : List (List ℕ) → Option Edit
move_of ts = whole_first ts >>= (λ n. number_first n.1 >>= (λ x. number_first x.1 >>= (λ y. only y.1 (edit.Move n.0 x.0 y.0))))

-- N atoms
unfoldable pub retype_of : Names → List (List ℕ) → Option (Edit × Names)
retype_of names ts = whole_first ts >>= (λ n. atoms_of names n.1 >>= (λ a. Some (edit.Retype n.0 a.0, a.1)))

-- an edit that brings no names
abbrev pub nameless : Names → Option Edit → Option (Edit × Names)
nameless names e = e >>= (λ x. Some (x, names))

unfoldable pub change_of : Verb → Names → List (List ℕ) → Option (Edit × Names)
change_of (verb.Box s) names ts = new_box s names ts
change_of verb.Connect names ts = nameless names (wire_of ts >>= (λ w. Some (edit.Connect w)))
change_of verb.Disconnect names ts = nameless names (wire_of ts >>= (λ w. Some (edit.Disconnect w)))
change_of verb.Delete names ts = nameless names (delete_of ts)
change_of verb.Move names ts = nameless names (move_of ts)
change_of verb.Retype names ts = retype_of names ts
