-- The edit that a canvas is asked for by a message.
use Rattle.std.specs.Prelude.{ℕ, ℤ, pos, negsuc, ◌/◌, ◌%◌, ◌==◌, ◌&&◌, nat_le, List, [], ◌∷◌, Option, Some, None, option_map, if◌then◌else◌, codes, bytes_eq}
use Rattle.pd_atom.specs.declared.Atom.{Atom}
use Rattle.pd_atom.specs.declared.Atom.TheVariants.{Number}
use Rattle.pd_canvas.specs.declared.wires.Wire.{Wire}
use Rattle.pd_canvas.specs.declared.edits.Edit.{Edit}
use Rattle.pd_canvas.specs.declared.edits.Edit.TheVariants as edit
use Rattle.pd_queue.specs.declared.asking.BoxVerb.{BoxVerb}
use Rattle.pd_queue.specs.declared.asking.BoxVerb.TheVariants as box
use Rattle.pd_queue.specs.declared.asking.Verb.{Verb}
use Rattle.pd_queue.specs.declared.asking.Verb.TheVariants as verb

-- the verb that a name is
unfoldable pub verb_named : List ℕ → Option Verb
verb_named w =
    if bytes_eq w (codes "obj") then Some (verb.Box box.Obj) else
    if bytes_eq w (codes "msg") then Some (verb.Box box.Msg) else
    if bytes_eq w (codes "text") then Some (verb.Box box.Text) else
    if bytes_eq w (codes "floatatom") then Some (verb.Box box.FloatAtom) else
    if bytes_eq w (codes "symbolatom") then Some (verb.Box box.SymbolAtom) else
    if bytes_eq w (codes "connect") then Some verb.Connect else
    if bytes_eq w (codes "disconnect") then Some verb.Disconnect else None

-- a whole number from 0 to 65,535; numbers are counts of millionths
abbrev pub whole_of : ℤ → Option ℕ
whole_of (pos n) = if n % 1000000 == 0 && nat_le (n / 1000000) 65535 then Some (n / 1000000) else None
whole_of (negsuc n) = None

abbrev pub whole_in : Atom → Option ℕ
whole_in (Number z) = whole_of z
whole_in _ = None

abbrev pub wire_between : Option ℕ → Option ℕ → Option ℕ → Option ℕ → Option Wire
wire_between (Some s) (Some o) (Some d) (Some i) = Some (record { source = s; outlet = o; sink = d; inlet = i })
wire_between _ _ _ _ = None

-- the wire that exactly four whole numbers give
abbrev pub wire_of : List Atom → Option Wire
wire_of (s ∷ o ∷ d ∷ i ∷ []) = wire_between (whole_in s) (whole_in o) (whole_in d) (whole_in i)
wire_of _ = None

-- a new box
abbrev pub box_edit : BoxVerb → ℤ → ℤ → List Atom → Edit
box_edit box.Obj x y text = edit.Obj x y text
box_edit box.Msg x y text = edit.Msg x y text
box_edit box.Text x y text = edit.Comment x y text
box_edit box.FloatAtom x y text = edit.FloatBox x y text
box_edit box.SymbolAtom x y text = edit.SymbolBox x y text

-- a new box at the place that the first two atoms give, with the others as its text
abbrev pub new_box : BoxVerb → List Atom → Option Edit
new_box b (Number x ∷ Number y ∷ text) = Some (box_edit b x y text)
new_box b _ = None

-- the edit that a verb and atoms ask for, none where these aren't its arguments
abbrev pub asked : Verb → List Atom → Option Edit
asked (verb.Box b) atoms = new_box b atoms
asked verb.Connect atoms = option_map (λ w. edit.Connect w) (wire_of atoms)
asked verb.Disconnect atoms = option_map (λ w. edit.Disconnect w) (wire_of atoms)
