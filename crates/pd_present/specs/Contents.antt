-- What a box of a patch's own document has at present: the text of a message box, the values of a saved array, and both values of a toggle.
use Rattle.std.specs.Prelude.{ℕ, ℤ, Bool, true, false, List, [], ◌∷◌, ◌++◌, take, length, ◌==◌, if◌then◌else◌, Option, Some, None, option_and_then}
use Rattle.std.specs.Option.{option_or}
use Rattle.pd_atom.specs.declared.Atom.{Atom}
use Rattle.pd_atom.specs.declared.Atom.TheVariants.{Number}
use Rattle.pd_kind.specs.declared.states.State.{State}
use Rattle.pd_kind.specs.declared.states.State.TheVariants as state
use Rattle.pd_kind.specs.Tables.{table_of, saved_of}
use Rattle.pd_canvas.specs.Arrays.{is_saved}
use Rattle.pd_canvas.specs.Pages.{Shape, Obj, Msg, Comment, FloatBox, SymbolBox, Sub, Array, Other, Head}

-- the text that a message box keeps
abbrev pub text_kept : State → Option (List Atom)
text_kept (state.Message text) = Some text
text_kept _ = None

abbrev pub text_or : Option (List Atom) → List Atom → List Atom
text_or None text = text
text_or (Some kept) text = kept

-- a text of 15 atoms, of which the last two are the value and the other value of a toggle
abbrev pub toggled : Option (ℤ × ℤ) → List Atom → List Atom
toggled None text = text
toggled (Some v) text = take 13 text ++ Number v.0 ∷ Number v.1 ∷ []

abbrev pub present_text : Shape → Option State → List Atom → List Atom
present_text Msg s text = text_or (option_and_then text_kept s) text
present_text Obj s text = toggled (option_and_then saved_of s) text
present_text _ s text = text

abbrev pub values_or : Option (List ℤ) → List ℤ → List ℤ
values_or None values = values
values_or (Some kept) values = kept

-- the values of an array that are saved with it
abbrev pub present_values : Bool → Option State → List ℤ → List ℤ
present_values true s values = values_or (option_and_then table_of s) values
present_values false s values = values

abbrev pub present_form : List Atom → Option State → Shape → Shape
present_form text s (Array values) = Array (present_values (is_saved text) s values)
present_form text s f = f

-- a box with what it has at present
abbrev pub present_head : Option State → Head → Head
present_head s h = record {
  x = h.x;
  y = h.y;
  form = present_form h.text s h.form;
  text = present_text h.form s h.text;
  width = h.width;
  tail = h.tail;
}
