-- The turns of one edit: they are taken back by such turns, and have room in a document that is well formed.
use Rattle.std.proofs.Common.{◌≡◌, ℕ, zero, suc, ◌≤◌, List, [], ◌∷◌, ◌++◌, length, slice_get, Some, refl, sym, ap, ◌∙◌, subst, arith}
use Rattle.std.specs.List.{AllByRecursion}
use Rattle.std.specs.Prelude.{IsSomeAnd}
use Rattle.std.proofs.lemmas.Option.{none-some, same_Some}
use Rattle.pd_atom.specs.Names.{Names}
use Rattle.pd_canvas.specs.declared.wires.Wire.{Wire}
use Rattle.pd_canvas.specs.declared.edits.Edit.{Edit}
use Rattle.pd_canvas.specs.declared.edits.Edit.TheVariants as edit
use Rattle.pd_canvas.specs.Pages.{Boxes, End, Box, Page, Entry, listed}
use Rattle.pd_canvas.specs.Paths.{along}
use Rattle.pd_canvas.specs.Turns.{LeavesRoom}
use Rattle.pd_canvas.specs.Proper.{IsSmall, IsSound, AreBoxes}
use Rattle.pd_undo.specs.Acts.{Act, Put, Take, Swap, Wires, Placed, IsThere, HasRoom, AreThere, HaveRoom}
use Rattle.pd_undo.specs.Inverses.{page_at, around, wires_around, with_around, box_back, turns_back, inverse, IsEntry}
use Rattle.pd_undo.proofs.ActLemmas.{inverse_in, given_behind}
use Rattle.pd_undo.proofs.PathLemmas.{leads, holds, held_page}
use Rattle.pd_undo.proofs.TurnLemmas.{leads_to, form_leads, inverse_form}

one_box : (e : Edit) (p : Page) → length (box_back e p) ≤ 1
one_box (edit.Obj x y text) p = omega arith
one_box (edit.Msg x y text) p = omega arith
one_box (edit.Comment x y text) p = omega arith
one_box (edit.FloatBox x y text) p = omega arith
one_box (edit.SymbolBox x y text) p = omega arith
one_box (edit.Sub x y name) p = omega arith
one_box (edit.Connect wire) p = omega arith
one_box (edit.Disconnect wire) p = omega arith
one_box (edit.Delete number) p = omega arith
one_box (edit.Retype number text) p = omega arith
one_box (edit.Move number x y) p = omega arith

pub edit_entry : (path : List ℕ) (e : Edit) (d : Page) → IsEntry (turns_back path e d)
edit_entry path e d = record {
  path = path;
  box = box_back e (page_at path d);
  inner = (page_at path d).wires;
  outer = (page_at (around path) d).wires;
  one = one_box e (page_at path d);
  form = refl;
}

-- the inverse of one box and the wires is one box and the wires
record OneBack (box : List Act) (ws : List Wire) (p : Page) : Type 0 where
  pub back : List Act
  pub one : length back ≤ 1
  pub is : inverse_in (box ++ Wires ws ∷ []) p ≡ back ++ Wires p.wires ∷ []

one_back : (box : List Act) (ws : List Wire) (p : Page) → length box ≤ 1 → OneBack box ws p
one_back [] ws p h = record { back = []; one = omega arith; is = refl }
one_back (Put n e ∷ []) ws p h = record { back = Take n ∷ []; one = omega arith; is = refl }
one_back (Take n ∷ []) ws p h = record { back = Put n _ ∷ []; one = omega arith; is = refl }
one_back (Swap n e ∷ []) ws p h = record { back = Swap n _ ∷ []; one = omega arith; is = refl }
one_back (Wires vs ∷ []) ws p h = record { back = Wires p.wires ∷ []; one = omega arith; is = refl }
one_back (a ∷ (b ∷ acts)) ws p h = absurd (omega (arith, h))

pub inverse_entry : (ts : List Placed) (d : Page) → IsEntry ts → AreThere ts d → IsEntry (inverse ts d)
inverse_entry ts d t h =
    let acts : List Act = t.box ++ Wires t.inner ∷ [] in
    let l = form_leads t.path acts t.outer d (given_behind t.box (Wires t.inner ∷ []) tt) (subst (λ us. AreThere us d) t.form h) in
    let b = one_back t.box t.inner l.page t.one in
    record {
      path = t.path;
      box = b.back;
      inner = l.page.wires;
      outer = (page_at (around t.path) d).wires;
      one = b.one;
      form = ap (λ us. inverse us d) t.form
          ∙ (inverse_form t.path acts t.outer d l.page l.there
          ∙ ap (λ acts. with_around t.path acts (page_at (around t.path) d).wires) b.is);
    }

-- a page of a document that is well formed
box_sound : (names : Names) (b : Boxes) (i : ℕ) (x : Entry) → AreBoxes names b → slice_get (listed b) i ≡ Some x → IsSound names x.page
box_sound names End i x h e = absurd (none-some x e)
box_sound names (Box head frame inner rest) zero x h e = subst (λ y. IsSound names y.page) (same_Some _ x e) (h.2, h.3)
box_sound names (Box head frame inner rest) (suc i) x h e = box_sound names rest i x h.4 e

page_sound : (names : Names) (path : List ℕ) (d p : Page) → IsSound names d → along path d ≡ Some p → IsSound names p
page_sound names [] d p s h = subst (IsSound names) (same_Some d p h) s
page_sound names (i ∷ path) d p s h =
    let l = leads i path d p h in
    let b = holds i d l.inner l.first in
    page_sound names path l.inner p (subst (IsSound names) (held_page i d l.inner b) (box_sound names d.boxes i b.box s.1 b.there)) l.on

small_room : (ws : List Wire) → AllByRecursion IsSmall ws → LeavesRoom ws
small_room [] h = tt
small_room (w ∷ ws) h = ((omega (arith, h.0.source), omega (arith, h.0.sink)), small_room ws h.1)

act_room : (names : Names) (a : Act) (p : Page) → IsSound names p → HasRoom a p
act_room names (Put n e) p s = small_room p.wires s.0.small
act_room names (Take n) p s = tt
act_room names (Swap n e) p s = tt
act_room names (Wires ws) p s = tt

first_room : (names : Names) (a : Act) (path : List ℕ) (d : Page) → IsSound names d → IsSomeAnd (along path d) (IsThere a) → IsSomeAnd (along path d) (HasRoom a)
first_room names a path d s h =
    let l = leads_to (IsThere a) path d h in
    subst (λ o. IsSomeAnd o (HasRoom a)) (sym l.there) (act_room names a l.page (page_sound names path d l.page s l.there))

wires_room : (path : List ℕ) (ws : List Wire) (d : Page) → IsSomeAnd (along path d) (IsThere (Wires ws)) → IsSomeAnd (along path d) (HasRoom (Wires ws))
wires_room path ws d h = h

around_room : (path : List ℕ) (ws : List Wire) (d : Page) → AreThere (wires_around path ws) d → HaveRoom (wires_around path ws) d
around_room [] ws d h = tt
around_room (i ∷ path) ws d h = (wires_room (around (i ∷ path)) ws d h.0, tt)

form_room : (names : Names) (path : List ℕ) (box : List Act) (inner outer : List Wire) (d : Page) → IsSound names d → length box ≤ 1
    → AreThere (with_around path (box ++ Wires inner ∷ []) outer) d → HaveRoom (with_around path (box ++ Wires inner ∷ []) outer) d
form_room names path [] inner outer d s n h = (wires_room path inner d h.0, around_room path outer _ h.1)
form_room names path (a ∷ []) inner outer d s n h =
    (first_room names a path d s h.0, (wires_room path inner _ h.1.0, around_room path outer _ h.1.1))
form_room names path (a ∷ (b ∷ acts)) inner outer d s n h = absurd (omega (arith, n))

pub entry_room : (names : Names) (ts : List Placed) (d : Page) → IsSound names d → IsEntry ts → AreThere ts d → HaveRoom ts d
entry_room names ts d s t h =
    subst (λ us. HaveRoom us d) (sym t.form) (form_room names t.path t.box t.inner t.outer d s t.one (subst (λ us. AreThere us d) t.form h))
