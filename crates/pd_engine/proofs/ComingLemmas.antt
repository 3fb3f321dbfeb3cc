-- What comes of an edit that puts a box, before the box grows.
use Rattle.std.proofs.Common.{◌≡◌, ◌≤◌, ◌-◌, ℕ, zero, suc, ℤ, Bool, true, false, ◌&&◌, List, ◌∷◌, length, nat_lt, if◌then◌else◌, Option, Some, None, Result, Ok, Err, refl, sym, ap, ◌∙◌, subst, arith}
use Rattle.std.proofs.lemmas.Bool.Decides.{nat_tests}
use Rattle.std.proofs.lemmas.Option.{none-some, same_Some}
use Rattle.pd_atom.specs.declared.Atom.{Atom}
use Rattle.pd_atom.specs.declared.Atom.TheVariants.{Symbol}
use Rattle.pd_atom.specs.Names.{Names}
use Rattle.pd_canvas.specs.declared.edits.Edit.{Edit}
use Rattle.pd_canvas.specs.declared.edits.Edit.TheVariants as edit
use Rattle.pd_canvas.specs.Edits.{begins_with_pd, element, new_header, object, pd}
use Rattle.pd_canvas.specs.Pages.{Shape, Obj, Msg, Comment, FloatBox, SymbolBox, Sub, Array, Other, Boxes, End, Entry, empty_page, page_with_header}
use Rattle.pd_canvas.specs.Proper.{levels, levels_of}
use Rattle.pd_grove.specs.OwnPaths.{sub_reached}
use Rattle.pd_grove.specs.TextOrder.{is_sub}
use Rattle.pd_patch.specs.declared.patch.Patch.{Patch}
use Rattle.pd_wiring.specs.declared.refusals.EditRefusal.{EditRefusal}
use Rattle.pd_wiring.specs.declared.refusals.EditRefusal.TheVariants.{NoDocument, NoCanvas, TextTooLong, TooDeep}
use Rattle.pd_adding.specs.Boxes.{settled_edit, box_put}
use Rattle.pd_adding.specs.Coming.{coming_in, coming_by, coming}

refused_never : {A : Type 0} (e : EditRefusal) (a : A) → ◌≡◌ {A = Result A EditRefusal} (Err e) (Ok a) → ⊥
refused_never e a h = cc

same_ok : {A : Type 0} (x y : A) → ◌≡◌ {A = Result A EditRefusal} (Ok x) (Ok y) → x ≡ y
same_ok x y h = cc

-- neither of two refusals came
picked : {A : Type 0} (b c : Bool) (e f : EditRefusal) (x y : A) → ◌≡◌ {A = Result A EditRefusal} (if b then Err e else if c then Err f else Ok x) (Ok y) → (c ≡ false) × (x ≡ y)
picked true c e f x y h = absurd (refused_never e y h)
picked false true e f x y h = absurd (refused_never f y h)
picked false false e f x y h = (refl, same_ok x y h)

-- an edit puts this box into that canvas, to which its path leads; a subpatch comes only where the path is short
pub record ComesFrom (names : Names) (p : Patch) (path : List ℕ) (e : Edit) (canvas : ℕ) (b : Entry) : Type 0 where
  pub put : box_put (settled_edit names e) ≡ Some b
  pub leads : sub_reached p.grove (Some p.grove.root) path ≡ Some canvas
  pub low : (is_sub b.head.form && nat_lt 254 (length path)) ≡ false

module _ (names : Names) (p : Patch) (path : List ℕ) (e : Edit) (canvas : ℕ) (b : Entry) where
  into : (x : Entry) (o : Option ℕ) → box_put (settled_edit names e) ≡ Some x → sub_reached p.grove (Some p.grove.root) path ≡ o → coming_in (length path) x o ≡ Ok (canvas, b)
      → ComesFrom names p path e canvas b
  into x None put leads h = absurd (refused_never NoCanvas (canvas, b) h)
  into x (Some c) put leads h =
      let h' = picked (nat_lt 1024 (length x.head.text)) (is_sub x.head.form && nat_lt 254 (length path)) TextTooLong TooDeep (c, x) (canvas, b) h in
      let box : x ≡ b = ap (λ (z : ℕ × Entry). z.1) h'.1 in
      record {
        put = put ∙ ap (λ (z : Entry). Some z) box;
        leads = leads ∙ ap (λ (z : ℕ × Entry). Some z.0) h'.1;
        low = subst (λ (z : Entry). (is_sub z.head.form && nat_lt 254 (length path)) ≡ false) box h'.0;
      }

  by_box : (o : Option Entry) → box_put (settled_edit names e) ≡ o → coming_by p path o ≡ Ok (canvas, b) → ComesFrom names p path e canvas b
  by_box None put h = absurd (refused_never NoDocument (canvas, b) h)
  by_box (Some x) put h = into x (sub_reached p.grove (Some p.grove.root) path) put refl h

  pub comes_from : coming names p path e ≡ Ok (canvas, b) → ComesFrom names p path e canvas b
  comes_from h = by_box (box_put (settled_edit names e)) refl h

-- ---- the element of the edit

abbrev IsEmpty : Entry → Type 0
IsEmpty b = b.page.boxes ≡ End

same_put : (x b : Entry) → Some x ≡ Some b → IsEmpty x → IsEmpty b
same_put x b h none = subst IsEmpty (same_Some x b h) none

object_empty : (b : Bool) (x y : ℤ) (text : List Atom) → IsEmpty (if b then element Sub (page_with_header (new_header text)) x y text else element Obj empty_page x y text)
object_empty true x y text = refl
object_empty false x y text = refl

no_element : (n : ℕ) → box_put (edit.Delete n) ≡ None
no_element zero = refl
no_element (suc n) = refl

-- it holds no boxes
pub put_empty : (e : Edit) (b : Entry) → box_put e ≡ Some b → b.page.boxes ≡ End
put_empty (edit.Obj x y text) b h = same_put (object x y text) b h (object_empty (begins_with_pd text) x y text)
put_empty (edit.Msg x y text) b h = same_put _ b h refl
put_empty (edit.Comment x y text) b h = same_put _ b h refl
put_empty (edit.FloatBox x y text) b h = same_put _ b h refl
put_empty (edit.SymbolBox x y text) b h = same_put _ b h refl
put_empty (edit.Sub x y name) b h = same_put (object x y (Symbol pd ∷ name)) b h (object_empty (begins_with_pd (Symbol pd ∷ name)) x y (Symbol pd ∷ name))
put_empty (edit.Connect wire) b h = absurd (none-some b h)
put_empty (edit.Disconnect wire) b h = absurd (none-some b h)
put_empty (edit.Delete n) b h = absurd (none-some b (sym (no_element n) ∙ h))
put_empty (edit.Retype n text) b h = absurd (none-some b h)
put_empty (edit.Move n x y) b h = absurd (none-some b h)

sub_low : (depth : ℕ) → nat_lt 254 depth ≡ false → depth ≤ 254
sub_low depth h = grind (arith, nat_tests)

-- and a subpatch that comes lies no deeper than it may
pub low_levels : (form : Shape) (boxes : Boxes) (depth : ℕ) → boxes ≡ End → (is_sub form && nat_lt 254 depth) ≡ false → levels_of form (levels boxes) ≤ 255 - depth
low_levels Sub boxes depth none high = let l = ap levels none in let d = sub_low depth high in omega (arith, l, d)
low_levels Obj boxes depth none high = omega arith
low_levels Msg boxes depth none high = omega arith
low_levels Comment boxes depth none high = omega arith
low_levels FloatBox boxes depth none high = omega arith
low_levels SymbolBox boxes depth none high = omega arith
low_levels (Array values) boxes depth none high = omega arith
low_levels (Other s) boxes depth none high = omega arith
