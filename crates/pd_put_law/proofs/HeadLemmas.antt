-- The elements that edits put are proper.
use Rattle.std.proofs.Common.{◌≡◌, ℕ, Bool, true, false, List, [], ◌∷◌, Some, None, refl, sym, ap, ◌∙◌, subst, arith}
use Rattle.std.specs.Prelude.{pos, ◌≤◌, codes, if◌then◌else◌}
use Rattle.std.proofs.lemmas.Int.{ints}
use Rattle.std.proofs.lemmas.List.{get_or-take}
use Rattle.std.proofs.lemmas.Option.{none-some, same_Some}
use Rattle.pd_num.specs.Reading.{number_at, numeral_at, exponent_at}
use Rattle.pd_atom.specs.declared.Atom.{Atom}
use Rattle.pd_atom.specs.declared.Atom.TheVariants.{Number, Symbol}
use Rattle.pd_atom.specs.Names.{Names, IsTable, name_of}
use Rattle.pd_atom.specs.Tokens.{IsSettled, nameless, named}
use Rattle.pd_atom.proofs.NameLemmas.{six_names}
use Rattle.pd_atom.proofs.TokenLemmas.{number_settled, settled_named}
use Rattle.pd_canvas.specs.declared.edits.Edit.{Edit}
use Rattle.pd_canvas.specs.declared.edits.Edit.TheVariants as edit
use Rattle.pd_canvas.specs.Edits.{begins_with_pd, element, new_header, new_name, pd}
use Rattle.pd_canvas.specs.Pages.{Obj, Sub, Head, Entry, frame_of, empty_page, page_with_header}
use Rattle.pd_canvas.specs.Proper.{AreReady, FitsForm, IsFrame, IsReady, IsText}
use Rattle.pd_putting_law.specs.Putting.{element_put}

-- ---- the heads that edits put

pub record IsPlainHead (h : Head) : Type 0 where
  pub width : h.width ≡ None
  pub tail : h.tail ≡ []
  pub form : (names : Names) → FitsForm names h.form h

object_plain : (b : Bool) (x y : _) (text : List Atom) → begins_with_pd text ≡ b
    → IsPlainHead (if b then element Sub (page_with_header (new_header text)) x y text else element Obj empty_page x y text).head
object_plain true x y text e = record { width = refl; tail = refl; form = λ names. tt }
object_plain false x y text e = record { width = refl; tail = refl; form = λ names. e }

pub put_plain : (x : Edit) (b : Entry) → element_put x ≡ Some b → IsPlainHead b.head
put_plain (edit.Obj x y text) b h = subst (λ (e : Entry). IsPlainHead e.head) (same_Some _ b h) (object_plain (begins_with_pd text) x y text refl)
put_plain (edit.Msg x y text) b h = subst (λ (e : Entry). IsPlainHead e.head) (same_Some _ b h) (record { width = refl; tail = refl; form = λ names. tt })
put_plain (edit.Comment x y text) b h = subst (λ (e : Entry). IsPlainHead e.head) (same_Some _ b h) (record { width = refl; tail = refl; form = λ names. tt })
put_plain (edit.FloatBox x y text) b h = subst (λ (e : Entry). IsPlainHead e.head) (same_Some _ b h) (record { width = refl; tail = refl; form = λ names. tt })
put_plain (edit.SymbolBox x y text) b h = subst (λ (e : Entry). IsPlainHead e.head) (same_Some _ b h) (record { width = refl; tail = refl; form = λ names. tt })
put_plain (edit.Sub x y name) b h = subst (λ (e : Entry). IsPlainHead e.head) (same_Some _ b h) (object_plain true x y (Symbol pd ∷ name) refl)
put_plain x b h = absurd (none-some b h)

-- ---- the headers of new subpatches

number_ready : (names : Names) (m : ℕ) → m ≤ 1000000000000000 → IsReady names (Number (pos m))
number_ready names m h = (tt, number_settled names (pos m) (omega (arith, ints), omega (arith, ints)))

subpatch_name : (names : Names) → IsTable names → name_of names 5 ≡ codes "subpatch"
subpatch_name names t = sym (get_or-take 6 names 5 [] (omega arith)) ∙ ap (λ l. name_of l 5) t.begins

subpatch_nameless : nameless (codes "subpatch") ≡ None
unfolding nameless number_at numeral_at exponent_at
subpatch_nameless = refl

subpatch_ready : (names : Names) → IsTable names → IsReady names (Symbol 5)
subpatch_ready names t =
    let e = subpatch_name names t in
    let six = six_names names t in
    (omega arith, subst (λ x. IsSettled names (named x 5)) e (settled_named names 5 t (omega arith) (ap nameless e ∙ subpatch_nameless)))

name_ready : (names : Names) (text : List Atom) → IsTable names → AreReady names text → IsReady names (new_name text)
name_ready names [] t h = subpatch_ready names t
name_ready names (a ∷ []) t h = subpatch_ready names t
name_ready names (a ∷ b ∷ text) t h = h.1.0

header_ready : (names : Names) (text : List Atom) → IsTable names → AreReady names text → IsText names (new_header text)
header_ready names text t h = (
  (
    number_ready names 0 (omega arith),
    (
      number_ready names 0 (omega arith),
      (number_ready names 450000000 (omega arith), (number_ready names 300000000 (omega arith), (name_ready names text t h, (number_ready names 0 (omega arith), tt)))),
    ),
  ),
  omega arith,
)

-- ---- the canvases that they hold

-- the page of an element is proper where its text is
abbrev HoldsProper : Names → Entry → Type 0
HoldsProper names e = AreReady names e.head.text → IsFrame names (frame_of e.page)

header_frame : (names : Names) (header : List Atom) → IsText names header → IsFrame names (frame_of (page_with_header header))
header_frame names header h = record { header = h; kept = tt; small = tt; sorted = tt; coords = tt }

empty_frame : (names : Names) → IsFrame names (frame_of empty_page)
empty_frame names = header_frame names [] (tt, omega arith)

object_frame : (names : Names) → IsTable names → (b : Bool) (x y : _) (text : List Atom)
    → HoldsProper names (if b then element Sub (page_with_header (new_header text)) x y text else element Obj empty_page x y text)
object_frame names table true x y text h = header_frame names (new_header text) (header_ready names text table h)
object_frame names table false x y text h = empty_frame names

pub put_frame : (names : Names) → IsTable names → (x : Edit) (b : Entry) → element_put x ≡ Some b → HoldsProper names b
put_frame names table (edit.Obj x y text) b h = subst (HoldsProper names) (same_Some _ b h) (object_frame names table (begins_with_pd text) x y text)
put_frame names table (edit.Msg x y text) b h = subst (HoldsProper names) (same_Some _ b h) (λ r. empty_frame names)
put_frame names table (edit.Comment x y text) b h = subst (HoldsProper names) (same_Some _ b h) (λ r. empty_frame names)
put_frame names table (edit.FloatBox x y text) b h = subst (HoldsProper names) (same_Some _ b h) (λ r. empty_frame names)
put_frame names table (edit.SymbolBox x y text) b h = subst (HoldsProper names) (same_Some _ b h) (λ r. empty_frame names)
put_frame names table (edit.Sub x y name) b h = subst (HoldsProper names) (same_Some _ b h) (object_frame names table true x y (Symbol pd ∷ name))
put_frame names table x b h = absurd (none-some b h)
