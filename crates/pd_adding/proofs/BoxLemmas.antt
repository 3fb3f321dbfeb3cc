-- What edits put into an empty canvas.
use Rattle.std.proofs.Common.{codes, get_or, ◌≡◌, ℕ, zero, suc, ℤ, ◌-◌, ◌<◌, Bool, true, false, List, [], ◌∷◌, length, Option, Some, None, option_map, slice_get, slice_index_or, IfSome, if◌then◌else◌, refl, sym, ap, ◌∙◌, subst, arith}
use Rattle.std.specs.Option.{unwrap_or}
use Rattle.std.specs.List.{All}
use Rattle.std.proofs.lemmas.List.{get_or-take}
use Rattle.std.proofs.lemmas.List.Elements.{All-cons, All-weaker, recursion_from_All}
use Rattle.pd_num.specs.Scale.{millionths, IsInRange}
use Rattle.pd_num.specs.Reading.{number_at, numeral_at, exponent_at}
use Rattle.pd_atom.specs.declared.Atom.{Atom}
use Rattle.pd_atom.specs.declared.Atom.TheVariants.{Symbol}
use Rattle.pd_atom.specs.Names.{Names, IsTable, name_of}
use Rattle.pd_atom.specs.Atoms.{IsOf}
use Rattle.pd_atom.specs.Tokens.{nameless, named, IsSettled}
use Rattle.pd_atom.proofs.NameLemmas.{six_names}
use Rattle.pd_atom.proofs.TokenLemmas.{settled_named}
use Rattle.pd_canvas.specs.declared.edits.Edit.{Edit}
use Rattle.pd_canvas.specs.declared.edits.Edit.TheVariants as edit
use Rattle.pd_canvas.specs.declared.tree.Element.{Element}
use Rattle.pd_canvas.specs.Pages.{Obj, Sub, Page, Entry, elements_of, page_with_header, empty_page}
use Rattle.pd_canvas.specs.Edits.{pd, begins_with_pd, new_header, element, object, appended, edited}
use Rattle.pd_canvas.specs.Views.{entry_of, entries_of}
use Rattle.pd_canvas.specs.Proper.{IsReady}
use Rattle.pd_adding.specs.Boxes.{PutsBox, IsBare, CanBeWritten, box_put}

some_same : (x b : Entry) → Some x ≡ Some b → x ≡ b
some_same x b h = ap (λ (o : Option Entry). unwrap_or o x) h

-- ---- the edit of a document

none_left : (n : ℕ) → box_put (edit.Delete n) ≡ None
none_left zero = refl
none_left (suc n) = refl

delete_never : (n : ℕ) (b : Entry) → box_put (edit.Delete n) ≡ Some b → ⊥
delete_never n b h = let never : None ≡ Some b = sym (none_left n) ∙ h in (cc)

pub put_so : (e : Edit) (p : Page) (b : Entry) → box_put e ≡ Some b → edited e p ≡ appended b p
put_so (edit.Obj x y text) p b h = ap (λ n. appended n p) (some_same (object x y text) b h)
put_so (edit.Msg x y text) p b h = ap (λ n. appended n p) (some_same _ b h)
put_so (edit.Comment x y text) p b h = ap (λ n. appended n p) (some_same _ b h)
put_so (edit.FloatBox x y text) p b h = ap (λ n. appended n p) (some_same _ b h)
put_so (edit.SymbolBox x y text) p b h = ap (λ n. appended n p) (some_same _ b h)
put_so (edit.Sub x y name) p b h = ap (λ n. appended n p) (some_same (object x y (Symbol pd ∷ name)) b h)
put_so (edit.Connect wire) p b h = (cc)
put_so (edit.Disconnect wire) p b h = (cc)
put_so (edit.Delete n) p b h = absurd (delete_never n b h)
put_so (edit.Retype n text) p b h = (cc)
put_so (edit.Move n x y) p b h = (cc)

-- ---- the box

pd_name : (names : Names) → IsTable names → name_of names pd ≡ codes "pd"
pd_name names t = sym (get_or-take 6 names 4 [] (omega arith)) ∙ ap (λ l. get_or l 4 []) t.begins

pd_nameless : nameless (codes "pd") ≡ None
unfolding nameless number_at numeral_at exponent_at
pd_nameless = refl

pd_ready : (names : Names) → IsTable names → IsReady names (Symbol pd)
pd_ready names t =
    let six = six_names names t in
    let is = pd_name names t in
    let low : pd < length names = omega (arith, six) in
    (low, subst (λ x. IsSettled names (named x pd)) is (settled_named names pd t low (ap nameless is ∙ pd_nameless)))

object_by : (names : Names) (x y : ℤ) (text : List Atom) (b : Bool) → All (IsReady names) text →
    IsBare names (if b then element Sub (page_with_header (new_header text)) x y text else element Obj empty_page x y text)
object_by names x y text true k = (k, refl)
object_by names x y text false k = (k, refl)

object_bare : (names : Names) (x y : ℤ) (text : List Atom) → All (IsReady names) text → IsBare names (object x y text)
object_bare names x y text k = object_by names x y text (begins_with_pd text) k

pub put_bare : (names : Names) (e : Edit) (b : Entry) → IsTable names → PutsBox names e → box_put e ≡ Some b → IsBare names b
put_bare names (edit.Obj x y text) b t k h = subst (IsBare names) (some_same (object x y text) b h) (object_bare names x y text k)
put_bare names (edit.Msg x y text) b t k h = subst (IsBare names) (some_same _ b h) (k, refl)
put_bare names (edit.Comment x y text) b t k h = subst (IsBare names) (some_same _ b h) (k, refl)
put_bare names (edit.FloatBox x y text) b t k h = subst (IsBare names) (some_same _ b h) (k, refl)
put_bare names (edit.SymbolBox x y text) b t k h = subst (IsBare names) (some_same _ b h) (k, refl)
put_bare names (edit.Sub x y name) b t k h =
    let ready : All (IsReady names) (Symbol pd ∷ name) = All-cons (IsReady names) (Symbol pd) name (pd_ready names t) k in
    subst (IsBare names) (some_same (object x y (Symbol pd ∷ name)) b h) (object_bare names x y (Symbol pd ∷ name) ready)
put_bare names (edit.Connect wire) b t k h = absurd k
put_bare names (edit.Disconnect wire) b t k h = absurd k
put_bare names (edit.Delete n) b t k h = absurd k
put_bare names (edit.Retype n text) b t k h = absurd k
put_bare names (edit.Move n x y) b t k h = absurd k

-- an edit that puts a box makes an empty canvas one of this box
pub record IsOnly (es : List Entry) : Type 0 where
  pub entry : Entry
  pub is : es ≡ entry ∷ []

pub only_put : (names : Names) (e : Edit) → PutsBox names e → IsOnly (elements_of (edited e empty_page))
only_put names (edit.Obj x y text) k = record { entry = object x y text; is = refl }
only_put names (edit.Msg x y text) k = record { entry = _; is = refl }
only_put names (edit.Comment x y text) k = record { entry = _; is = refl }
only_put names (edit.FloatBox x y text) k = record { entry = _; is = refl }
only_put names (edit.SymbolBox x y text) k = record { entry = _; is = refl }
only_put names (edit.Sub x y name) k = record { entry = object x y (Symbol pd ∷ name); is = refl }
only_put names (edit.Connect wire) k = absurd k
only_put names (edit.Disconnect wire) k = absurd k
only_put names (edit.Delete n) k = absurd k
only_put names (edit.Retype n text) k = absurd k
only_put names (edit.Move n x y) k = absurd k

-- the last of one box
pub pop_only : (items : List Element) (x : Entry) (o : Option Element) → entries_of items ≡ x ∷ []
    → ((d : Element) → 0 < length items → o ≡ Some (slice_index_or items (length items - 1) d)) → option_map entry_of o ≡ Some x
pop_only [] x o h last = absurd (let n = ap (λ (es : List Entry). length es) h in omega (arith, n))
pop_only (a ∷ []) x o h last = ap (option_map entry_of) (last a (omega arith)) ∙ ap (λ (es : List Entry). slice_get es 0) h
pop_only (a ∷ b ∷ items) x o h last = absurd (let n = ap (λ (es : List Entry). length es) h in omega (arith, n))

-- the box of an edit is the last of a canvas that had none
pub put_last : (names : Names) (e : Edit) (items : List Element) (o : Option Element) → PutsBox names e → entries_of items ≡ elements_of (edited e empty_page)
    → ((d : Element) → 0 < length items → o ≡ Some (slice_index_or items (length items - 1) d)) → option_map entry_of o ≡ box_put e
put_last names e items o k h last =
    let only = only_put names e k in
    pop_only items only.entry o (h ∙ only.is) last ∙ sym (ap (λ (es : List Entry). slice_get es 0) only.is)

pub last_bare : (names : Names) (e : Edit) (o : Option Element) → IsTable names → PutsBox names e → option_map entry_of o ≡ box_put e → IfSome o (λ x. IsBare names (entry_of x))
last_bare names e None t k h = tt
last_bare names e (Some x) t k h = put_bare names e (entry_of x) t k (sym h)

-- ---- what can be written

pub bare_known : (names : Names) (b : Entry) → IsBare names b → All (IsOf names) b.head.text
bare_known names b bare = All-weaker (IsReady names) (IsOf names) (λ a h. h.0) b.head.text bare.0

-- the box of an edit can be written, where its place has numbers
pub put_written : (names : Names) (x : Element) (r : Option Entry) → Some (entry_of x) ≡ r → IsBare names (entry_of x) → IsInRange millionths (entry_of x).head.x
    → IsInRange millionths (entry_of x).head.y → IfSome r (CanBeWritten names)
put_written names x r h bare a b =
    let written : CanBeWritten names (entry_of x) = record { x = a; y = b; text = recursion_from_All (IsReady names) (entry_of x).head.text bare.0 } in
    subst (λ (o : Option Entry). IfSome o (CanBeWritten names)) h written
