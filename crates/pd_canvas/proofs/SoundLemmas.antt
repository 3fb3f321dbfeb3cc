-- An edit keeps each canvas of a document well formed.
use Rattle.std.proofs.Common.{◌≡◌, ℕ, zero, suc, ◌≤◌, ℤ, ◌-◌, Bool, true, false, cond, List, [], ◌∷◌, ◌++◌, remove, IsTrue, refl, arith}
use Rattle.std.specs.Prelude.{nat_lt, slice_get, option_and_then, IsSomeAnd, if◌then◌else◌}
use Rattle.std.specs.List.{AllByRecursion}
use Rattle.pd_num.specs.Scale.{millionths, IsInRange}
use Rattle.pd_atom.specs.Names.{Names}
use Rattle.pd_atom.specs.declared.Atom.{Atom}
use Rattle.pd_atom.specs.declared.Atom.TheVariants.{Symbol}
use Rattle.pd_canvas.specs.declared.edits.Edit.{Edit}
use Rattle.pd_canvas.specs.declared.edits.Edit.TheVariants as edit
use Rattle.pd_canvas.specs.declared.wires.Wire.{Wire}
use Rattle.pd_canvas.specs.Pages.{Shape, Obj, Msg, Comment, FloatBox, SymbolBox, Sub, Array, Other, Boxes, End, Box, Page, Entry, frame_of, listed, boxed, elements_of, with_elements, page_with_header, empty_page}
use Rattle.pd_canvas.specs.Wiring.{lowered, lowered_wire, AreSorted, with_wire, without_wire, without_box}
use Rattle.pd_canvas.specs.Paths.{along, page_within, at_place, inside, change_box, edit_at}
use Rattle.pd_canvas.specs.Edits.{pd, begins_with_pd, new_header, element, object, retyped_as, retyped, moved, appended, with_wires, edited, takes_text, is_array, CanRetype, CanMove, Fits}
use Rattle.pd_canvas.specs.Proper.{IsText, FitsForm, IsHead, IsSmall, IsFrame, HoldsNone, AreBoxes, IsSound, BringsBox, Brings}
use Rattle.pd_canvas.proofs.TreeLemmas.{LeadsOn, leads}
use Rattle.pd_canvas.proofs.SortLemmas.{all_with, all_without, all_box, sorted_with, sorted_without, sorted_box}

pub record IsEntry (names : Names) (e : Entry) : Type 0 where
  pub head : IsHead names e.head
  pub none : HoldsNone e.head.form e.page
  pub frame : IsFrame names (frame_of e.page)
  pub boxes : AreBoxes names e.page.boxes

abbrev AreEntries : Names → List Entry → Type 0
AreEntries names es = AllByRecursion (IsEntry names) es

entries_of_boxes : (names : Names) (b : Boxes) → AreBoxes names b → AreEntries names (listed b)
entries_of_boxes names End h = tt
entries_of_boxes names (Box d f inner rest) h = (record { head = h.0; none = h.1; frame = h.2; boxes = h.3 }, entries_of_boxes names rest h.4)

boxes_of_entries : (names : Names) (es : List Entry) → AreEntries names es → AreBoxes names (boxed es)
boxes_of_entries names [] h = tt
boxes_of_entries names (e ∷ es) h = (h.0.head, h.0.none, h.0.frame, h.0.boxes, boxes_of_entries names es h.1)

all-append : {X : Type 0} (P : X → Type 0) (xs : List X) (y : X) → AllByRecursion P xs → P y → AllByRecursion P (xs ++ y ∷ [])
all-append P [] y h k = (k, tt)
all-append P (x ∷ xs) y h k = (h.0, all-append P xs y h.1 k)

all-remove : {X : Type 0} (P : X → Type 0) (xs : List X) (n : ℕ) → AllByRecursion P xs → AllByRecursion P (remove xs n)
all-remove P [] zero h = tt
all-remove P [] (suc n) h = tt
all-remove P (x ∷ xs) zero h = h.1
all-remove P (x ∷ xs) (suc n) h = (h.0, all-remove P xs n h.1)

all-at_place : (P Q : Entry → Type 0) (f : Entry → Entry) → ((e : Entry) → P e → Q e → P (f e)) → (es : List Entry) (n : ℕ)
    → AllByRecursion P es → IsSomeAnd (slice_get es n) Q → AllByRecursion P (at_place n f es)
all-at_place P Q f k [] n h q = tt
all-at_place P Q f k (e ∷ es) zero h q = (k e h.0 q, h.1)
all-at_place P Q f k (e ∷ es) (suc n) h q = (h.0, all-at_place P Q f k es n h.1 q)

sound_with : (names : Names) (es : List Entry) (p : Page) → IsSound names p → AreEntries names es → IsSound names (with_elements es p)
sound_with names es p h k = (h.0, boxes_of_entries names es k)

sound_append : (names : Names) (e : Entry) (p : Page) → IsSound names p → IsEntry names e → IsSound names (appended e p)
sound_append names e p h k =
    sound_with names (elements_of p ++ e ∷ []) p h (all-append (IsEntry names) (elements_of p) e (entries_of_boxes names p.boxes h.1) k)

sound_wires : (names : Names) (ws : List Wire) (p : Page) → IsSound names p → AllByRecursion IsSmall ws → AreSorted ws → IsSound names (with_wires ws p)
sound_wires names ws p h small sorted =
    (record { header = h.0.header; kept = h.0.kept; small = small; sorted = sorted; coords = h.0.coords }, h.1)

sound_change : (names : Names) (Q : Entry → Type 0) (f : Entry → Entry) → ((e : Entry) → IsEntry names e → Q e → IsEntry names (f e))
    → (n : ℕ) (p : Page) → IsSound names p → IsSomeAnd (slice_get (elements_of p) n) Q → IsSound names (change_box n f p)
sound_change names Q f k n p h q =
    sound_with names (at_place n f (elements_of p)) p h
    (all-at_place (IsEntry names) Q f k (elements_of p) n (entries_of_boxes names p.boxes h.1) q)

-- new elements
header_frame : (names : Names) (header : List Atom) → IsText names header → IsFrame names (frame_of (page_with_header header))
header_frame names header h = record { header = h; kept = tt; small = tt; sorted = tt; coords = tt }

empty_frame : (names : Names) → IsFrame names (frame_of empty_page)
empty_frame names = header_frame names [] (tt, omega arith)

plain_entry : (names : Names) (s : Shape) (x y : ℤ) (text : List Atom) → BringsBox names x y text
    → FitsForm names s (element s empty_page x y text).head → HoldsNone s empty_page → IsEntry names (element s empty_page x y text)
plain_entry names s x y text b f n = record {
  head = record { x = b.x; y = b.y; text = b.text; width = tt; tail = tt; form = f };
  none = n;
  frame = empty_frame names;
  boxes = tt;
}

sub_entry : (names : Names) (p : Page) (x y : ℤ) (text : List Atom) → BringsBox names x y text → IsFrame names (frame_of p) → AreBoxes names p.boxes
    → IsEntry names (element Sub p x y text)
sub_entry names p x y text b f k = record {
  head = record { x = b.x; y = b.y; text = b.text; width = tt; tail = tt; form = tt };
  none = tt;
  frame = f;
  boxes = k;
}

object_step : (names : Names) (x y : ℤ) (text : List Atom) (b : Bool) → begins_with_pd text ≡ b → BringsBox names x y text → IsText names (new_header text)
    → IsEntry names (if b then element Sub (page_with_header (new_header text)) x y text else element Obj empty_page x y text)
object_step names x y text true e b h = sub_entry names (page_with_header (new_header text)) x y text b (header_frame names (new_header text) h) tt
object_step names x y text false e b h = plain_entry names Obj x y text b e refl

object_entry : (names : Names) (x y : ℤ) (text : List Atom) → BringsBox names x y text → IsText names (new_header text) → IsEntry names (object x y text)
object_entry names x y text b h = object_step names x y text (begins_with_pd text) refl b h

subpatch_step : (names : Names) (text : List Atom) (e : Entry) (b : Bool) → IsEntry names e → IsText names text → IsText names (new_header text)
    → IsEntry names (if b then element Sub e.page e.head.x e.head.y text else object e.head.x e.head.y text)
subpatch_step names text e true k t h = sub_entry names e.page e.head.x e.head.y text (record { x = k.head.x; y = k.head.y; text = t }) k.frame k.boxes
subpatch_step names text e false k t h = object_entry names e.head.x e.head.y text (record { x = k.head.x; y = k.head.y; text = t }) h

-- changed elements
retyped_entry : (names : Names) (s : Shape) (text : List Atom) (e : Entry) → IsEntry names e → IsText names text → IsText names (new_header text)
    → IsTrue (takes_text s e.head.text) → IsEntry names (retyped_as s text e)
retyped_entry names Obj text e k t h q = object_entry names e.head.x e.head.y text (record { x = k.head.x; y = k.head.y; text = t }) h
retyped_entry names Msg text e k t h q = plain_entry names Msg e.head.x e.head.y text (record { x = k.head.x; y = k.head.y; text = t }) tt refl
retyped_entry names Comment text e k t h q = plain_entry names Comment e.head.x e.head.y text (record { x = k.head.x; y = k.head.y; text = t }) tt refl
retyped_entry names FloatBox text e k t h q = cc
retyped_entry names SymbolBox text e k t h q = cc
retyped_entry names Sub text e k t h q = subpatch_step names text e (begins_with_pd text) k t h
retyped_entry names (Array vs) text e k t h q = cc
retyped_entry names (Other o) text e k t h q = cc

moved_form : (names : Names) (s : Shape) (x y : ℤ) (e : Entry) → is_array s ≡ false → FitsForm names s e.head → FitsForm names s (moved x y e).head
moved_form names Obj x y e q f = f
moved_form names Msg x y e q f = tt
moved_form names Comment x y e q f = tt
moved_form names FloatBox x y e q f = tt
moved_form names SymbolBox x y e q f = tt
moved_form names Sub x y e q f = tt
moved_form names (Array vs) x y e q f = cc
moved_form names (Other o) x y e q f = f

moved_entry : (names : Names) (x y : ℤ) (e : Entry) → IsInRange millionths x → IsInRange millionths y → IsEntry names e → CanMove e → IsEntry names (moved x y e)
moved_entry names x y e h k i q = record {
  head = record { x = h; y = k; text = i.head.text; width = i.head.width; tail = i.head.tail; form = moved_form names e.head.form x y e q i.head.form };
  none = i.none;
  frame = i.frame;
  boxes = i.boxes;
}

small_lowered : (n : ℕ) (w : Wire) → IsSmall w → IsSmall (lowered_wire n w)
small_lowered n w h = record { source = lowered_small n w.source h.source; outlet = h.outlet; sink = lowered_small n w.sink h.sink; inlet = h.inlet } where
  step : (n k : ℕ) (b : Bool) → k ≤ 65535 → cond b (k - 1) k ≤ 65535
  step n k true h = omega arith
  step n k false h = h

  lowered_small : (n k : ℕ) → k ≤ 65535 → lowered n k ≤ 65535
  lowered_small n k h = step n k (nat_lt n k) h

-- each verb
pub sound_edited : (names : Names) (e : Edit) (p : Page) → IsSound names p → Fits e p → Brings names e → IsSound names (edited e p)
sound_edited names (edit.Obj x y text) p h f b = sound_append names (object x y text) p h (object_entry names x y text b.0 b.1)
sound_edited names (edit.Msg x y text) p h f b = sound_append names (element Msg empty_page x y text) p h (plain_entry names Msg x y text b tt refl)
sound_edited names (edit.Comment x y text) p h f b = sound_append names (element Comment empty_page x y text) p h (plain_entry names Comment x y text b tt refl)
sound_edited names (edit.FloatBox x y text) p h f b = sound_append names (element FloatBox empty_page x y text) p h (plain_entry names FloatBox x y text b tt refl)
sound_edited names (edit.SymbolBox x y text) p h f b = sound_append names (element SymbolBox empty_page x y text) p h (plain_entry names SymbolBox x y text b tt refl)
sound_edited names (edit.Sub x y name) p h f b = sound_append names (object x y (Symbol pd ∷ name)) p h (object_entry names x y (Symbol pd ∷ name) b.0 b.1)
sound_edited names (edit.Connect w) p h f b = sound_wires names (with_wire w p.wires) p h (all_with IsSmall w p.wires b h.0.small) (sorted_with w p.wires h.0.sorted)
sound_edited names (edit.Disconnect w) p h f b = sound_wires names (without_wire w p.wires) p h (all_without IsSmall w p.wires h.0.small) (sorted_without w p.wires h.0.sorted)
sound_edited names (edit.Delete n) p h f b =
    sound_wires names (without_box n p.wires) (with_elements (remove (elements_of p) n) p)
    (sound_with names (remove (elements_of p) n) p h (all-remove (IsEntry names) (elements_of p) n (entries_of_boxes names p.boxes h.1)))
    (all_box IsSmall IsSmall n (λ v s k. small_lowered n v k) p.wires h.0.small) (sorted_box n p.wires h.0.sorted)
sound_edited names (edit.Retype n text) p h f b =
    sound_change names CanRetype (retyped text) (λ e k q. retyped_entry names e.head.form text e k b.0 b.1 q) n p h f
sound_edited names (edit.Move n x y) p h f b =
    sound_change names CanMove (moved x y) (λ e k q. moved_entry names x y e b.0 b.1 k q) n p h f

-- along a path
leads_within : (P : Page → Type 0) (path : List ℕ) (s : Shape) (p q : Page) → IsSomeAnd (option_and_then (along path) (page_within s p)) P
    → HoldsNone s q × IsSomeAnd (along path p) P
leads_within P path Obj p q h = absurd h
leads_within P path Msg p q h = absurd h
leads_within P path Comment p q h = absurd h
leads_within P path FloatBox p q h = absurd h
leads_within P path SymbolBox p q h = absurd h
leads_within P path Sub p q h = (tt, h)
leads_within P path (Array vs) p q h = absurd h
leads_within P path (Other o) p q h = absurd h

inside_entry : (names : Names) (g : Page → Page) (e : Entry) → IsEntry names e → HoldsNone e.head.form (g e.page) → IsSound names (g e.page)
    → IsEntry names (inside g e)
inside_entry names g e k n s = record { head = k.head; none = n; frame = s.0; boxes = s.1 }

pub sound_along : (names : Names) (e : Edit) (path : List ℕ) (p : Page) → IsSound names p → IsSomeAnd (along path p) (Fits e) → Brings names e
    → IsSound names (edit_at path (edited e) p)
sound_along names e [] p h f b = sound_edited names e p h f b
sound_along names e (i ∷ path) p h f b =
    sound_change names (LeadsOn (Fits e) path) (inside (edit_at path (edited e)))
    (λ d k q.
    let r = leads_within (Fits e) path d.head.form d.page (edit_at path (edited e) d.page) q in
    inside_entry names (edit_at path (edited e)) d k r.0 (sound_along names e path d.page (k.frame, k.boxes) r.1 b))
    i p h (leads (Fits e) path _ f)
