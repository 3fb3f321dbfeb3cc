-- That files are proper is known as soon as some proof of it is.
use Rattle.std.proofs.Common.{◌≡◌, ◌⊎◌, ◌≤◌, ◌<◌, ℕ, ℤ, Bool, true, false, List, [], ◌∷◌, length, refl, ap, ◌∙◌, inl, inr, Option, Some, None, Result}
use Rattle.std.proofs.Props.{props}
use Rattle.std.specs.Coded.{Coded, Coded-set, code_by, coded×, coded⊎, coded_list, coded_option, coded_result, coded_ℕ, coded_ℤ, coded_bool}
use Rattle.std.specs.List.{AllByRecursion}
use mathlib.Core.Logic.{∥∥₁_elim, ∥∥₁_map}
use Rattle.pd_num.specs.Scale.{millionths, IsInRange}
use Rattle.pd_atom.specs.declared.Atom.{Atom}
use Rattle.pd_atom.specs.declared.Atom.TheVariants.{Number, Symbol, Dollar, DollarSymbol, Comma, Semi}
use Rattle.pd_atom.specs.declared.SymbolRefusal.{SymbolRefusal}
use Rattle.pd_atom.specs.declared.SymbolRefusal.TheVariants.{TooLong, Full}
use Rattle.pd_atom.specs.Names.{Names, Outcome}
use Rattle.pd_atom.specs.Atoms.{IsOf}
use Rattle.pd_canvas.specs.declared.wires.Wire.{Wire}
use Rattle.pd_canvas.specs.Arrays.{IsArray}
use Rattle.pd_canvas.specs.Pages.{Shape, Obj, Msg, Comment, FloatBox, SymbolBox, Sub, Array, Other, Head, Frame, Boxes, End, Box, Page, frame_of, page_of, empty_page}
use Rattle.pd_canvas.specs.Proper.{IsReady, AreReady, IsText, IsKept, IsWidth, IsArrayHead, FitsForm, IsHead, IsSmall, IsFrame, HoldsNone, AreBoxes, IsProper}
use Rattle.pd_canvas.specs.Wiring.{AreSorted}
use Rattle.pd_library.specs.declared.answers.Answer.{Answer}
use Rattle.pd_library.specs.declared.answers.Answer.TheVariants as answer
use Rattle.pd_gather.specs.Gather.{IsProperAnswer, AreProper}

-- a statement that is known as soon as some proof of it is
abbrev Sure : Type 0 → Type 0
Sure P = ∥ P ∥₁ → P

by_prop : {P : Type 0} → IsProp P → Sure P
by_prop p t = ∥∥₁_elim t p (λ h. h)

few_prop : (m n : ℕ) → IsProp (m ≤ n)
few_prop m n = hlevel props

less_prop : (m n : ℕ) → IsProp (m < n)
less_prop m n = hlevel props

-- atoms are told apart
abbrev told_of : Atom → ℤ ⊎ (ℕ ⊎ (ℕ ⊎ (ℕ ⊎ Bool)))
told_of (Number z) = inl z
told_of (Symbol s) = inr (inl s)
told_of (Dollar n) = inr (inr (inl n))
told_of (DollarSymbol s) = inr (inr (inr (inl s)))
told_of Comma = inr (inr (inr (inr true)))
told_of Semi = inr (inr (inr (inr false)))

abbrev atom_of : ℤ ⊎ (ℕ ⊎ (ℕ ⊎ (ℕ ⊎ Bool))) → Atom
atom_of (inl z) = Number z
atom_of (inr (inl s)) = Symbol s
atom_of (inr (inr (inl n))) = Dollar n
atom_of (inr (inr (inr (inl s)))) = DollarSymbol s
atom_of (inr (inr (inr (inr true)))) = Comma
atom_of (inr (inr (inr (inr false)))) = Semi

atom_told : (a : Atom) → atom_of (told_of a) ≡ a
atom_told (Number z) = refl
atom_told (Symbol s) = refl
atom_told (Dollar n) = refl
atom_told (DollarSymbol s) = refl
atom_told Comma = refl
atom_told Semi = refl

atom_code : Coded Atom
atom_code = code_by (ℤ ⊎ (ℕ ⊎ (ℕ ⊎ (ℕ ⊎ Bool)))) (coded⊎ coded_ℤ (coded⊎ coded_ℕ (coded⊎ coded_ℕ (coded⊎ coded_ℕ coded_bool)))) told_of atom_of atom_told

abbrev is_full : SymbolRefusal → Bool
is_full TooLong = false
is_full Full = true

abbrev refusal_of : Bool → SymbolRefusal
refusal_of false = TooLong
refusal_of true = Full

refusal_told : (r : SymbolRefusal) → refusal_of (is_full r) ≡ r
refusal_told TooLong = refl
refusal_told Full = refl

refusal_code : Coded SymbolRefusal
refusal_code = code_by Bool coded_bool is_full refusal_of refusal_told

outcome_code : Coded (Outcome Atom)
outcome_code =
    code_by (Result Atom SymbolRefusal × List (List ℕ)) (coded× (coded_result atom_code refusal_code) (coded_list (coded_list coded_ℕ))) (λ o. (o.answer, o.names))
    (λ p. record { answer = p.0; names = p.1 }) (λ _. refl)

-- ---- each part

all_sure : {X : Type 0} (P : X → Type 0) → ((x : X) → Sure (P x)) → (xs : List X) → Sure (AllByRecursion P xs)
all_sure P each [] t = tt
all_sure P each (x ∷ xs) t = (each x (∥∥₁_map t (λ h. h.0)), all_sure P each xs (∥∥₁_map t (λ h. h.1)))

of_sure : (names : Names) (a : Atom) → Sure (IsOf names a)
of_sure names (Number z) t = tt
of_sure names (Symbol s) t = by_prop (less_prop s (length names)) t
of_sure names (Dollar n) t = by_prop (few_prop n 9999) t
of_sure names (DollarSymbol s) t = by_prop (less_prop s (length names)) t
of_sure names Comma t = tt
of_sure names Semi t = tt

ready_sure : (names : Names) (a : Atom) → Sure (IsReady names a)
ready_sure names a t = (of_sure names a (∥∥₁_map t (λ h. h.0)), by_prop (Coded-set outcome_code _ _) (∥∥₁_map t (λ h. h.1)))

text_sure : (names : Names) (atoms : List Atom) → Sure (IsText names atoms)
text_sure names atoms t = (all_sure (IsReady names) (ready_sure names) atoms (∥∥₁_map t (λ h. h.0)), by_prop (few_prop (length atoms) 1024) (∥∥₁_map t (λ h. h.1)))

bool_sure : (a b : Bool) → Sure (a ≡ b)
bool_sure a b t = by_prop (Coded-set coded_bool a b) t

never : {P : Type 0} → (P → ⊥) → ∥ P ∥₁ → ⊥
never denied t = ∥∥₁_elim t (λ x y. absurd x) denied

kept_sure : (names : Names) (atoms : List Atom) → Sure (IsKept names atoms)
kept_sure names [] t = absurd (never (λ e. e) t)
kept_sure names (a ∷ atoms) t = (text_sure names (a ∷ atoms) (∥∥₁_map t (λ h. h.0)), bool_sure _ _ (∥∥₁_map t (λ h. h.1)))

range_prop : (z : ℤ) → IsProp (IsInRange millionths z)
range_prop z = hlevel props

width_sure : (o : Option ℤ) → Sure (IsWidth o)
width_sure None t = tt
width_sure (Some z) t = by_prop (range_prop z) t

array_sure : (text : List Atom) (vs : List ℤ) → Sure (IsArray text vs)
array_sure [] vs t = absurd (never (λ e. e) t)
array_sure (a ∷ []) vs t = absurd (never (λ e. e) t)
array_sure (a ∷ b ∷ text) vs t = (
  bool_sure _ _ (∥∥₁_map t (λ h. h.0)),
  bool_sure _ _ (∥∥₁_map t (λ h. h.1)),
  by_prop (few_prop _ _) (∥∥₁_map t (λ h. h.2)),
  by_prop (Coded-set coded_ℕ _ _) (∥∥₁_map t (λ h. h.3)),
  λ e. by_prop (Coded-set (coded_list coded_ℤ) _ _) (∥∥₁_map t (λ h. h.4 e)),
)

head_array_sure : (h : Head) (vs : List ℤ) → Sure (IsArrayHead h vs)
head_array_sure h vs t = record {
  text = array_sure h.text vs (∥∥₁_map t (λ k. k.text));
  numbers = all_sure (IsInRange millionths) (λ z. by_prop (range_prop z)) vs (∥∥₁_map t (λ k. k.numbers));
  x = by_prop (Coded-set coded_ℤ _ _) (∥∥₁_map t (λ k. k.x));
  y = by_prop (Coded-set coded_ℤ _ _) (∥∥₁_map t (λ k. k.y));
  width = by_prop (Coded-set (coded_option coded_ℤ) _ _) (∥∥₁_map t (λ k. k.width));
  tail = all_sure _ (λ row. bool_sure _ _) h.tail (∥∥₁_map t (λ k. k.tail));
}

form_sure : (names : Names) (f : Shape) (h : Head) → Sure (FitsForm names f h)
form_sure names Obj h t = bool_sure _ _ t
form_sure names Msg h t = tt
form_sure names Comment h t = tt
form_sure names FloatBox h t = tt
form_sure names SymbolBox h t = tt
form_sure names Sub h t = tt
form_sure names (Array vs) h t = head_array_sure h vs t
form_sure names (Other s) h t = (by_prop (less_prop s (length names)) (∥∥₁_map t (λ k. k.0)), by_prop (Coded-set (coded_list coded_ℕ) _ _) (∥∥₁_map t (λ k. k.1)))

head_sure : (names : Names) (h : Head) → Sure (IsHead names h)
head_sure names h t = record {
  x = by_prop (range_prop h.x) (∥∥₁_map t (λ k. k.x));
  y = by_prop (range_prop h.y) (∥∥₁_map t (λ k. k.y));
  text = text_sure names h.text (∥∥₁_map t (λ k. k.text));
  width = width_sure h.width (∥∥₁_map t (λ k. k.width));
  tail = all_sure (AreReady names) (λ row. all_sure (IsReady names) (ready_sure names) row) h.tail (∥∥₁_map t (λ k. k.tail));
  form = form_sure names h.form h (∥∥₁_map t (λ k. k.form));
}

small_sure : (w : Wire) → Sure (IsSmall w)
small_sure w t = record {
  source = by_prop (few_prop _ _) (∥∥₁_map t (λ k. k.source));
  outlet = by_prop (few_prop _ _) (∥∥₁_map t (λ k. k.outlet));
  sink = by_prop (few_prop _ _) (∥∥₁_map t (λ k. k.sink));
  inlet = by_prop (few_prop _ _) (∥∥₁_map t (λ k. k.inlet));
}

sorted_sure : (ws : List Wire) → Sure (AreSorted ws)
sorted_sure [] t = tt
sorted_sure (w ∷ ws) t = (all_sure _ (λ v. bool_sure _ _) ws (∥∥₁_map t (λ k. k.0)), sorted_sure ws (∥∥₁_map t (λ k. k.1)))

frame_sure : (names : Names) (f : Frame) → Sure (IsFrame names f)
frame_sure names f t = record {
  header = text_sure names f.header (∥∥₁_map t (λ k. k.header));
  kept = all_sure (IsKept names) (kept_sure names) f.kept (∥∥₁_map t (λ k. k.kept));
  small = all_sure IsSmall small_sure f.wires (∥∥₁_map t (λ k. k.small));
  sorted = sorted_sure f.wires (∥∥₁_map t (λ k. k.sorted));
  coords = all_sure (IsText names) (text_sure names) f.coords (∥∥₁_map t (λ k. k.coords));
}

-- ---- pages

no_cons : {X : Type 0} (x : X) (xs : List X) → ◌≡◌ {A = List X} (x ∷ xs) [] → ⊥
no_cons x xs e = cc

empty_sure : {X : Type 0} (xs : List X) → Sure (xs ≡ [])
empty_sure [] t = refl
empty_sure (x ∷ xs) t = absurd (never (no_cons x xs) t)

no_box : (h : Head) (f : Frame) (inner rest : Boxes) → Box h f inner rest ≡ End → ⊥
no_box h f inner rest e = cc

none_sure : (b : Boxes) → Sure (b ≡ End)
none_sure End t = refl
none_sure (Box h f inner rest) t = absurd (never (no_box h f inner rest) t)

page_with : List Atom → List (List Atom) → Boxes → List Wire → List (List Atom) → Page
page_with header kept boxes wires coords = record { header = header; kept = kept; boxes = boxes; wires = wires; coords = coords }

page_sure : (p : Page) → Sure (p ≡ empty_page)
unfolding page_with
page_sure p t =
    ap (λ (x : List Atom). page_with x p.kept p.boxes p.wires p.coords) (empty_sure p.header (∥∥₁_map t (λ e. ap (λ (q : Page). q.header) e)))
    ∙ ap (λ (x : List (List Atom)). page_with [] x p.boxes p.wires p.coords) (empty_sure p.kept (∥∥₁_map t (λ e. ap (λ (q : Page). q.kept) e)))
    ∙ ap (λ (x : Boxes). page_with [] [] x p.wires p.coords) (none_sure p.boxes (∥∥₁_map t (λ e. ap (λ (q : Page). q.boxes) e)))
    ∙ ap (λ (x : List Wire). page_with [] [] End x p.coords) (empty_sure p.wires (∥∥₁_map t (λ e. ap (λ (q : Page). q.wires) e)))
    ∙ ap (λ (x : List (List Atom)). page_with [] [] End [] x) (empty_sure p.coords (∥∥₁_map t (λ e. ap (λ (q : Page). q.coords) e)))

holds_sure : (f : Shape) (p : Page) → Sure (HoldsNone f p)
holds_sure Obj p t = page_sure p t
holds_sure Msg p t = page_sure p t
holds_sure Comment p t = page_sure p t
holds_sure FloatBox p t = page_sure p t
holds_sure SymbolBox p t = page_sure p t
holds_sure Sub p t = tt
holds_sure (Array vs) p t = page_sure p t
holds_sure (Other s) p t = page_sure p t

boxes_sure : (names : Names) (b : Boxes) → Sure (AreBoxes names b)
boxes_sure names End t = tt
boxes_sure names (Box h f inner rest) t = (
  head_sure names h (∥∥₁_map t (λ k. k.0)),
  holds_sure h.form (page_of f inner) (∥∥₁_map t (λ k. k.1)),
  frame_sure names f (∥∥₁_map t (λ k. k.2)),
  boxes_sure names inner (∥∥₁_map t (λ k. k.3)),
  boxes_sure names rest (∥∥₁_map t (λ k. k.4)),
)

proper_sure : (names : Names) (p : Page) → Sure (IsProper names p)
proper_sure names p t = record {
  sound = (frame_sure names (frame_of p) (∥∥₁_map t (λ k. k.sound.0)), boxes_sure names p.boxes (∥∥₁_map t (λ k. k.sound.1)));
  limits = record {
    boxes = by_prop (few_prop _ _) (∥∥₁_map t (λ k. k.limits.boxes));
    wires = by_prop (few_prop _ _) (∥∥₁_map t (λ k. k.limits.wires));
    levels = by_prop (few_prop _ _) (∥∥₁_map t (λ k. k.limits.levels));
  };
}

answer_sure : (names : Names) (a : Answer) → Sure (IsProperAnswer names a)
answer_sure names (answer.Found d) t = proper_sure names d.root t
answer_sure names answer.Absent t = tt
answer_sure names (answer.Bad n) t = tt

pub found_sure : (names : Names) (files : List (ℕ × Answer)) → ∥ AreProper names files ∥₁ → AreProper names files
found_sure names files t = all_sure (λ e. IsProperAnswer names e.1) (λ e. answer_sure names e.1) files t
