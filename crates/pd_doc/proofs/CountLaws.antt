-- How much is open, and what a record changes in it.
use Rattle.std.proofs.Common.{◌≡◌, ℕ, suc, ◌+◌, ◌<◌, ◌≤◌, max, Bool, true, false, cond, List, [], ◌∷◌, ◌++◌, length, length-append, drop, Option, Some, refl, sym, ap, ◌∙◌, subst, arith}
use Rattle.std.specs.Prelude.{ℤ}
use Rattle.std.specs.List.{AllByRecursion}
use Rattle.pd_num.specs.Scale.{millionths, IsInRange}
use Rattle.pd_atom.specs.Names.{Names, IsTable}
use Rattle.pd_atom.specs.declared.Atom.{Atom}
use Rattle.pd_canvas.specs.declared.wires.Wire.{Wire}
use Rattle.pd_canvas.specs.Pages.{Page, Entry, boxed, weight}
use Rattle.pd_canvas.specs.Wiring.{precedes, with_wire, AreSorted}
use Rattle.pd_canvas.specs.Proper.{IsText, IsWidth, IsSmall, AreBoxes, IsSound, levels, levels_of, inner_wires}
use Rattle.pd_canvas.proofs.SortLemmas.{all_with, sorted_with}
use Rattle.pd_canvas.proofs.SoundLemmas.{IsEntry}
use Rattle.pd_doc.specs.States.{Level, State, wired, sorted_wires, page_of_level, closed, changed, first_page, with_boxes, one_box_more, one_wire_more, last_of, in_last}
use Rattle.pd_doc.specs.Records.{page_entry}
use Rattle.pd_doc.proofs.GrowLaws.{Grows, IsLevel, AreLevels, levels_grow}

-- ---- lists of elements

-- how many canvases lie in one another from this element on
abbrev pub depth_of : Entry → ℕ
depth_of e = levels_of e.head.form (levels e.page.boxes)

weight_more : (es : List Entry) (e : Entry) → weight (boxed (es ++ e ∷ [])) ≡ weight (boxed es) + (weight e.page.boxes + 1)
weight_more [] e = omega arith
weight_more (x ∷ es) e = omega (arith, weight_more es e)

inner_more : (es : List Entry) (e : Entry) → inner_wires (boxed (es ++ e ∷ [])) ≡ inner_wires (boxed es) + (length e.page.wires + inner_wires e.page.boxes)
inner_more [] e = omega arith
inner_more (x ∷ es) e = omega (arith, inner_more es e)

levels_more : (es : List Entry) (e : Entry) → levels (boxed (es ++ e ∷ [])) ≡ max (levels (boxed es)) (depth_of e)
levels_more [] e = omega arith
levels_more (x ∷ es) e = omega (arith, levels_more es e)

-- an element that takes as much as another
pub record TakesAs (e f : Entry) : Type 0 where
  pub page : e.page ≡ f.page
  pub depth : depth_of e ≡ depth_of f

same_entry : (e f : Entry) → Some e ≡ Some f → e ≡ f
same_entry e f h = cc

weight_last : (es : List Entry) (e f : Entry) → last_of es ≡ Some f → TakesAs e f → weight (boxed (in_last e es)) ≡ weight (boxed es)
weight_last [] e f h t = refl
weight_last (x ∷ []) e f h t = ap (λ (p : Page). weight p.boxes + 0 + 1) (t.page ∙ ap (λ (y : Entry). y.page) (sym (same_entry x f h)))
weight_last (x ∷ y ∷ es) e f h t = omega (arith, weight_last (y ∷ es) e f h t)

inner_last : (es : List Entry) (e f : Entry) → last_of es ≡ Some f → TakesAs e f → inner_wires (boxed (in_last e es)) ≡ inner_wires (boxed es)
inner_last [] e f h t = refl
inner_last (x ∷ []) e f h t = ap (λ (p : Page). length p.wires + inner_wires p.boxes + 0) (t.page ∙ ap (λ (y : Entry). y.page) (sym (same_entry x f h)))
inner_last (x ∷ y ∷ es) e f h t = omega (arith, inner_last (y ∷ es) e f h t)

levels_last : (es : List Entry) (e f : Entry) → last_of es ≡ Some f → TakesAs e f → levels (boxed (in_last e es)) ≡ levels (boxed es)
levels_last [] e f h t = refl
levels_last (x ∷ []) e f h t = ap (λ n. max n 0) (t.depth ∙ ap depth_of (sym (same_entry x f h)))
levels_last (x ∷ y ∷ es) e f h t = omega (arith, levels_last (y ∷ es) e f h t)

entries_more : (P : Entry → Type 0) (es : List Entry) (e : Entry) → AllByRecursion P es → P e → AllByRecursion P (es ++ e ∷ [])
entries_more P [] e h k = (k, tt)
entries_more P (x ∷ es) e h k = (h.0, entries_more P es e h.1 k)

pub entries_last : (P : Entry → Type 0) (es : List Entry) (e : Entry) → AllByRecursion P es → P e → AllByRecursion P (in_last e es)
entries_last P [] e h k = tt
entries_last P (x ∷ []) e h k = (k, tt)
entries_last P (x ∷ y ∷ es) e h k = (h.0, entries_last P (y ∷ es) e h.1 k)

pub last_entry : (P : Entry → Type 0) (es : List Entry) (e : Entry) → AllByRecursion P es → last_of es ≡ Some e → P e
last_entry P [] e h k = absurd (cc)
last_entry P (x ∷ []) e h k = subst P (same_entry x e k) h.0
last_entry P (x ∷ y ∷ es) e h k = last_entry P (y ∷ es) e h.1 k

-- ---- wires put in order

length_with_step : (w v : Wire) (vs : List Wire) (b : Bool) → length (with_wire w vs) ≡ suc (length vs) → length (cond b (w ∷ v ∷ vs) (v ∷ with_wire w vs)) ≡ suc (suc (length vs))
length_with_step w v vs true h = refl
length_with_step w v vs false h = ap suc h

length_with : (w : Wire) (ws : List Wire) → length (with_wire w ws) ≡ suc (length ws)
length_with w [] = refl
length_with w (v ∷ vs) = length_with_step w v vs (precedes w v) (length_with w vs)

length_wired : (done ws : List Wire) → length (wired done ws) ≡ length done + length ws
length_wired done [] = omega arith
length_wired done (w ∷ ws) = omega (arith, length_wired (with_wire w done) ws, length_with w done)

small_wired : (done ws : List Wire) → AllByRecursion IsSmall done → AllByRecursion IsSmall ws → AllByRecursion IsSmall (wired done ws)
small_wired done [] h k = h
small_wired done (w ∷ ws) h k = small_wired (with_wire w done) ws (all_with IsSmall w done k.0 h) k.1

sorted_wired : (done ws : List Wire) → AreSorted done → AreSorted (wired done ws)
sorted_wired done [] h = h
sorted_wired done (w ∷ ws) h = sorted_wired (with_wire w done) ws (sorted_with w done h)

pub small_more : (ws : List Wire) (w : Wire) → AllByRecursion IsSmall ws → IsSmall w → AllByRecursion IsSmall (ws ++ w ∷ [])
small_more [] w h k = (k, tt)
small_more (v ∷ ws) w h k = (h.0, small_more ws w h.1 k)

-- ---- the page of a canvas

boxes_of : (names : Names) (es : List Entry) → AllByRecursion (IsEntry names) es → AreBoxes names (boxed es)
boxes_of names [] h = tt
boxes_of names (e ∷ es) h = (h.0.head, h.0.none, h.0.frame, h.0.boxes, boxes_of names es h.1)

pub level_sound : (names : Names) (l : Level) → IsLevel names l → IsSound names (page_of_level l)
level_sound names l h = (
  record {
    header = h.header;
    kept = h.kept;
    small = small_wired [] l.wires tt h.small;
    sorted = sorted_wired [] l.wires tt;
    coords = h.coords;
  },
  boxes_of names l.boxes h.entries,
)

pub level_wires : (l : Level) → length (sorted_wires l.wires) ≡ length l.wires
level_wires l = omega (arith, length_wired [] l.wires)

-- ---- what is open

abbrev pub elements_in : List Level → ℕ
elements_in [] = 0
elements_in (l ∷ ls) = weight (boxed l.boxes) + elements_in ls

abbrev pub wires_in : List Level → ℕ
wires_in [] = 0
wires_in (l ∷ ls) = length l.wires + inner_wires (boxed l.boxes) + wires_in ls

-- no more than 256 canvases lie in one another
abbrev pub AreShallow : List Level → Type 0
AreShallow [] = Unit {0}
AreShallow (l ∷ ls) = (levels (boxed l.boxes) + suc (length ls) ≤ 256) × AreShallow ls

-- what has come is proper and within the limits, and it was counted
pub record IsGood (s : State × Names) : Type 0 where
  pub table : IsTable s.1
  pub levels : AreLevels s.1 s.0.levels
  pub elements : s.0.elements ≡ elements_in s.0.levels
  pub wires : s.0.wires ≡ wires_in s.0.levels
  pub few : s.0.elements ≤ 16384
  pub few_wires : s.0.wires ≤ 65536
  pub shallow : AreShallow s.0.levels

pub good_grows : (s : State) (old new : Names) → Grows old new → IsGood (s, old) → IsGood (s, new)
good_grows s old new g k = record {
  table = g.after;
  levels = levels_grow old new g s.levels k.levels;
  elements = k.elements;
  wires = k.wires;
  few = k.few;
  few_wires = k.few_wires;
  shallow = k.shallow;
}

pub shallow_length : (ls : List Level) → AreShallow ls → length ls ≤ 256
shallow_length [] h = omega arith
shallow_length (l ∷ ls) h = omega (arith, h.0)

-- ---- an element more, and a wire more

pub box_good : (names : Names) (e : Entry) (ls : List Level) (k w : ℕ) → IsTable names → AreLevels names ls → AreShallow ls → IsEntry names e → 1 ≤ length ls →
    k ≡ elements_in ls + weight e.page.boxes → w ≡ wires_in ls + (length e.page.wires + inner_wires e.page.boxes) → k < 16384 → w ≤ 65536 → depth_of e + length ls ≤ 256 →
    IsGood (one_box_more e (record { levels = ls; elements = k; wires = w }), names)
box_good names e [] k w table a s h one c d few small deep = absurd (omega arith)
box_good names e (l ∷ ls) k w table a s h one c d few small deep = record {
  table = table;
  levels = (record { header = a.0.header; kept = a.0.kept; entries = entries_more (IsEntry names) l.boxes e a.0.entries h; small = a.0.small; coords = a.0.coords }, a.1);
  elements = omega (arith, weight_more l.boxes e);
  wires = omega (arith, inner_more l.boxes e);
  few = omega arith;
  few_wires = small;
  shallow = (omega (arith, levels_more l.boxes e, s.0), s.1);
}

wire_good_in : (names : Names) (x : Wire) (ls : List Level) (k w : ℕ) → IsGood (record { levels = ls; elements = k; wires = w }, names) → IsSmall x → 1 ≤ length ls → w < 65536 →
    IsGood (one_wire_more x (record { levels = ls; elements = k; wires = w }), names)
wire_good_in names x [] k w g h one few = absurd (omega arith)
wire_good_in names x (l ∷ ls) k w g h one few = record {
  table = g.table;
  levels = (
    record { header = g.levels.0.header; kept = g.levels.0.kept; entries = g.levels.0.entries; small = small_more l.wires x g.levels.0.small h; coords = g.levels.0.coords },
    g.levels.1,
  );
  elements = g.elements;
  wires = omega (arith, g.wires, length-append l.wires (x ∷ []));
  few = g.few;
  few_wires = omega arith;
  shallow = g.shallow;
}

pub wire_good : (names : Names) (x : Wire) (s : State) → IsGood (s, names) → IsSmall x → 1 ≤ length s.levels → s.wires < 65536 → IsGood (one_wire_more x s, names)
wire_good names x s g h one few = wire_good_in names x s.levels s.elements s.wires g h one few

-- ---- the innermost canvas closed

page_entry_is : (names : Names) (p : Page) (at : ℤ × ℤ) (text : List Atom) (width : Option ℤ) → IsSound names p → IsInRange millionths at.0 → IsInRange millionths at.1 →
    IsText names text → IsWidth width → IsEntry names (page_entry p at text width)
page_entry_is names p at text width h x y t w =
    record { head = record { x = x; y = y; text = t; width = w; tail = tt; form = tt }; none = tt; frame = h.0; boxes = h.1 }

close_good_in : (names : Names) (ls : List Level) (k w : ℕ) (at : ℤ × ℤ) (text : List Atom) (width : Option ℤ) → IsGood (record { levels = ls; elements = k; wires = w }, names) →
    2 ≤ length ls → k < 16384 → IsInRange millionths at.0 → IsInRange millionths at.1 → IsText names text → IsWidth width →
    IsGood (one_box_more (page_entry (first_page ls) at text width) (record { levels = drop 1 ls; elements = k; wires = w }), names)
close_good_in names [] k w at text width g two few x y t i = absurd (omega arith)
close_good_in names (l ∷ []) k w at text width g two few x y t i = absurd (omega arith)
close_good_in names (l ∷ m ∷ ls) k w at text width g two few x y t i =
    box_good names (page_entry (page_of_level l) at text width) (m ∷ ls) k w g.table g.levels.1 g.shallow.1
    (page_entry_is names (page_of_level l) at text width (level_sound names l g.levels.0) x y t i) (omega arith)
    (omega (arith, g.elements)) (omega (arith, g.wires, level_wires l)) few g.few_wires (omega (arith, g.shallow.0))

pub close_good : (names : Names) (s : State) (at : ℤ × ℤ) (text : List Atom) (width : Option ℤ) → IsGood (s, names) → 2 ≤ length s.levels → s.elements < 16384 →
    IsInRange millionths at.0 → IsInRange millionths at.1 → IsText names text → IsWidth width →
    IsGood (one_box_more (page_entry (first_page s.levels) at text width) (closed s), names)
close_good names s at text width g two few x y t i = close_good_in names s.levels s.elements s.wires at text width g two few x y t i

-- ---- the innermost canvas changed

-- a change keeps the canvas proper and takes no more
pub record Keeps (names : Names) (f : Level → Level) (l : Level) : Type 0 where
  pub level : IsLevel names (f l)
  pub weight : weight (boxed (f l).boxes) ≡ weight (boxed l.boxes)
  pub inner : inner_wires (boxed (f l).boxes) ≡ inner_wires (boxed l.boxes)
  pub depth : levels (boxed (f l).boxes) ≡ levels (boxed l.boxes)
  pub wires : length (f l).wires ≡ length l.wires

-- the first one, where there is one
abbrev pub OfFirst : (Level → Type 0) → List Level → Type 0
OfFirst P [] = Unit {0}
OfFirst P (l ∷ ls) = P l

change_good_in : (names : Names) (f : Level → Level) (ls : List Level) (k w : ℕ) → IsGood (record { levels = ls; elements = k; wires = w }, names) → OfFirst (Keeps names f) ls →
    IsGood (changed f (record { levels = ls; elements = k; wires = w }), names)
change_good_in names f [] k w g h = g
change_good_in names f (l ∷ ls) k w g h = record {
  table = g.table;
  levels = (h.level, g.levels.1);
  elements = omega (arith, g.elements, h.weight);
  wires = omega (arith, g.wires, h.inner, h.wires);
  few = g.few;
  few_wires = g.few_wires;
  shallow = (omega (arith, h.depth, g.shallow.0), g.shallow.1);
}

pub change_good : (names : Names) (f : Level → Level) (s : State) → IsGood (s, names) → OfFirst (Keeps names f) s.levels → IsGood (changed f s, names)
change_good names f s g h = change_good_in names f s.levels s.elements s.wires g h

pub of_first : (P Q : Level → Type 0) (ls : List Level) → ((l : Level) → P l → Q l) → AllByRecursion P ls → OfFirst Q ls
of_first P Q [] f h = tt
of_first P Q (l ∷ ls) f h = f l h.0

-- an element in the place of the last one
pub keeps_last : (names : Names) (e f : Entry) (l : Level) → IsLevel names l → last_of l.boxes ≡ Some f → IsEntry names e → TakesAs e f →
    Keeps names (λ l. with_boxes (in_last e l.boxes) l) l
keeps_last names e f l h q i t = record {
  level = record { header = h.header; kept = h.kept; entries = entries_last (IsEntry names) l.boxes e h.entries i; small = h.small; coords = h.coords };
  weight = weight_last l.boxes e f q t;
  inner = inner_last l.boxes e f q t;
  depth = levels_last l.boxes e f q t;
  wires = refl;
}
