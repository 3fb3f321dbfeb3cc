-- Growth step by step.
use Rattle.std.proofs.Common.{◌≡◌, ℕ, zero, suc, ◌+◌, ◌-◌, ◌<◌, List, [], ◌∷◌, ◌++◌, append_assoc, length, drop, Option, Some, None, Result, Ok, Err, refl, sym, ap, subst, ◌∙◌, arith}
use Rattle.std.specs.List.{AllByRecursion}
use Rattle.std.proofs.lemmas.List.{append-nil, drop_all}
use Rattle.pd_atom.specs.declared.Atom.{Atom}
use Rattle.pd_canvas.specs.declared.tree.Element.{Element}
use Rattle.pd_canvas.specs.Pages.{Head, Page, Entry, elements_of}
use Rattle.pd_canvas.specs.Views.{entry_of, entries_of}
use Rattle.pd_library.specs.declared.answers.Answer.{Answer}
use Rattle.pd_object.specs.declared.kinds.Kind.{Kind}
use Rattle.pd_object.specs.declared.kinds.Kind.TheVariants as kind
use Rattle.pd_tree.specs.declared.rows.Fault.{Fault}
use Rattle.pd_tree.specs.declared.rows.Row.{Row}
use Rattle.pd_tree.specs.declared.rows.Sheet.{Sheet}
use Rattle.pd_tree.specs.Trees.{Trees, Done, Leaf, Holder, join, width, stands_of, stands_in, sheet_of}
use Rattle.pd_growth.specs.declared.growing.Stop.{Stop}
use Rattle.pd_growth.specs.declared.growing.Stop.TheVariants.{SymbolsFull, TooManyBoxes, Lacks, NoMemory}
use Rattle.pd_growth.specs.Steps.{Stock, Step, gives, goes_on, ◌>>=◌}
use Rattle.pd_growth.specs.Making.{Around, Plain}
use Rattle.pd_growth.specs.Growth.{Inner, cell_of, canvas_grown, box_made, box_grown, boxes_grown, page_grown}
use Rattle.pd_growth.specs.Suits.{RowSuits}
use Rattle.pd_growth.specs.Growing.{Refuses, HasGrown, Grows, inside_grown, boxes_in_turn, holder_stand}

-- a step that gives a value goes on with it
pub step_then : {A B : Type 0} (s : Step A) (a : A) (v : Stock) (f : A → Stock → Step B) → s ≡ gives a v → (s >>= f) ≡ f a v
step_then s a v f h = ap (λ x. x >>= f) h

-- what ends, ends whatever would come after it
pub refused_then : {A B : Type 0} (e : Stop) (w : Stock) (s : Step A) (f : A → Stock → Step B) → Refuses e w s → Refuses e w (s >>= f)
refused_then NoMemory w s f h = tt
refused_then SymbolsFull w s f h = ap (λ x. x >>= f) h
refused_then TooManyBoxes w s f h = ap (λ x. x >>= f) h
refused_then (Lacks n) w s f h = ap (λ x. x >>= f) h

pub refused_same : {B : Type 0} (e : Stop) (w : Stock) (s s' : Step B) → s ≡ s' → Refuses e w s' → Refuses e w s
refused_same e w s s' h k = subst (Refuses e w) (sym h) k

pub grows_same : (n : ℕ) (r : Result (Unit {0}) Stop) (before after : List Row) (w : Stock) (s s' : Step Trees) → s ≡ s' → Grows n r before after w s' → Grows n r before after w s
grows_same n r before after w s s' h k = subst (Grows n r before after w) (sym h) k

-- what ends after a step that gives a value
pub then_refused : {A B : Type 0} (e : Stop) (w : Stock) (s : Step A) (a : A) (v : Stock) (f : A → Stock → Step B) → s ≡ gives a v → Refuses e w (f a v) → Refuses e w (s >>= f)
then_refused e w s a v f h k = refused_same e w (s >>= f) (f a v) (step_then s a v f h) k

pub then_grows : {A : Type 0} (n : ℕ) (r : Result (Unit {0}) Stop) (before after : List Row) (w : Stock) (s : Step A) (a : A) (v : Stock) (f : A → Stock → Step Trees)
    → s ≡ gives a v → Grows n r before after w (f a v) → Grows n r before after w (s >>= f)
then_grows n r before after w s a v f h k = grows_same n r before after w (s >>= f) (f a v) (step_then s a v f h) k

pub ruleset growth_steps = (refused_then, then_refused, then_grows)

join_done : (t : Trees) → join t Done ≡ t
join_done Done = refl
join_done (Leaf c rest) = ap (Leaf c) (join_done rest)
join_done (Holder c s inner rest) = ap (Holder c s inner) (join_done rest)

join_assoc : (t u v : Trees) → join t (join u v) ≡ join (join t u) v
join_assoc Done u v = refl
join_assoc (Leaf c rest) u v = ap (Leaf c) (join_assoc rest u v)
join_assoc (Holder c s inner rest) u v = ap (Holder c s inner) (join_assoc rest u v)

width_join : (t u : Trees) → width (join t u) ≡ width t + width u
width_join Done u = omega arith
width_join (Leaf c rest) u = omega (arith, width_join rest u)
width_join (Holder c s inner rest) u = omega (arith, width_join rest u)

stands_join : (t u : Trees) → stands_of (join t u) ≡ stands_of t ++ stands_of u
stands_join Done u = refl
stands_join (Leaf c rest) u = ap (λ x. record { cell = c; sheet = None; boxes = 0 } ∷ x) (stands_join rest u)
stands_join (Holder c s inner rest) u =
    ap (λ x. record { cell = c; sheet = Some s; boxes = width inner } ∷ x)
    (ap (λ x. stands_of inner ++ x) (stands_join rest u) ∙ sym (append_assoc (stands_of inner) (stands_of rest) (stands_of u)))

-- the boxes so far, and then those that the rest gives
abbrev pub with_front : Trees → Step Trees → Step Trees
with_front t s = s >>= (λ rest u. gives (join t rest) u)

front_none : (r : Result Trees Stop) (w : Stock) → record { answer = r; stock = w } ≡ goes_on r w (λ rest u. gives rest u)
front_none (Ok t) w = refl
front_none (Err e) w = refl

front_twice : (t box : Trees) (r : Result Trees Stop) (w : Stock)
    → with_front t (goes_on r w (λ rest u. gives (join box rest) u)) ≡ goes_on r w (λ rest u. gives (join (join t box) rest) u)
front_twice t box (Ok rest) w = ap (λ x. gives x w) (join_assoc t box rest)
front_twice t box (Err e) w = refl

no_boxes : (lib : ℕ → Option Answer) (root : List ℕ) (left : ℕ) (a : Around) (w : Stock) → boxes_in_turn lib root left a [] w ≡ gives Done w
unfolding boxes_grown
no_boxes lib root left a w = refl

first_box : (lib : ℕ → Option Answer) (root : List ℕ) (left : ℕ) (a : Around) (e : Entry) (es : List Entry) (w : Stock)
    → boxes_in_turn lib root left a (e ∷ es) w
    ≡ (box_grown lib root left (inside_grown lib root left) a e w >>= (λ box v. with_front box (boxes_in_turn lib root left a es v)))
unfolding boxes_grown
first_box lib root left a e es w = refl

-- growth after i of the boxes
pub record Halfway (lib : ℕ → Option Answer) (root : List ℕ) (left : ℕ) (a : Around) (es : List Element) (w₀ w : Stock) (before after : List Row) (i : ℕ) : Type 0 where
  pub done : Trees
  pub wide : width done ≡ i
  pub rows : stands_in after ≡ stands_in before ++ stands_of done
  pub step : boxes_in_turn lib root left a (entries_of es) w₀ ≡ with_front done (boxes_in_turn lib root left a (entries_of (drop i es)) w)
  pub suit : AllByRecursion (RowSuits w.names) after

pub halfway_start : (lib : ℕ → Option Answer) (root : List ℕ) (left : ℕ) (a : Around) (es : List Element) (w : Stock) (first : List Row)
    → AllByRecursion (RowSuits w.names) first → Halfway lib root left a es w w first first 0
halfway_start lib root left a es w first h = record {
  done = Done;
  wide = refl;
  rows = sym (append-nil (stands_in first));
  step = (let s = boxes_in_turn lib root left a (entries_of es) w in front_none s.answer s.stock);
  suit = h;
}

whole_next : (lib : ℕ → Option Answer) (root : List ℕ) (left : ℕ) (a : Around) (es : List Element) (w₀ w : Stock) (before after : List Row) (i : ℕ) (e : Element)
    → drop i es ≡ e ∷ drop (i + 1) es → (H : Halfway lib root left a es w₀ w before after i)
    → boxes_in_turn lib root left a (entries_of es) w₀
    ≡ with_front H.done (box_grown lib root left (inside_grown lib root left) a (entry_of e) w >>= (λ box v. with_front box (boxes_in_turn lib root left a (entries_of (drop (i + 1) es)) v)))
whole_next lib root left a es w₀ w before after i e d H =
    H.step ∙ ap (λ x. with_front H.done (boxes_in_turn lib root left a (entries_of x) w)) d
    ∙ ap (with_front H.done) (first_box lib root left a (entry_of e) (entries_of (drop (i + 1) es)) w)

pub halfway_next : (lib : ℕ → Option Answer) (root : List ℕ) (left : ℕ) (a : Around) (es : List Element) (w₀ w w' : Stock) (before after after' : List Row) (i : ℕ) (e : Element)
    → drop i es ≡ e ∷ drop (i + 1) es → Halfway lib root left a es w₀ w before after i
    → HasGrown 1 after after' w' (box_grown lib root left (inside_grown lib root left) a (entry_of e) w)
    → Halfway lib root left a es w₀ w' before after' (i + 1)
halfway_next lib root left a es w₀ w w' before after after' i e d H G = record {
  done = join H.done G.boxes;
  wide = (let a = width_join H.done G.boxes in let b = H.wide in let c = G.wide in omega (arith, a, b, c));
  rows = G.rows ∙ ap (λ x. x ++ stands_of G.boxes) H.rows ∙ append_assoc (stands_in before) (stands_of H.done) (stands_of G.boxes)
      ∙ ap (λ x. stands_in before ++ x) (sym (stands_join H.done G.boxes));
  step = whole_next lib root left a es w₀ w before after i e d H
      ∙ ap (λ s. with_front H.done (s >>= (λ box v. with_front box (boxes_in_turn lib root left a (entries_of (drop (i + 1) es)) v)))) G.step
      ∙ (let s = boxes_in_turn lib root left a (entries_of (drop (i + 1) es)) w' in front_twice H.done G.boxes s.answer s.stock);
  suit = G.suit;
}

pub halfway_refused : (lib : ℕ → Option Answer) (root : List ℕ) (left : ℕ) (a : Around) (es : List Element) (w₀ w w' : Stock) (before after : List Row) (i : ℕ) (e : Element) (x : Stop)
    → drop i es ≡ e ∷ drop (i + 1) es → Halfway lib root left a es w₀ w before after i
    → Refuses x w' (box_grown lib root left (inside_grown lib root left) a (entry_of e) w)
    → Refuses x w' (boxes_in_turn lib root left a (entries_of es) w₀)
halfway_refused lib root left a es w₀ w w' before after i e x d H R =
    let s = box_grown lib root left (inside_grown lib root left) a (entry_of e) w in
    let f : Trees → Stock → Step Trees = λ box v. with_front box (boxes_in_turn lib root left a (entries_of (drop (i + 1) es)) v) in
    refused_same x w' _ (with_front H.done (s >>= f)) (whole_next lib root left a es w₀ w before after i e d H)
    (refused_then x w' (s >>= f) (λ rest u. gives (join H.done rest) u) (refused_then x w' s f R))

pub halfway_end : (lib : ℕ → Option Answer) (root : List ℕ) (left : ℕ) (a : Around) (es : List Element) (w₀ w : Stock) (before after : List Row) (i : ℕ)
    → i ≡ length es → Halfway lib root left a es w₀ w before after i
    → HasGrown (length es) before after w (boxes_in_turn lib root left a (entries_of es) w₀)
halfway_end lib root left a es w₀ w before after i l H = record {
  boxes = H.done;
  step = H.step ∙ ap (λ x. with_front H.done (boxes_in_turn lib root left a (entries_of x) w)) (drop_all i es (omega (arith, l)))
      ∙ ap (with_front H.done) (no_boxes lib root left a w) ∙ ap (λ x. gives x w) (join_done H.done);
  wide = H.wide ∙ l;
  rows = H.rows;
  suit = H.suit;
}

pub page_boxes : (lib : ℕ → Option Answer) (root : List ℕ) (n : ℕ) (a : Around) (p : Page) (w : Stock) → page_grown lib root n a p w ≡ boxes_in_turn lib root n a (elements_of p) w
unfolding page_grown
page_boxes lib root zero a p w = refl
page_boxes lib root (suc n) a p w = refl

pub inside_page : (lib : ℕ → Option Answer) (root : List ℕ) (left : ℕ) (a : Around) (p : Page) (w : Stock)
    → 0 < left → inside_grown lib root left a p w ≡ boxes_in_turn lib root (left - 1) a (elements_of p) w
inside_page lib root zero a p w h = absurd (omega arith)
inside_page lib root (suc n) a p w h = let e : n ≡ suc n - 1 = omega arith in page_boxes lib root n a p w ∙ ap (λ m. boxes_in_turn lib root m a (elements_of p) w) e

-- a box that holds a canvas, once its row stands and the boxes of the canvas have grown
pub canvas_grows : (lib : ℕ → Option Answer) (root : List ℕ) (left : ℕ) (a : Around) (p : Page) (h : Head) (text : List Atom) (n : ℕ) (w w' : Stock) (sheet : Sheet) (before middle after : List Row) (r : Result (Unit {0}) Stop)
    → 0 < left → sheet ≡ sheet_of a.zero a.arguments p
    → stands_in middle ≡ stands_in before ++ holder_stand h text sheet n ∷ []
    → Grows n r middle after w' (boxes_in_turn lib root (left - 1) a (elements_of p) w)
    → Grows 1 r before after w' (canvas_grown (inside_grown lib root left) a p h text w)
canvas_grows lib root left a p h text n w w' sheet before middle after (Err e) l s m R =
    refused_then e w' (inside_grown lib root left a p w) _ (refused_same e w' _ _ (inside_page lib root left a p w l) R)
canvas_grows lib root left a p h text n w w' sheet before middle after (Ok u) l s m G =
    let c = cell_of h text kind.Canvas None in
    record {
      boxes = Holder c sheet G.boxes Done;
      step = step_then (inside_grown lib root left a p w) G.boxes w' _ (inside_page lib root left a p w l ∙ G.step) ∙ ap (λ x. gives (Holder c x G.boxes Done) w') (sym s);
      wide = refl;
      rows = G.rows ∙ ap (λ x. x ++ stands_of G.boxes) m ∙ append_assoc (stands_in before) (holder_stand h text sheet n ∷ []) (stands_of G.boxes)
          ∙ ap (λ k. stands_in before ++ (holder_stand h text sheet k ∷ stands_of G.boxes)) (sym G.wide)
          ∙ ap (λ x. stands_in before ++ (holder_stand h text sheet (width G.boxes) ∷ x)) (sym (append-nil (stands_of G.boxes)));
      suit = G.suit;
    }

-- a box that holds no canvas
pub plain_grows : (inner : Inner) (a : Around) (e : Entry) (text : List Atom) (k : Kind) (fault : Option Fault) (w : Stock) (before after : List Row)
    → stands_in after ≡ stands_in before ++ stands_of (Leaf (cell_of e.head text k fault) Done) → AllByRecursion (RowSuits w.names) after
    → HasGrown 1 before after w (box_made inner a e text (Plain k fault) w)
plain_grows inner a e text k fault w before after r s = record { boxes = Leaf (cell_of e.head text k fault) Done; step = refl; wide = refl; rows = r; suit = s }
