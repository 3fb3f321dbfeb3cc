-- The boxes of a document with what is kept by now.
use Rattle.std.proofs.Common.{◌≡◌, ◌≤◌, ◌+◌, ℕ, suc, max, cond, List, [], ◌∷◌, ◌++◌, slice_get, length, Option, Some, None, refl, sym, ap, ◌∙◌, subst, arith}
use Rattle.std.specs.Prelude.{option_map, option_and_then}
use Rattle.std.specs.List.{AllByRecursion}
use Rattle.std.proofs.lemmas.Option.{none-some, same_Some}
use Rattle.slab.specs.Slab.{get}
use Rattle.pd_atom.specs.Names.{Names}
use Rattle.pd_canvas.specs.Pages.{Shape, Sub, Array, Head, Frame, Boxes, End, Box, Page, frame_of, page_of, empty_page}
use Rattle.pd_canvas.specs.Pages as pages
use Rattle.pd_canvas.specs.Proper.{IsSmall, IsHead, IsFrame, HoldsNone, AreBoxes, levels_of, levels}
use Rattle.pd_canvas.specs.Wiring.{AreSorted}
use Rattle.pd_kind.specs.declared.states.State.{State}
use Rattle.pd_tree.specs.declared.rows.Sheet.{Sheet}
use Rattle.pd_tree.specs.Trees.{Cell, Trees, Done, Leaf, Holder, Tree, weight, frame_in, box_with, document_boxes}
use Rattle.pd_grove.specs.declared.nodes.Node.{Node}
use Rattle.pd_grove.specs.declared.boards.Board.{Board}
use Rattle.pd_grove.specs.declared.grove.Grove.{Grove}
use Rattle.pd_grove.specs.Places.{CanvasStands}
use Rattle.pd_grove.specs.Standing.{NodeSeen, node_seen, BoardSeen, board_seen, Stands}
use Rattle.pd_grove.specs.Telling.{inner_in, keys_in, state_in}
use Rattle.pd_grove.specs.TextOrder.{is_sub, keys_inside}
use Rattle.pd_grove.specs.OwnPaths.{sub_in, sub_step_in, sub_reached}
use Rattle.pd_grove.proofs.PlaceLemmas.{seen_keys}
use Rattle.pd_web.specs.declared.web.Web.{Web}
use Rattle.pd_web.specs.Canvases.{keys_at}
use Rattle.pd_present.specs.Contents.{present_form, present_head}
use Rattle.pd_present.specs.Presents.{wires_among}
use Rattle.pd_regrowth_law.specs.Rewiring.{with_wires}
use Rattle.pd_reload_law.specs.Saving.{holder_now, boxes_now, array_now, cell_now, IsMade, AreMade}
use Rattle.pd_reload_law.proofs.NowLemmas.{cell_head}
use Rattle.pd_contents_law.specs.Contents.{count_of}
use Rattle.pd_proper_law.specs.Saves.{IsOwnBox, SavesWell, AllSaveWell}
use Rattle.pd_proper_law.proofs.HeadLemmas.{CountFits, head_proper}

-- ---- forms

holds_none : (f : Shape) → HoldsNone f empty_page
holds_none Sub = tt
holds_none f = refl

same_levels : (f : Shape) (text : List _) (s : Option State) (n : ℕ) → levels_of (present_form text s f) n ≡ levels_of f n
same_levels (Array values) text s n = refl
same_levels f text s n = refl

-- a box that holds a canvas, in the document
pub holder_doc : (f : Shape) (c : Cell) (sheet now : Sheet) (inner boxes rest : Trees) → c.head.form ≡ f
    → document_boxes (holder_now f c sheet inner now boxes rest) ≡ box_with f c.head now (document_boxes boxes) (document_boxes rest)
holder_doc Sub c sheet now inner boxes rest e = ap (λ (x : Shape). box_with x c.head now (document_boxes boxes) (document_boxes rest)) e
holder_doc f c sheet now inner boxes rest e = ap (λ (x : Shape). box_with x c.head sheet (document_boxes inner) (document_boxes rest)) e

holder_boxes : (names : Names) (f : Shape) (h : Head) (s now : Sheet) (inner boxes rest others : Boxes) → h.form ≡ f → (IsFrame names (frame_in s) → IsFrame names (frame_in now))
    → (f ≡ Sub → AreBoxes names inner → AreBoxes names boxes) → (AreBoxes names rest → AreBoxes names others) → AreBoxes names (box_with f h s inner rest) → AreBoxes names (box_with f h now boxes others)
holder_boxes names Sub h s now inner boxes rest others e frame inside on a =
    (a.0, subst (λ (x : Shape). HoldsNone x (page_of (frame_in now) boxes)) (sym e) tt, frame a.2, inside refl a.3, on a.4)
holder_boxes names f h s now inner boxes rest others e frame inside on a = (a.0, a.1, a.2, a.3, on a.4)

holder_weight : (f : Shape) (h : Head) (s now : Sheet) (inner boxes rest others : Boxes) → pages.weight boxes ≡ pages.weight inner → pages.weight others ≡ pages.weight rest
    → pages.weight (box_with f h now boxes others) ≡ pages.weight (box_with f h s inner rest)
holder_weight Sub h s now inner boxes rest others a b = ap (λ (x : ℕ). x + pages.weight others + 1) a ∙ ap (λ (x : ℕ). pages.weight inner + x + 1) b
holder_weight f h s now inner boxes rest others a b = ap (λ (x : ℕ). 0 + x + 1) b

holder_levels : (f : Shape) (h : Head) (s now : Sheet) (inner boxes rest others : Boxes) → levels boxes ≡ levels inner → levels others ≡ levels rest
    → levels (box_with f h now boxes others) ≡ levels (box_with f h s inner rest)
holder_levels Sub h s now inner boxes rest others a b = ap (λ (x : ℕ). max (levels_of h.form x) (levels others)) a ∙ ap (λ (x : ℕ). max (levels_of h.form (levels inner)) x) b
holder_levels f h s now inner boxes rest others a b = ap (λ (x : ℕ). max (levels_of h.form 0) x) b

-- ---- what is seen of a box

seen_inner : (o : Option Node) (x : NodeSeen) → option_map node_seen o ≡ Some x → inner_in o ≡ x.inner
seen_inner None x h = absurd (none-some x h)
seen_inner (Some n) x h = ap (λ (y : NodeSeen). y.inner) (same_Some (node_seen n) x h)

pub inside_at : (g : Grove) (o : Option Node) (x : NodeSeen) (j : ℕ) → option_map node_seen o ≡ Some x → x.inner ≡ Some j → keys_inside (get g.boards) (inner_in o) ≡ keys_at g j
inside_at g o x j h e = ap (keys_inside (get g.boards)) (seen_inner o x h ∙ e)

count_fits : (f : Shape) (c : Cell) → IsMade f c → CountFits (count_of c.kind) f
count_fits (Array values) c m = ap (λ (x : Cell). count_of x.kind) m
count_fits f c m = tt

pub seen_sub : (o : Option Node) (x : NodeSeen) → option_map node_seen o ≡ Some x → sub_in o ≡ cond (is_sub x.cell.head.form) x.inner None
seen_sub None x h = absurd (none-some x h)
seen_sub (Some n) x h = ap (λ (y : NodeSeen). cond (is_sub y.cell.head.form) y.inner None) (same_Some (node_seen n) x h)

module _ (names : Names) (g : Grove) (saves : AllSaveWell names g) where
  seen_head : (k : ℕ) (o : Option Node) (x : NodeSeen) → IsOwnBox g k → get g.nodes k ≡ o → option_map node_seen o ≡ Some x → IsMade x.cell.head.form x.cell → IsHead names x.cell.head
      → IsHead names (present_head (state_in o) x.cell.head)
  seen_head k None x own e h m i = absurd (none-some x h)
  seen_head k (Some n) x own e h m i =
      let same : node_seen n ≡ x = same_Some (node_seen n) x h in
      let w : SavesWell names x.cell.head.form (count_of x.cell.kind) n.state =
      subst (λ (y : NodeSeen). SavesWell names y.cell.head.form (count_of y.cell.kind) n.state) same (saves k n own e) in
      head_proper names (count_of x.cell.kind) n.state x.cell.head w (count_fits x.cell.head.form x.cell m) i

  leaf_head : (k b : ℕ) (c : Cell) → IsOwnBox g k → option_map node_seen (get g.nodes k) ≡ Some (record { board = b; cell = c; inner = None }) → IsMade c.head.form c → IsHead names c.head
      → IsHead names (cell_now (state_in (get g.nodes k)) c).head
  leaf_head k b c own h m i =
      subst (IsHead names) (sym (cell_head (state_in (get g.nodes k)) c)) (seen_head k (get g.nodes k) (record { board = b; cell = c; inner = None }) own refl h m i)

-- ---- a canvas in a box of the document is one of the document

last_step : (g : Grove) (here : Option ℕ) (path : List ℕ) (n : ℕ) → sub_reached g here (path ++ n ∷ []) ≡ option_and_then (λ c. sub_step_in g c n) (sub_reached g here path)
last_step g here [] n = refl
last_step g here (m ∷ path) n = last_step g (option_and_then (λ c. sub_step_in g c m) here) path n

abbrev Listed : Grove → List ℕ → Type 0
Listed g keys = (i k : ℕ) → slice_get keys i ≡ Some k → IsOwnBox g k

inside_own : (g : Grove) (k b j : ℕ) (c : Cell) (js : List ℕ) → IsOwnBox g k → option_map node_seen (get g.nodes k) ≡ Some (record { board = b; cell = c; inner = Some j }) → c.head.form ≡ Sub
    → keys_at g j ≡ js → Listed g js
inside_own g k b j c js own h f listed i x e =
    let step : sub_step_in g own.canvas own.place ≡ Some j =
    ap (option_and_then (λ y. sub_in (get g.nodes y))) own.at ∙ seen_sub (get g.nodes k) _ h ∙ ap (λ (y : Shape). cond (is_sub y) (Some j) None) f in
    record {
      path = own.path ++ own.place ∷ [];
      canvas = j;
      place = i;
      leads = last_step g (Some g.root) own.path own.place ∙ ap (option_and_then (λ y. sub_step_in g y own.place)) own.leads ∙ step;
      at = ap (λ (ks : List ℕ). slice_get ks i) listed ∙ e;
    }

first_inside : (a b : ℕ) → a + b + 1 ≤ 16384 → a ≤ 16384
first_inside a b h = omega (arith, h)

rest_inside : (a b : ℕ) → a + b + 1 ≤ 16384 → b ≤ 16384
rest_inside a b h = omega (arith, h)

rest_one : (b : ℕ) → b + 1 ≤ 16384 → b ≤ 16384
rest_one b h = omega (arith, h)

-- the wires of a canvas that are saved are small and sorted
pub record IsWiredWell (g : Grove) (web : Web) (numbers : List ℕ) (c : ℕ) : Type 0 where
  pub small : AllByRecursion IsSmall (wires_among web numbers (keys_at g c))
  pub sorted : AreSorted (wires_among web numbers (keys_at g c))

module _ (g : Grove) (web : Web) (numbers : List ℕ) where
  abbrev now : List ℕ → Trees → Trees
  now keys t = boxes_now web numbers (get g.nodes) (get g.boards) keys t

  pub frame_proper : (names : Names) (s : Sheet) (c : ℕ) (keys : List ℕ) → keys ≡ keys_at g c → IsWiredWell g web numbers c → IsFrame names (frame_in s)
      → IsFrame names (frame_in (with_wires (wires_among web numbers keys) s))
  frame_proper names s c keys e w f = record {
    header = f.header;
    kept = f.kept;
    small = subst (λ (ks : List ℕ). AllByRecursion IsSmall (wires_among web numbers ks)) (sym e) w.small;
    sorted = subst (λ (ks : List ℕ). AreSorted (wires_among web numbers ks)) (sym e) w.sorted;
    coords = f.coords;
  }

  pub doc_weight : (keys : List ℕ) (t : Trees) → pages.weight (document_boxes (now keys t)) ≡ pages.weight (document_boxes t)
  doc_weight [] t = refl
  doc_weight (k ∷ ks) Done = refl
  doc_weight (k ∷ ks) (Leaf c rest) = ap (λ (x : ℕ). 0 + x + 1) (doc_weight ks rest)
  doc_weight (k ∷ ks) (Holder c s inner rest) =
      let js = keys_inside (get g.boards) (inner_in (get g.nodes k)) in
      let new : Sheet = with_wires (wires_among web numbers js) s in
      ap pages.weight (holder_doc c.head.form c s new inner (now js inner) (now ks rest) refl)
      ∙ holder_weight c.head.form c.head s new (document_boxes inner) (document_boxes (now js inner)) (document_boxes rest) (document_boxes (now ks rest)) (doc_weight js inner) (doc_weight ks rest)

  pub doc_levels : (keys : List ℕ) (t : Trees) → levels (document_boxes (now keys t)) ≡ levels (document_boxes t)
  doc_levels [] t = refl
  doc_levels (k ∷ ks) Done = refl
  doc_levels (k ∷ ks) (Leaf c rest) =
      let s = state_in (get g.nodes k) in
      ap (λ (h : Head). max (levels_of h.form 0) (levels (document_boxes (now ks rest)))) (cell_head s c)
      ∙ ap (λ (x : ℕ). max x (levels (document_boxes (now ks rest)))) (same_levels c.head.form c.head.text s 0)
      ∙ ap (λ (x : ℕ). max (levels_of c.head.form 0) x) (doc_levels ks rest)
  doc_levels (k ∷ ks) (Holder c s inner rest) =
      let js = keys_inside (get g.boards) (inner_in (get g.nodes k)) in
      let new : Sheet = with_wires (wires_among web numbers js) s in
      ap levels (holder_doc c.head.form c s new inner (now js inner) (now ks rest) refl)
      ∙ holder_levels c.head.form c.head s new (document_boxes inner) (document_boxes (now js inner)) (document_boxes rest) (document_boxes (now ks rest)) (doc_levels js inner) (doc_levels ks rest)

  module _ (names : Names) (saves : AllSaveWell names g) (wired : (c : ℕ) (u : Tree) → CanvasStands g c u → AreMade u.boxes → weight u.boxes ≤ 16384 → IsWiredWell g web numbers c) where
    pub boxes_proper : (b d : ℕ) (keys : List ℕ) (t : Trees) → ((i k : ℕ) → slice_get keys i ≡ Some k → IsOwnBox g k) → Stands (get g.nodes) (get g.boards) b d keys t → AreMade t → weight t ≤ 16384
        → AreBoxes names (document_boxes t) → AreBoxes names (document_boxes (now keys t))
    boxes_proper b d [] t own S m l a = a
    boxes_proper b d (k ∷ ks) Done own S m l a = tt
    boxes_proper b d (k ∷ ks) (Leaf c rest) own S m l a = (
      leaf_head names g saves k b c (own 0 k refl) S.0 m.0 a.0,
      holds_none (cell_now (state_in (get g.nodes k)) c).head.form,
      a.2,
      tt,
      boxes_proper b d ks rest (λ i x e. own (suc i) x e) S.1 m.1 (rest_one (weight rest) l) a.4,
    )
    boxes_proper b d (k ∷ ks) (Holder c s inner rest) own S m l a =
        let js = keys_inside (get g.boards) (inner_in (get g.nodes k)) in
        let new : Sheet = with_wires (wires_among web numbers js) s in
        let same : js ≡ keys_at g S.0 = inside_at g (get g.nodes k) (record { board = b; cell = c; inner = Some S.0 }) S.0 S.2 refl in
        let there : keys_at g S.0 ≡ S.1 = seen_keys (get g.boards S.0) _ S.3 in
        let here : CanvasStands g S.0 (record { sheet = s; boxes = inner }) = record { holder = Some k; depth = d + 1; keys = S.1; board = S.3; stands = S.4 } in
        let few : weight inner ≤ 16384 = first_inside (weight inner) (weight rest) l in
        subst (AreBoxes names) (sym (holder_doc c.head.form c s new inner (now js inner) (now ks rest) refl))
        (holder_boxes names c.head.form c.head s new (document_boxes inner) (document_boxes (now js inner)) (document_boxes rest) (document_boxes (now ks rest)) refl
        (frame_proper names s S.0 js same (wired S.0 (record { sheet = s; boxes = inner }) here m.1 few))
        (λ f x. subst (λ (keys : List ℕ). AreBoxes names (document_boxes (now keys inner))) (sym (same ∙ there))
        (boxes_proper S.0 (d + 1) S.1 inner (inside_own g k b S.0 c S.1 (own 0 k refl) S.2 f there) S.4 m.1 few x))
        (λ x. boxes_proper b d ks rest (λ i y e. own (suc i) y e) S.5 m.2 (rest_inside (weight inner) (weight rest) l) x) a)
