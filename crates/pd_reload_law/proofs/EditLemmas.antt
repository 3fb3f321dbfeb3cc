-- Other wires in one canvas, and the document of the patch.
use Rattle.std.proofs.Common.{◌≡◌, ◌≢◌, ℕ, zero, suc, ◌+◌, ◌≤◌, List, [], ◌∷◌, ◌++◌, map, length, slice_get, Option, Some, None, IsSome, true, false, cond, refl, sym, ap, ◌∙◌, subst, arith, append_assoc, append-nil}
use Rattle.std.specs.Prelude.{option_and_then}
use Rattle.std.proofs.lemmas.List.{append_cancel_left}
use Rattle.std.proofs.lemmas.Option.{none-some, same_Some}
use Rattle.slab.specs.Slab.{get}
use Rattle.pd_canvas.specs.declared.wires.Wire.{Wire}
use Rattle.pd_canvas.specs.Pages.{Shape, Sub, Page, Entry, boxed, listed, with_elements}
use Rattle.pd_canvas.specs.Paths.{at_place, inside, edit_at}
use Rattle.pd_canvas.specs.Edits.{with_wires}
use Rattle.pd_canvas.specs.Views.{entry_of}
use Rattle.pd_canvas.proofs.TreeLemmas.{listed_boxed}
use Rattle.pd_grove.specs.declared.nodes.Node.{Node}
use Rattle.pd_grove.specs.declared.boards.Board.{Board}
use Rattle.pd_grove.specs.declared.grove.Grove.{Grove}
use Rattle.pd_grove.specs.Telling.{inner_in, keys_in, step_in, reached}
use Rattle.pd_grove.specs.TextOrder.{is_sub}
use Rattle.pd_grove.specs.OwnPaths.{sub_in, sub_reached}
use Rattle.pd_web.specs.declared.web.Web.{Web}
use Rattle.pd_web.specs.Canvases.{keys_at}
use Rattle.pd_present.specs.Contents.{present_head}
use Rattle.pd_present.specs.Presents.{wires_among, held_in, page_inside, entry_at, page_on, page_within, present_page}
use Rattle.pd_present.proofs.PresentLemmas.{within_none, within_suc}
use Rattle.pd_reload_law.specs.Wires.{RewiresAt}

-- ---- lists

map_same : (f g : ℕ → Entry) (keys : List ℕ) → ((i k : ℕ) → slice_get keys i ≡ Some k → g k ≡ f k) → map g keys ≡ map f keys
map_same f g [] h = refl
map_same f g (k ∷ ks) h = ap (λ (e : Entry). e ∷ map g ks) (h 0 k refl) ∙ ap (λ (l : List Entry). f k ∷ l) (map_same f g ks (λ i j e. h (suc i) j e))

map_changed : (f g : ℕ → Entry) (change : Entry → Entry) (n : ℕ) (keys : List ℕ) → ((k : ℕ) → slice_get keys n ≡ Some k → g k ≡ change (f k))
    → ((i k : ℕ) → i ≢ n → slice_get keys i ≡ Some k → g k ≡ f k) → map g keys ≡ at_place n change (map f keys)
map_changed f g change n [] h others = refl
map_changed f g change zero (k ∷ ks) h others =
    ap (λ (e : Entry). e ∷ map g ks) (h k refl) ∙ ap (λ (l : List Entry). change (f k) ∷ l) (map_same f g ks (λ i j e. others (suc i) j (never i) e))
  where
    never : (i : ℕ) → suc i ≢ 0
    never i e = cc
map_changed f g change (suc n) (k ∷ ks) h others =
    ap (λ (e : Entry). e ∷ map g ks) (others 0 k (never n) refl)
    ∙ ap (λ (l : List Entry). f k ∷ l) (map_changed f g change n ks h (λ i j a e. others (suc i) j (λ s. a (less i n s)) e))
  where
    never : (i : ℕ) → 0 ≢ suc i
    never i e = cc

    less : (i n : ℕ) → suc i ≡ suc n → i ≡ n
    less i n e = omega (arith, e)

-- ---- paths

reached_on : (g : Grove) (here : Option ℕ) (path rest : List ℕ) → reached g here (path ++ rest) ≡ reached g (reached g here path) rest
reached_on g here [] rest = refl
reached_on g here (n ∷ path) rest = reached_on g (option_and_then (λ canvas. step_in g canvas n) here) path rest

next_path : (path : List ℕ) (i : ℕ) (rest : List ℕ) → (path ++ i ∷ []) ++ rest ≡ path ++ i ∷ rest
next_path path i rest = append_assoc path (i ∷ []) rest

same_first : (i j : ℕ) (xs ys : List ℕ) → i ∷ xs ≡ j ∷ ys → i ≡ j
same_first i j xs ys e = cc

never_more : (path rest : List ℕ) (i : ℕ) → path ≡ path ++ i ∷ rest → ⊥
never_more path rest i e = never i rest (append_cancel_left path [] (i ∷ rest) (append-nil path ∙ e))
  where
    never : (i : ℕ) (rest : List ℕ) → [] ≡ i ∷ rest → ⊥
    never i rest e = cc

nowhere : (g : Grove) (path : List ℕ) → sub_reached g None path ≡ None
nowhere g [] = refl
nowhere g (n ∷ path) = nowhere g path

-- the canvas in a box, and the way to it
inner_reached : (g : Grove) (path : List ℕ) (c i k j : ℕ) → reached g (Some g.root) path ≡ Some c → slice_get (keys_at g c) i ≡ Some k
    → inner_in (get g.nodes k) ≡ Some j → reached g (Some g.root) (path ++ i ∷ []) ≡ Some j
inner_reached g path c i k j at is inner =
    reached_on g (Some g.root) path (i ∷ []) ∙ ap (λ o. reached g o (i ∷ [])) at
    ∙ ap (λ o. option_and_then (λ x. inner_in (get g.nodes x)) o) is ∙ inner

-- ---- what a change of the wires of one canvas leaves

-- a path doesn't lead through this canvas
abbrev IsAside : List ℕ → List ℕ → Type 0
IsAside target path = (rest : List ℕ) → target ≡ path ++ rest → ⊥

aside_next : (target path : List ℕ) (i : ℕ) → IsAside target path → IsAside target (path ++ i ∷ [])
aside_next target path i a rest e = a (i ∷ rest) (e ∙ next_path path i rest)

entry_same : (in1 in2 : ℕ → Page) (o : Option Node) → ((j : ℕ) → inner_in o ≡ Some j → in2 j ≡ in1 j) → entry_at in2 o ≡ entry_at in1 o
entry_same in1 in2 None h = refl
entry_same in1 in2 (Some n) h =
    ap (λ (p : Page). record { head = present_head n.state (entry_of n.element).head; page = held_in (entry_of n.element).head.form p }) (held_same n.inner h)
  where
    held_same : (inner : Option ℕ) → ((j : ℕ) → inner ≡ Some j → in2 j ≡ in1 j) → page_inside in2 inner ≡ page_inside in1 inner
    held_same None h = refl
    held_same (Some j) h = h j refl

page_by : (w w2 : Web) (numbers : List ℕ) (nodes : ℕ → Option Node) (in1 in2 : ℕ → Page) (o : Option Board)
    → map (λ k. entry_at in2 (nodes k)) (keys_in o) ≡ map (λ k. entry_at in1 (nodes k)) (keys_in o)
    → wires_among w2 numbers (keys_in o) ≡ wires_among w numbers (keys_in o)
    → page_on w2 numbers nodes in2 o ≡ page_on w numbers nodes in1 o
page_by w w2 numbers nodes in1 in2 None e f = refl
page_by w w2 numbers nodes in1 in2 (Some b) e f =
    ap (λ (es : List Entry). record { header = b.sheet.header; kept = b.sheet.kept; boxes = boxed es; wires = wires_among w2 numbers b.nodes.items; coords = b.sheet.coords }) e
    ∙ ap (λ (ws : List Wire). record { header = b.sheet.header; kept = b.sheet.kept; boxes = boxed (map (λ k. entry_at in1 (nodes k)) b.nodes.items); wires = ws; coords = b.sheet.coords }) f

page_aside : (g : Grove) (w w2 : Web) (numbers : List ℕ) (target : List ℕ) (d : ℕ) (f : List Wire → List Wire) → RewiresAt g w w2 numbers target d f
    → (n c : ℕ) (path : List ℕ) → reached g (Some g.root) path ≡ Some c → IsAside target path
    → page_within w2 numbers (get g.nodes) (get g.boards) n c ≡ page_within w numbers (get g.nodes) (get g.boards) n c
page_aside g w w2 numbers target d f r zero c path at a =
    within_none w2 numbers (get g.nodes) (get g.boards) c ∙ sym (within_none w numbers (get g.nodes) (get g.boards) c)
page_aside g w w2 numbers target d f r (suc n) c path at a =
    let nodes = get g.nodes in
    let boards = get g.boards in
    let in1 = page_within w numbers nodes boards n in
    let in2 = page_within w2 numbers nodes boards n in
    let other : c ≢ d = λ e. a [] (r.once path (at ∙ ap Some e) ∙ sym (append-nil path)) in
    within_suc w2 numbers nodes boards n c
    ∙ page_by w w2 numbers nodes in1 in2 (boards c)
    (map_same (λ k. entry_at in1 (nodes k)) (λ k. entry_at in2 (nodes k)) (keys_at g c) (λ i k is.
    entry_same in1 in2 (nodes k) (λ j inner. page_aside g w w2 numbers target d f r n j (path ++ i ∷ []) (inner_reached g path c i k j at is inner) (aside_next target path i a))))
    (r.others c other)
    ∙ sym (within_suc w numbers nodes boards n c)

-- ---- what it changes

pub sub_inner : (o : Option Node) (j : ℕ) → sub_in o ≡ Some j → inner_in o ≡ Some j
sub_inner None j e = e
sub_inner (Some n) j e = by (is_sub (entry_of n.element).head.form) e
  where
    by : (b : _) → cond b n.inner None ≡ Some j → n.inner ≡ Some j
    by true e = e
    by false e = absurd (none-some j e)

sub_held : (f : Shape) (p : Page) → is_sub f ≡ true → held_in f p ≡ p
sub_held Sub p e = refl
sub_held f p e = cc

sub_entry : (in1 in2 : ℕ → Page) (o : Option Node) (j : ℕ) (change : Page → Page) → sub_in o ≡ Some j → in2 j ≡ change (in1 j)
    → entry_at in2 o ≡ inside change (entry_at in1 o)
sub_entry in1 in2 None j change e h = absurd (none-some j e)
sub_entry in1 in2 (Some n) j change e h =
    let form = (entry_of n.element).head.form in
    let head = present_head n.state (entry_of n.element).head in
    let is : is_sub form ≡ true = by (is_sub form) e in
    let inner : n.inner ≡ Some j = sub_inner (Some n) j e in
    ap (λ (p : Page). record { head = head; page = p }) (sub_held form (page_inside in2 n.inner) is ∙ ap (page_inside in2) inner ∙ h
    ∙ ap change (sym (sub_held form (page_inside in1 n.inner) is ∙ ap (page_inside in1) inner)))
  where
    by : (b : _) → cond b n.inner None ≡ Some j → b ≡ true
    by true e = refl
    by false e = absurd (none-some j e)

-- the box of a number of a canvas, from which a path goes on
record StepsIn (g : Grove) (c i : ℕ) (rest : List ℕ) (d : ℕ) : Type 0 where
  key : ℕ
  inner : ℕ
  is : slice_get (keys_at g c) i ≡ Some key
  sub : sub_in (get g.nodes key) ≡ Some inner
  on : sub_reached g (Some inner) rest ≡ Some d

steps_by : (g : Grove) (c i : ℕ) (rest : List ℕ) (d : ℕ) (o : Option ℕ) → slice_get (keys_at g c) i ≡ o
    → sub_reached g (option_and_then (λ k. sub_in (get g.nodes k)) o) rest ≡ Some d → StepsIn g c i rest d
steps_by g c i rest d None at e = absurd (none-some d (sym (nowhere g rest) ∙ e))
steps_by g c i rest d (Some k) at e = on (sub_in (get g.nodes k)) refl e
  where
    on : (o : Option ℕ) → sub_in (get g.nodes k) ≡ o → sub_reached g o rest ≡ Some d → StepsIn g c i rest d
    on None s e = absurd (none-some d (sym (nowhere g rest) ∙ e))
    on (Some j) s e = record { key = k; inner = j; is = at; sub = s; on = e }

wired_here : (w w2 : Web) (numbers : List ℕ) (nodes : ℕ → Option Node) (in1 in2 : ℕ → Page) (f : List Wire → List Wire) (o : Option Board) → IsSome o
    → map (λ k. entry_at in2 (nodes k)) (keys_in o) ≡ map (λ k. entry_at in1 (nodes k)) (keys_in o)
    → wires_among w2 numbers (keys_in o) ≡ f (wires_among w numbers (keys_in o))
    → page_on w2 numbers nodes in2 o ≡ with_wires (f (page_on w numbers nodes in1 o).wires) (page_on w numbers nodes in1 o)
wired_here w w2 numbers nodes in1 in2 f None z e h = cc
wired_here w w2 numbers nodes in1 in2 f (Some b) z e h =
    ap (λ (es : List Entry). record { header = b.sheet.header; kept = b.sheet.kept; boxes = boxed es; wires = wires_among w2 numbers b.nodes.items; coords = b.sheet.coords }) e
    ∙ ap (λ (ws : List Wire). record { header = b.sheet.header; kept = b.sheet.kept; boxes = boxed (map (λ k. entry_at in1 (nodes k)) b.nodes.items); wires = ws; coords = b.sheet.coords }) h

changed_inside : (w w2 : Web) (numbers : List ℕ) (nodes : ℕ → Option Node) (in1 in2 : ℕ → Page) (change : Page → Page) (i k : ℕ) (o : Option Board)
    → slice_get (keys_in o) i ≡ Some k
    → map (λ k. entry_at in2 (nodes k)) (keys_in o) ≡ at_place i (inside change) (map (λ k. entry_at in1 (nodes k)) (keys_in o))
    → wires_among w2 numbers (keys_in o) ≡ wires_among w numbers (keys_in o)
    → page_on w2 numbers nodes in2 o ≡ with_elements (at_place i (inside change) (listed (page_on w numbers nodes in1 o).boxes)) (page_on w numbers nodes in1 o)
changed_inside w w2 numbers nodes in1 in2 change i k None is e f = absurd (none-some k is)
changed_inside w w2 numbers nodes in1 in2 change i k (Some b) is e f =
    ap (λ (es : List Entry). record { header = b.sheet.header; kept = b.sheet.kept; boxes = boxed es; wires = wires_among w2 numbers b.nodes.items; coords = b.sheet.coords })
    (e ∙ ap (at_place i (inside change)) (sym (listed_boxed (map (λ k. entry_at in1 (nodes k)) b.nodes.items))))
    ∙ ap (λ (ws : List Wire). record {
      header = b.sheet.header;
      kept = b.sheet.kept;
      boxes = boxed (at_place i (inside change) (listed (boxed (map (λ k. entry_at in1 (nodes k)) b.nodes.items))));
      wires = ws;
      coords = b.sheet.coords;
    }) f

page_edited : (g : Grove) (w w2 : Web) (numbers : List ℕ) (target : List ℕ) (d : ℕ) (f : List Wire → List Wire) → RewiresAt g w w2 numbers target d f
    → (n c : ℕ) (path rest : List ℕ) → reached g (Some g.root) path ≡ Some c → sub_reached g (Some c) rest ≡ Some d → target ≡ path ++ rest → length rest + 1 ≤ n
    → page_within w2 numbers (get g.nodes) (get g.boards) n c ≡ edit_at rest (λ p. with_wires (f p.wires) p) (page_within w numbers (get g.nodes) (get g.boards) n c)
page_edited g w w2 numbers target d f r zero c path rest at on is low = absurd (nothing (length rest) low)
  where
    nothing : (n : ℕ) → n + 1 ≤ 0 → ⊥
    nothing n l = omega (arith, l)
page_edited g w w2 numbers target d f r (suc n) c path [] at on is low =
    let nodes = get g.nodes in
    let boards = get g.boards in
    let in1 = page_within w numbers nodes boards n in
    let in2 = page_within w2 numbers nodes boards n in
    let here : c ≡ d = same_Some c d on in
    let change : Page → Page = λ p. with_wires (f p.wires) p in
    within_suc w2 numbers nodes boards n c
    ∙ wired_here w w2 numbers nodes in1 in2 f (boards c) (subst (λ x. IsSome (boards x)) (sym here) r.lives)
    (map_same (λ k. entry_at in1 (nodes k)) (λ k. entry_at in2 (nodes k)) (keys_at g c) (λ i k is2.
    entry_same in1 in2 (nodes k) (λ j inner. page_aside g w w2 numbers target d f r n j (path ++ i ∷ []) (inner_reached g path c i k j at is2 inner)
    (λ more e. never_more path more i (sym (append-nil path) ∙ sym is ∙ e ∙ next_path path i more)))))
    (ap (λ x. wires_among w2 numbers (keys_at g x)) here ∙ r.here ∙ ap (λ x. f (wires_among w numbers (keys_at g x))) (sym here))
    ∙ sym (ap change (within_suc w numbers nodes boards n c))
page_edited g w w2 numbers target d f r (suc n) c path (i ∷ rest) at on is low =
    let nodes = get g.nodes in
    let boards = get g.boards in
    let in1 = page_within w numbers nodes boards n in
    let in2 = page_within w2 numbers nodes boards n in
    let change : Page → Page = λ p. with_wires (f p.wires) p in
    let s = steps_by g c i rest d (slice_get (keys_at g c) i) refl on in
    let other : c ≢ d = λ e. never_more path rest i (sym (r.once path (at ∙ ap Some e)) ∙ is) in
    let inner = inner_reached g path c i s.key s.inner at s.is (sub_inner (nodes s.key) s.inner s.sub) in
    within_suc w2 numbers nodes boards n c
    ∙ changed_inside w w2 numbers nodes in1 in2 (edit_at rest change) i s.key (boards c) s.is
    (map_changed (λ k. entry_at in1 (nodes k)) (λ k. entry_at in2 (nodes k)) (inside (edit_at rest change)) i (keys_at g c)
    (λ k is2. subst (λ x. entry_at in2 (nodes x) ≡ inside (edit_at rest change) (entry_at in1 (nodes x))) (same_Some s.key k (sym s.is ∙ is2))
    (sub_entry in1 in2 (nodes s.key) s.inner (edit_at rest change) s.sub
    (page_edited g w w2 numbers target d f r n s.inner (path ++ i ∷ []) rest inner s.on (is ∙ sym (next_path path i rest)) (fewer (length rest) n low))))
    (λ i2 k apart is2. entry_same in1 in2 (nodes k) (λ j inner2. page_aside g w w2 numbers target d f r n j (path ++ i2 ∷ []) (inner_reached g path c i2 k j at is2 inner2)
    (λ more e. apart (same_first i2 i more rest (append_cancel_left path (i2 ∷ more) (i ∷ rest) (sym (next_path path i2 more) ∙ sym e ∙ is)))))))
    (r.others c other)
    ∙ sym (ap (λ (p : Page). with_elements (at_place i (inside (edit_at rest change)) (listed p.boxes)) p) (within_suc w numbers nodes boards n c))
  where
    fewer : (m n : ℕ) → suc m + 1 ≤ suc n → m + 1 ≤ n
    fewer m n l = omega (arith, l)

pub document_edited : (g : Grove) (w w2 : Web) (numbers : List ℕ) (path : List ℕ) (d : ℕ) (f : List Wire → List Wire) → RewiresAt g w w2 numbers path d f
    → sub_reached g (Some g.root) path ≡ Some d → length path ≤ 256
    → present_page g w2 numbers ≡ edit_at path (λ p. with_wires (f p.wires) p) (present_page g w numbers)
document_edited g w w2 numbers path d f r on low =
    page_edited g w w2 numbers path d f r 257 g.root [] path refl on refl (omega (arith, low))
