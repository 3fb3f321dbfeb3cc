-- A box more in one canvas, and the document of the patch.
use Rattle.std.proofs.Common.{◌≡◌, ◌≢◌, ℕ, zero, suc, ◌+◌, ◌<◌, ◌≤◌, true, false, cond, List, [], ◌∷◌, ◌++◌, map, length, take, drop, slice_get, Option, Some, None, IsSome, refl, sym, ap, ◌∙◌, subst, arith}
use Rattle.std.specs.Prelude.{◌-◌}
use Rattle.std.proofs.lemmas.List.{length-map}
use Rattle.std.proofs.lemmas.Option.{none-some, same_Some}
use Rattle.slab.specs.Slab.{get}
use Rattle.pd_canvas.specs.declared.edits.Edit.{Edit}
use Rattle.pd_canvas.specs.declared.edits.Edit.TheVariants as edit
use Rattle.pd_canvas.specs.declared.wires.Wire.{Wire}
use Rattle.pd_canvas.specs.Pages.{Shape, Sub, Head, Page, Entry, boxed, listed, with_elements}
use Rattle.pd_canvas.specs.Paths.{at_place, inside, edit_at}
use Rattle.pd_canvas.specs.Edits.{appended, edited}
use Rattle.pd_canvas.specs.Turns.{put_in}
use Rattle.pd_canvas.specs.Views.{entry_of}
use Rattle.pd_canvas.specs.Wiring.{raised_wire}
use Rattle.pd_canvas.proofs.TreeLemmas.{listed_boxed}
use Rattle.pd_tree.specs.declared.rows.Sheet.{Sheet}
use Rattle.pd_grove.specs.declared.nodes.Node.{Node}
use Rattle.pd_grove.specs.declared.boards.Board.{Board}
use Rattle.pd_grove.specs.declared.grove.Grove.{Grove}
use Rattle.pd_grove.specs.Grafts.{HasPartMore, sheet_in}
use Rattle.pd_grove.specs.OwnPaths.{sub_in, sub_reached}
use Rattle.pd_grove.specs.Standing.{depth_of}
use Rattle.pd_grove.specs.Telling.{inner_in, keys_in}
use Rattle.pd_grove.specs.TextOrder.{is_sub}
use Rattle.pd_web.specs.declared.web.Web.{Web}
use Rattle.pd_web.specs.Canvases.{keys_at}
use Rattle.pd_present.specs.Contents.{present_head}
use Rattle.pd_present.specs.Presents.{wires_among, held_in, page_inside, entry_at, page_on, page_within, present_page}
use Rattle.pd_present.proofs.PresentLemmas.{within_none, within_suc}
use Rattle.pd_reload_law.proofs.EditLemmas.{sub_inner}
use Rattle.pd_putting_law.specs.Putting.{HasBoxAt, HasBoxLast, KeepsWires, HoldsPage, IsSavedAs, element_put, empty_canvas}
use Rattle.pd_putting_law.proofs.ListLemmas.{map_same, map_changed, map_more, insert_last}
use Rattle.pd_putting_law.proofs.PathLemmas.{Forest, subs, sub_leads, live_box, live_canvas, deep_as, LeadsNot, not_same, not_inside, not_below, not_around, not_beside}
use Rattle.pd_putting_law.proofs.PlaceLemmas.{last_at}
use Rattle.pd_putting_law.proofs.WireLemmas.{wires_aside, wires_with, wires_below}

-- ---- one canvas

pub entry_same : (in1 in2 : ℕ → Page) (o : Option Node) → ((j : ℕ) → inner_in o ≡ Some j → in2 j ≡ in1 j) → entry_at in2 o ≡ entry_at in1 o
entry_same in1 in2 None h = refl
entry_same in1 in2 (Some n) h =
    ap (λ (p : Page). record { head = present_head n.state (entry_of n.element).head; page = held_in (entry_of n.element).head.form p }) (held_same n.inner h)
  where
    held_same : (inner : Option ℕ) → ((j : ℕ) → inner ≡ Some j → in2 j ≡ in1 j) → page_inside in2 inner ≡ page_inside in1 inner
    held_same None h = refl
    held_same (Some j) h = h j refl

sub_held : (f : Shape) (p : Page) → is_sub f ≡ true → held_in f p ≡ p
sub_held Sub p e = refl
sub_held f p e = cc

pub sub_entry : (in1 in2 : ℕ → Page) (o : Option Node) (j : ℕ) (change : Page → Page) → sub_in o ≡ Some j → in2 j ≡ change (in1 j)
    → entry_at in2 o ≡ inside change (entry_at in1 o)
sub_entry in1 in2 None j change e h = absurd (none-some j e)
sub_entry in1 in2 (Some n) j change e h =
    let form = (entry_of n.element).head.form in
    let is : is_sub form ≡ true = by (is_sub form) e in
    let inner : n.inner ≡ Some j = sub_inner (Some n) j e in
    ap (λ (p : Page). record { head = present_head n.state (entry_of n.element).head; page = p })
    (sub_held form (page_inside in2 n.inner) is ∙ ap (page_inside in2) inner ∙ h
    ∙ ap change (sym (sub_held form (page_inside in1 n.inner) is ∙ ap (page_inside in1) inner)))
  where
    by : (b : _) → cond b n.inner None ≡ Some j → b ≡ true
    by true e = refl
    by false e = absurd (none-some j e)

abbrev pub page_with : Sheet → List Entry → List Wire → Page
page_with s es ws = record { header = s.header; kept = s.kept; boxes = boxed es; wires = ws; coords = s.coords }

abbrev pub entries : (ℕ → Option Node) → (ℕ → Page) → List ℕ → List Entry
entries nodes inside keys = map (λ k. entry_at inside (nodes k)) keys

module _ (w w' : Web) (numbers numbers' : List ℕ) (nodes nodes' : ℕ → Option Node) (in1 in2 : ℕ → Page) where
  pub page_same : (o : Option Board) → entries nodes' in2 (keys_in o) ≡ entries nodes in1 (keys_in o)
      → wires_among w' numbers' (keys_in o) ≡ wires_among w numbers (keys_in o) → page_on w' numbers' nodes' in2 o ≡ page_on w numbers nodes in1 o
  page_same None e f = refl
  page_same (Some b) e f =
      ap (λ (es : List Entry). page_with b.sheet es (wires_among w' numbers' b.nodes.items)) e
      ∙ ap (λ (ws : List Wire). page_with b.sheet (entries nodes in1 b.nodes.items) ws) f

  pub page_changed : (change : Entry → Entry) (i k : ℕ) (o : Option Board) → slice_get (keys_in o) i ≡ Some k
      → entries nodes' in2 (keys_in o) ≡ at_place i change (entries nodes in1 (keys_in o))
      → wires_among w' numbers' (keys_in o) ≡ wires_among w numbers (keys_in o)
      → page_on w' numbers' nodes' in2 o ≡ with_elements (at_place i change (listed (page_on w numbers nodes in1 o).boxes)) (page_on w numbers nodes in1 o)
  page_changed change i k None is e f = absurd (none-some k is)
  page_changed change i k (Some b) is e f =
      ap (λ (es : List Entry). page_with b.sheet es (wires_among w' numbers' b.nodes.items))
      (e ∙ ap (at_place i change) (sym (listed_boxed (entries nodes in1 b.nodes.items))))
      ∙ ap (λ (ws : List Wire). page_with b.sheet (at_place i change (listed (boxed (entries nodes in1 b.nodes.items)))) ws) f

  page_more : (e : Entry) (key n : ℕ) (o o' : Option Board) → IsSome o → IsSome o' → sheet_in o' ≡ sheet_in o
      → keys_in o' ≡ take n (keys_in o) ++ key ∷ drop n (keys_in o) → entries nodes' in2 (keys_in o) ≡ entries nodes in1 (keys_in o)
      → entry_at in2 (nodes' key) ≡ e → wires_among w' numbers' (keys_in o') ≡ map (raised_wire n) (wires_among w numbers (keys_in o))
      → page_on w' numbers' nodes' in2 o' ≡ put_in n e (page_on w numbers nodes in1 o)
  page_more e key n None o' live lives s k same is f = cc
  page_more e key n (Some b) None live lives s k same is f = cc
  page_more e key n (Some b) (Some b') live lives s k same is f =
      let here = entries nodes in1 b.nodes.items in
      let all : entries nodes' in2 b'.nodes.items ≡ take n (listed (boxed here)) ++ e ∷ drop n (listed (boxed here)) =
      ap (entries nodes' in2) k ∙ map_more (λ k. entry_at in2 (nodes' k)) b.nodes.items n key
      ∙ ap (λ (l : List Entry). take n l ++ entry_at in2 (nodes' key) ∷ drop n l) same ∙ ap (λ (x : Entry). take n here ++ x ∷ drop n here) is
      ∙ ap (λ (l : List Entry). take n l ++ e ∷ drop n l) (sym (listed_boxed here)) in
      ap (λ (x : Sheet). page_with x (entries nodes' in2 b'.nodes.items) (wires_among w' numbers' b'.nodes.items)) (same_Some b'.sheet b.sheet s)
      ∙ ap (λ (es : List Entry). page_with b.sheet es (wires_among w' numbers' b'.nodes.items)) all
      ∙ ap (λ (ws : List Wire). page_with b.sheet (take n (listed (boxed here)) ++ e ∷ drop n (listed (boxed here))) ws) f

  -- behind all elements, where no wire has such a number
  page_last : (e : Entry) (o : Option Board) → IsSome o
      → map (raised_wire (length (keys_in o))) (wires_among w numbers (keys_in o)) ≡ wires_among w numbers (keys_in o)
      → put_in (length (keys_in o)) e (page_on w numbers nodes in1 o) ≡ appended e (page_on w numbers nodes in1 o)
  page_last e None live f = cc
  page_last e (Some b) live f =
      let here = entries nodes in1 b.nodes.items in
      let old = listed (boxed here) in
      let n = length b.nodes.items in
      let long : n ≡ length old = sym (ap length (listed_boxed here) ∙ length-map b.nodes.items (λ k. entry_at in1 (nodes k))) in
      ap (λ (ws : List Wire). page_with b.sheet (take n old ++ e ∷ drop n old) ws) f
      ∙ ap (λ (es : List Entry). page_with b.sheet es (wires_among w numbers b.nodes.items)) (ap (λ i. take i old ++ e ∷ drop i old) long ∙ insert_last old e)

-- ---- the canvases of two groves

module _ (g h : Grove) (w w' : Web) (numbers numbers' : List ℕ) (canvas key number : ℕ) (F : Forest g)
    (M : HasPartMore (get g.nodes) (get h.nodes) (get g.boards) (get h.boards) canvas key (take number (keys_at g canvas)) (drop number (keys_at g canvas))) (W : KeepsWires g h w w' numbers numbers' key) where
  abbrev old : ℕ → ℕ → Page
  old n c = page_within w numbers (get g.nodes) (get g.boards) n c

  abbrev new : ℕ → ℕ → Page
  new n c = page_within w' numbers' (get h.nodes) (get h.boards) n c

  -- a box of a canvas that was there
  box_aside : (n c i k : ℕ) → slice_get (keys_at g c) i ≡ Some k → ((j : ℕ) → inner_in (get g.nodes k) ≡ Some j → new n j ≡ old n j)
      → entry_at (new n) (get h.nodes k) ≡ entry_at (old n) (get g.nodes k)
  box_aside n c i k is inner =
      ap (entry_at (new n)) (M.boxes_stay k (live_box g F c i k is)) ∙ entry_same (old n) (new n) (get g.nodes k) inner

  page_aside : (n c : ℕ) → IsSome (get g.boards c) → LeadsNot g canvas c → new n c ≡ old n c
  page_aside zero c live a = within_none w' numbers' (get h.nodes) (get h.boards) c ∙ sym (within_none w numbers (get g.nodes) (get g.boards) c)
  page_aside (suc n) c live a =
      let stays : get h.boards c ≡ get g.boards c = M.canvases_stay c (not_same g canvas c a) live in
      within_suc w' numbers' (get h.nodes) (get h.boards) n c
      ∙ ap (page_on w' numbers' (get h.nodes) (new n)) stays
      ∙ page_same w w' numbers numbers' (get g.nodes) (get h.nodes) (old n) (new n) (get g.boards c)
      (map_same (λ k. entry_at (old n) (get g.nodes k)) (λ k. entry_at (new n) (get h.nodes k)) (keys_at g c) (λ i k is.
      box_aside n c i k is (λ j holds. page_aside n j (live_canvas g F k j holds) (not_inside g canvas c i k j a is holds))))
      (wires_aside g h w w' numbers numbers' key c F W stays)
      ∙ sym (within_suc w numbers (get g.nodes) (get g.boards) n c)

  page_here : (e : Entry) (n : ℕ) → number ≤ length (keys_at g canvas) → entry_at (new n) (get h.nodes key) ≡ e
      → new (suc n) canvas ≡ put_in number e (old (suc n) canvas)
  page_here e n within is =
      within_suc w' numbers' (get h.nodes) (get h.boards) n canvas
      ∙ page_more w w' numbers numbers' (get g.nodes) (get h.nodes) (old n) (new n) e key number (get g.boards canvas) (get h.boards canvas) M.live M.lives M.sheet M.has
      (map_same (λ k. entry_at (old n) (get g.nodes k)) (λ k. entry_at (new n) (get h.nodes k)) (keys_at g canvas) (λ i k at.
      box_aside n canvas i k at (λ j holds. page_aside n j (live_canvas g F k j holds) (not_below g F canvas i k j at holds))))
      is (wires_with g h w w' numbers numbers' canvas key number F W within M.has)
      ∙ sym (ap (put_in number e) (within_suc w numbers (get g.nodes) (get g.boards) n canvas))

  page_put : (f : Page → Page) (m : ℕ) → new (suc m) canvas ≡ f (old (suc m) canvas) → (n c : ℕ) (path : List ℕ) → IsSome (get g.boards c)
      → sub_reached g (Some c) path ≡ Some canvas → n ≡ length path + suc m → new n c ≡ edit_at path f (old n c)
  page_put f m is zero c path live on low = absurd (nothing (length path) m low)
    where
      nothing : (n m : ℕ) → 0 ≡ n + suc m → ⊥
      nothing n m l = omega (arith, l)
  page_put f m is (suc n) c [] live on low =
      let here : c ≡ canvas = same_Some c canvas on in
      let as_deep : m ≡ n = omega (arith, low) in
      ap (new (suc n)) here ∙ subst (λ x. new (suc x) canvas ≡ f (old (suc x) canvas)) as_deep is ∙ ap (λ x. f (old (suc n) x)) (sym here)
  page_put f m is (suc n) c (i ∷ path) live on low =
      let s = subs g c i path canvas on in
      let way = sub_leads g c canvas (i ∷ path) on in
      let change : Page → Page = edit_at path f in
      let stays : get h.boards c ≡ get g.boards c = M.canvases_stay c (not_around g F c i path canvas way) live in
      let holds = sub_inner (get g.nodes s.key) s.inner s.sub in
      within_suc w' numbers' (get h.nodes) (get h.boards) n c
      ∙ ap (page_on w' numbers' (get h.nodes) (new n)) stays
      ∙ page_changed w w' numbers numbers' (get g.nodes) (get h.nodes) (old n) (new n) (inside change) i s.key (get g.boards c) s.is
      (map_changed (λ k. entry_at (old n) (get g.nodes k)) (λ k. entry_at (new n) (get h.nodes k)) (inside change) i (keys_at g c)
      (λ k at. subst (λ x. entry_at (new n) (get h.nodes x) ≡ inside change (entry_at (old n) (get g.nodes x))) (same_Some s.key k (sym s.is ∙ at))
      (ap (entry_at (new n)) (M.boxes_stay s.key (live_box g F c i s.key s.is))
      ∙ sub_entry (old n) (new n) (get g.nodes s.key) s.inner change s.sub
      (page_put f m is n s.inner path (live_canvas g F s.key s.inner holds) s.on (fewer n (length path) m low))))
      (λ i2 k apart at. box_aside n c i2 k at (λ j inner. page_aside n j (live_canvas g F k j inner) (not_beside g F c i path canvas i2 k j way apart at inner))))
      (wires_aside g h w w' numbers numbers' key c F W stays)
      ∙ sym (ap (λ (p : Page). with_elements (at_place i (inside change) (listed p.boxes)) p) (within_suc w numbers (get g.nodes) (get g.boards) n c))
    where
      fewer : (n l m : ℕ) → suc n ≡ suc l + suc m → n ≡ l + suc m
      fewer n l m h = omega (arith, h)

-- ---- what is saved of the new box

-- a canvas without boxes, where another canvas may lie
empty_here : (w : Web) (numbers : List ℕ) (nodes : ℕ → Option Node) (boards : ℕ → Option Board) (m j : ℕ) (b : Board) → m ≢ 0 → boards j ≡ Some b
    → b.nodes.items ≡ [] → page_within w numbers nodes boards m j ≡ empty_canvas b.sheet
empty_here w numbers nodes boards zero j b some is bare = absurd (some refl)
empty_here w numbers nodes boards (suc m) j b some is bare =
    within_suc w numbers nodes boards m j ∙ ap (page_on w numbers nodes (page_within w numbers nodes boards m)) is
    ∙ ap (λ (ks : List ℕ). page_with b.sheet (entries nodes (page_within w numbers nodes boards m) ks) (wires_among w numbers ks)) bare

held_page : (w : Web) (numbers : List ℕ) (nodes : ℕ → Option Node) (boards : ℕ → Option Board) (m : ℕ) (f : Shape) (inner : Option ℕ) (p : Page)
    → ((j : ℕ) → inner ≡ Some j → m ≢ 0) → HoldsPage f boards inner p → held_in f (page_inside (page_within w numbers nodes boards m) inner) ≡ p
held_page w numbers nodes boards m Sub inner p some E =
    ap (page_inside (page_within w numbers nodes boards m)) E.held ∙ empty_here w numbers nodes boards m E.key E.board (some E.key E.held) E.is E.bare ∙ sym E.page
held_page w numbers nodes boards m f inner p some E = sym E

saved_entry : (w : Web) (numbers : List ℕ) (nodes : ℕ → Option Node) (boards : ℕ → Option Board) (m : ℕ) (o : Option Node) (e : Entry)
    → ((j : ℕ) → inner_in o ≡ Some j → m ≢ 0) → IsSavedAs boards o e → entry_at (page_within w numbers nodes boards m) o ≡ e
saved_entry w numbers nodes boards m o e some S =
    let n = S.node in
    ap (entry_at (page_within w numbers nodes boards m)) S.is
    ∙ ap (λ (h : Head). record { head = h; page = held_in (entry_of n.element).head.form (page_inside (page_within w numbers nodes boards m) n.inner) }) S.head
    ∙ ap (λ (p : Page). record { head = e.head; page = p })
    (held_page w numbers nodes boards m (entry_of n.element).head.form n.inner e.page (λ j i. some j (ap inner_in S.is ∙ i)) S.holds)

-- ---- the document

-- where the page of the canvas around the box is changed so
document_at : (g h : Grove) (w w' : Web) (numbers numbers' path : List ℕ) (canvas key number : ℕ) (e : Entry) (f : Page → Page) → HasBoxAt g h path canvas key number
    → KeepsWires g h w w' numbers numbers' key → IsSavedAs (get h.boards) (get h.nodes key) e
    → ((m : ℕ) → put_in number e (page_within w numbers (get g.nodes) (get g.boards) (suc m) canvas) ≡ f (page_within w numbers (get g.nodes) (get g.boards) (suc m) canvas))
    → present_page h w' numbers' ≡ edit_at path f (present_page g w numbers)
document_at g h w w' numbers numbers' path canvas key number e f B W S on =
    let F = B.forest in
    let M = B.part in
    let m = 256 - length path in
    let way = sub_leads g g.root canvas path B.leads in
    let deep = deep_as g F path g.root canvas way in
    let low : length path ≤ 256 = shallow (depth_of (get g.boards canvas)) (depth_of (get g.boards g.root)) (length path) deep F.rooted.2 (F.shallow canvas) in
    ap (page_within w' numbers' (get h.nodes) (get h.boards) 257) B.root
    ∙ page_put g h w w' numbers numbers' canvas key number F M W f m
    (page_here g h w w' numbers numbers' canvas key number F M W e m B.within
    (saved_entry w' numbers' (get h.nodes) (get h.boards) m (get h.nodes key) e (λ j holds.
    let deeper = M.deeper key canvas j M.vacant M.lies holds in
    room (depth_of (get h.boards j)) (depth_of (get h.boards canvas)) (depth_of (get g.boards canvas)) (depth_of (get g.boards g.root)) (length path)
    deeper M.depth deep F.rooted.2 (M.low j (M.inside key j M.vacant holds).0)) S) ∙ on m)
    257 g.root path F.rooted.0 B.leads (whole (length path) low)
  where
    shallow : (d r l : ℕ) → d ≡ r + l → r ≡ 0 → d < 257 → l ≤ 256
    shallow d r l a b c = omega (arith, a, b, c)

    room : (j c' c r l : ℕ) → j ≡ c' + 1 → c' ≡ c → c ≡ r + l → r ≡ 0 → j < 257 → 256 - l ≢ 0
    room j c' c r l a b d e k z = omega (arith, a, b, d, e, k, z)

    whole : (l : ℕ) → l ≤ 256 → 257 ≡ l + suc (256 - l)
    whole l h = omega (arith, h)

pub document_put_in : (g h : Grove) (w w' : Web) (numbers numbers' path : List ℕ) (canvas key number : ℕ) (e : Entry) → HasBoxAt g h path canvas key number
    → KeepsWires g h w w' numbers numbers' key → IsSavedAs (get h.boards) (get h.nodes key) e
    → present_page h w' numbers' ≡ edit_at path (put_in number e) (present_page g w numbers)
document_put_in g h w w' numbers numbers' path canvas key number e B W S =
    document_at g h w w' numbers numbers' path canvas key number e (put_in number e) B W S (λ m. refl)

pub document_put : (g h : Grove) (w w' : Web) (numbers numbers' path : List ℕ) (canvas key : ℕ) (e : Entry) → HasBoxLast g h path canvas key
    → KeepsWires g h w w' numbers numbers' key → IsSavedAs (get h.boards) (get h.nodes key) e
    → present_page h w' numbers' ≡ edit_at path (appended e) (present_page g w numbers)
document_put g h w w' numbers numbers' path canvas key e B W S =
    document_at g h w w' numbers numbers' path canvas key (length (keys_at g canvas)) e (appended e) (last_at g h path canvas key B) W S (λ m.
    let page = page_within w numbers (get g.nodes) (get g.boards) m in
    ap (put_in (length (keys_at g canvas)) e) (within_suc w numbers (get g.nodes) (get g.boards) m canvas)
    ∙ page_last w w numbers numbers (get g.nodes) (get g.nodes) page page e (get g.boards canvas) B.part.live (wires_below w numbers (keys_at g canvas) (W.numbered canvas) (W.inside canvas))
    ∙ sym (ap (appended e) (within_suc w numbers (get g.nodes) (get g.boards) m canvas)))

never_put : (e : Entry) → None ≡ Some e → ⊥
never_put e h = none-some e h

pub edit_put : (x : Edit) (e : Entry) (path : List ℕ) (p : Page) → element_put x ≡ Some e → edit_at path (appended e) p ≡ edit_at path (edited x) p
edit_put (edit.Obj x y text) e path p h = sym (ap (λ (d : Entry). edit_at path (appended d) p) (same_Some _ e h))
edit_put (edit.Msg x y text) e path p h = sym (ap (λ (d : Entry). edit_at path (appended d) p) (same_Some _ e h))
edit_put (edit.Comment x y text) e path p h = sym (ap (λ (d : Entry). edit_at path (appended d) p) (same_Some _ e h))
edit_put (edit.FloatBox x y text) e path p h = sym (ap (λ (d : Entry). edit_at path (appended d) p) (same_Some _ e h))
edit_put (edit.SymbolBox x y text) e path p h = sym (ap (λ (d : Entry). edit_at path (appended d) p) (same_Some _ e h))
edit_put (edit.Sub x y name) e path p h = sym (ap (λ (d : Entry). edit_at path (appended d) p) (same_Some _ e h))
edit_put x e path p h = absurd (never_put e h)
