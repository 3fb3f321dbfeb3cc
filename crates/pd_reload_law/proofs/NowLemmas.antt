-- The tree of a patch as it stands, and its document.
use Rattle.std.proofs.Common.{◌≡◌, ℕ, ℤ, zero, suc, ◌+◌, ◌≤◌, max, List, [], ◌∷◌, ◌++◌, map, take, Option, Some, None, refl, sym, ap, ◌∙◌, subst, arith}
use Rattle.std.specs.Prelude.{option_map, option_and_then}
use Rattle.std.proofs.lemmas.Option.{none-some, same_Some}
use Rattle.slab.specs.Slab.{get}
use Rattle.pd_atom.specs.declared.Atom.{Atom}
use Rattle.pd_object.specs.declared.kinds.Kind.{Kind}
use Rattle.pd_object.specs.declared.kinds.Kind.TheVariants as kind
use Rattle.pd_kind.specs.declared.states.State.{State}
use Rattle.pd_kind.specs.Tables.{saved_of}
use Rattle.pd_canvas.specs.Arrays.{is_saved}
use Rattle.pd_canvas.specs.Pages.{Shape, Obj, Msg, Sub, Array, Head, Boxes, End, Box, Page, Entry, frame_of, page_of, empty_page, boxed}
use Rattle.pd_tree.specs.declared.rows.Sheet.{Sheet}
use Rattle.pd_tree.specs.Trees.{Cell, Trees, Done, Leaf, Holder, Tree, frame_in, box_with, document_boxes, document_in, own_zeros, zeros_in, zeros_of, weight}
use Rattle.pd_grove.specs.declared.nodes.Node.{Node}
use Rattle.pd_grove.specs.declared.boards.Board.{Board}
use Rattle.pd_grove.specs.declared.grove.Grove.{Grove}
use Rattle.pd_grove.specs.Standing.{NodeSeen, node_seen, BoardSeen, board_seen, Stands, GroveStands}
use Rattle.pd_grove.specs.Telling.{inner_in, keys_in, state_in}
use Rattle.pd_grove.specs.TextOrder.{deep, keys_inside}
use Rattle.pd_grove.proofs.PlaceLemmas.{seen_keys}
use Rattle.pd_web.specs.declared.web.Web.{Web}
use Rattle.pd_present.specs.Contents.{toggled, present_text, present_form, present_values, present_head}
use Rattle.pd_present.specs.Presents.{wires_among, held_in, page_inside, entry_at, page_on, page_within, present_page}
use Rattle.pd_present.proofs.PresentLemmas.{within_suc}
use Rattle.pd_regrowth_law.specs.Canvases.{Site}
use Rattle.pd_regrowth_law.specs.Filling.{LeafFollows, IsHolderRefilled, IsRefilled, last_two}
use Rattle.pd_regrowth_law.specs.Rewiring.{with_wires}
use Rattle.pd_regrowth_law.proofs.FillLemmas.{message_regrows, array_regrows}
use Rattle.pd_regrowth_law.proofs.ToggleLemmas.{toggle_regrows}
use Rattle.pd_reload_law.specs.Saving.{kind_turned, object_now, cell_by, cell_now, holder_now, boxes_now, tree_now, TurnsWhole, AreSavable, AreMade}

-- ---- heads

stays : (s : Option State) (h : Head) → present_form h.text s h.form ≡ h.form → present_text h.form s h.text ≡ h.text → present_head s h ≡ h
stays s h e f =
    ap (λ y. record { x = h.x; y = h.y; form = y; text = present_text h.form s h.text; width = h.width; tail = h.tail }) e
    ∙ ap (λ (y : List Atom). record { x = h.x; y = h.y; form = h.form; text = y; width = h.width; tail = h.tail }) f

-- a head of a form whose form and text stay
pub head_kept : (f : Shape) (s : Option State) (h : Head) → h.form ≡ f → present_form h.text s f ≡ f → present_text f s h.text ≡ h.text → present_head s h ≡ h
head_kept f s h e g k = stays s h (ap (present_form h.text s) e ∙ g ∙ sym e) (ap (λ y. present_text y s h.text) e ∙ k)

object_head : (o : Option (ℤ × ℤ)) (s : Option State) (c : Cell) → c.head.form ≡ Obj → option_and_then saved_of s ≡ o
    → (object_now o c (present_head s c.head)).head ≡ present_head s c.head
object_head None s c e k = sym (head_kept Obj s c.head e refl (ap (λ o. toggled o c.head.text) k))
object_head (Some v) s c e k = refl

head_by : (f : Shape) (s : Option State) (c : Cell) → c.head.form ≡ f → (cell_by f s c (present_head s c.head)).head ≡ present_head s c.head
head_by Msg s c e = refl
head_by (Array values) s c e = refl
head_by Obj s c e = object_head (option_and_then saved_of s) s c e refl
head_by f s c e = sym (head_kept f s c.head e refl refl)

pub cell_head : (s : Option State) (c : Cell) → (cell_now s c).head ≡ present_head s c.head
cell_head s c = head_by c.head.form s c refl

-- ---- growing again

follows_object : (site : Site) (o : Option (ℤ × ℤ)) (s : Option State) (c : Cell) → c.head.form ≡ Obj → TurnsWhole c.kind s → option_and_then saved_of s ≡ o
    → LeafFollows site c (object_now o c (present_head s c.head))
follows_object site None s c e turns k = λ left h. h
follows_object site (Some v) s c e turns k =
    let t = turns v k in
    let h = present_head s c.head in
    let text : h.text ≡ take 13 c.head.text ++ last_two v.0 v.1 = ap (λ y. present_text y s c.head.text) e ∙ ap (λ o. toggled o c.head.text) k in
    subst (λ (y : Kind). LeafFollows site c (record { head = h; text = take 13 c.text ++ last_two v.0 v.1; kind = kind_turned v y; fault = None })) (sym t.1)
    (toggle_regrows site c h t.0 v.0 v.1 e (ap (present_form c.head.text s) e) t.1 t.2 text)

follows_by : (site : Site) (f : Shape) (s : Option State) (c : Cell) → c.head.form ≡ f → TurnsWhole c.kind s → LeafFollows site c (cell_by f s c (present_head s c.head))
follows_by site Msg s c e turns = message_regrows site c (present_head s c.head) (ap (present_form c.head.text s) e)
follows_by site (Array values) s c e turns =
    array_regrows site c (present_head s c.head) values (present_values (is_saved c.head.text) s values) e (ap (present_form c.head.text s) e)
    (ap (λ y. present_text y s c.head.text) e)
follows_by site Obj s c e turns = follows_object site (option_and_then saved_of s) s c e turns refl
follows_by site f s c e turns = λ left h. h

-- ---- boxes under keys

turns_under : (nodes : ℕ → Option Node) (k : ℕ) (o : Option Node) (x : NodeSeen) → AreSavable nodes → nodes k ≡ o → option_map node_seen o ≡ Some x
    → TurnsWhole x.cell.kind (state_in o)
turns_under nodes k None x a e h = absurd (none-some x h)
turns_under nodes k (Some n) x a e h = subst (λ (y : NodeSeen). TurnsWhole y.cell.kind n.state) (same_Some (node_seen n) x h) (a.toggles k n e)

seen_inner : (o : Option Node) (x : NodeSeen) → option_map node_seen o ≡ Some x → inner_in o ≡ x.inner
seen_inner None x h = absurd (none-some x h)
seen_inner (Some n) x h = ap (λ (y : NodeSeen). y.inner) (same_Some (node_seen n) x h)

-- the keys of the boxes of the canvas that a box holds
inside_keys : (boards : ℕ → Option Board) (o : Option Node) (x : NodeSeen) (j : ℕ) (y : BoardSeen) → option_map node_seen o ≡ Some x → x.inner ≡ Some j
    → option_map board_seen (boards j) ≡ Some y → keys_inside boards (inner_in o) ≡ y.keys
inside_keys boards o x j y h i k = ap (keys_inside boards) (seen_inner o x h ∙ i) ∙ seen_keys (boards j) y k

held_none : (f : Shape) → held_in f empty_page ≡ empty_page
held_none Sub = refl
held_none f = refl

entry_leaf : (inside : ℕ → Page) (o : Option Node) (b : ℕ) (c : Cell) → option_map node_seen o ≡ Some (record { board = b; cell = c; inner = None })
    → entry_at inside o ≡ record { head = present_head (state_in o) c.head; page = empty_page }
entry_leaf inside None b c h = absurd (none-some _ h)
entry_leaf inside (Some n) b c h =
    ap (λ (x : NodeSeen). record { head = present_head n.state x.cell.head; page = held_in x.cell.head.form (page_inside inside x.inner) })
    (same_Some (node_seen n) _ h)
    ∙ ap (λ (p : Page). record { head = present_head n.state c.head; page = p }) (held_none c.head.form)

holder_head : (nodes : ℕ → Option Node) (k : ℕ) (o : Option Node) (x : NodeSeen) → AreSavable nodes → nodes k ≡ o
    → option_map node_seen o ≡ Some x → x.cell.kind ≡ kind.Canvas → present_head (state_in o) x.cell.head ≡ x.cell.head
holder_head nodes k None x a e h canvas = absurd (none-some x h)
holder_head nodes k (Some n) x a e h canvas =
    a.canvases k n x.cell.head e (ap (λ (y : NodeSeen). y.cell.kind) (same_Some (node_seen n) x h) ∙ canvas)

entry_holder : (inside : ℕ → Page) (o : Option Node) (b : ℕ) (c : Cell) (j : ℕ) → option_map node_seen o ≡ Some (record { board = b; cell = c; inner = Some j })
    → present_head (state_in o) c.head ≡ c.head → entry_at inside o ≡ record { head = c.head; page = held_in c.head.form (inside j) }
entry_holder inside None b c j h e = absurd (none-some _ h)
entry_holder inside (Some n) b c j h e =
    ap (λ (x : NodeSeen). record { head = present_head n.state x.cell.head; page = held_in x.cell.head.form (page_inside inside x.inner) })
    (same_Some (node_seen n) _ h)
    ∙ ap (λ (y : Head). record { head = y; page = held_in c.head.form (inside j) }) e

-- ---- the document

-- a canvas under a key, as the document has it
page_seen : (web : Web) (numbers : List ℕ) (nodes : ℕ → Option Node) (inside : ℕ → Page) (o : Option Board) (holder : Option ℕ) (d : ℕ) (s : Sheet) (keys : List ℕ)
    → option_map board_seen o ≡ Some (record { holder = holder; depth = d; sheet = s; keys = keys })
    → page_on web numbers nodes inside o ≡ page_of (frame_in (with_wires (wires_among web numbers keys) s)) (boxed (map (λ k. entry_at inside (nodes k)) keys))
page_seen web numbers nodes inside None holder d s keys h = absurd (none-some _ h)
page_seen web numbers nodes inside (Some b) holder d s keys h =
    ap (λ (x : BoardSeen). page_of (frame_in (with_wires (wires_among web numbers x.keys) x.sheet)) (boxed (map (λ k. entry_at inside (nodes k)) x.keys)))
    (same_Some (board_seen b) _ h)

-- a box that holds a canvas, with those behind it: `f` is its form
holder_document : (f : Shape) (c : Cell) (sheet : Sheet) (inner : Trees) (now : Sheet) (boxes others : Trees) (page : Page) (rest : List Entry) → c.head.form ≡ f
    → (f ≡ Sub → page ≡ page_of (frame_in now) (document_boxes boxes)) → document_boxes others ≡ boxed rest
    → document_boxes (holder_now f c sheet inner now boxes others) ≡ boxed (record { head = c.head; page = held_in f page } ∷ rest)
holder_document Sub c sheet inner now boxes others page rest e p q =
    ap (λ y. box_with y c.head now (document_boxes boxes) (document_boxes others)) e
    ∙ ap (λ (x : Boxes). Box c.head (frame_in now) (document_boxes boxes) x) q
    ∙ ap (λ (y : Page). Box c.head (frame_of y) y.boxes (boxed rest)) (sym (p refl))
holder_document f c sheet inner now boxes others page rest e p q =
    ap (λ y. box_with y c.head sheet (document_boxes inner) (document_boxes others)) e
    ∙ ap (λ (x : Boxes). Box c.head (frame_of empty_page) End x) q

deep_inside : (a b n : ℕ) → max (a + 1) b ≤ suc n → a ≤ n
deep_inside a b n h = omega (arith, h)

deep_behind : (a b n : ℕ) → max (a + 1) b ≤ n → b ≤ n
deep_behind a b n h = omega (arith, h)

nowhere : (a b : ℕ) → max (a + 1) b ≤ 0 → ⊥
nowhere a b h = omega (arith, h)

pub documents : (web : Web) (numbers : List ℕ) (nodes : ℕ → Option Node) (boards : ℕ → Option Board) (n b d : ℕ) (keys : List ℕ) (t : Trees)
    → AreSavable nodes → AreMade t → Stands nodes boards b d keys t → deep t ≤ n
    → document_boxes (boxes_now web numbers nodes boards keys t) ≡ boxed (map (λ k. entry_at (page_within web numbers nodes boards n) (nodes k)) keys)
documents web numbers nodes boards n b d [] Done a m S low = refl
documents web numbers nodes boards n b d (k ∷ ks) Done a m S low = absurd S
documents web numbers nodes boards n b d [] (Leaf c rest) a m S low = absurd S
documents web numbers nodes boards n b d (k ∷ ks) (Leaf c rest) a m S low =
    let others = document_boxes (boxes_now web numbers nodes boards ks rest) in
    let inside = page_within web numbers nodes boards n in
    let behind = map (λ k. entry_at inside (nodes k)) ks in
    ap (λ (h : Head). Box h (frame_of empty_page) End others) (cell_head (state_in (nodes k)) c)
    ∙ ap (λ (x : Boxes). Box (present_head (state_in (nodes k)) c.head) (frame_of empty_page) End x) (documents web numbers nodes boards n b d ks rest a m.1 S.1 low)
    ∙ sym (ap (λ (e : Entry). boxed (e ∷ behind)) (entry_leaf inside (nodes k) b c S.0))
documents web numbers nodes boards n b d [] (Holder c s inner rest) a m S low = absurd S
documents web numbers nodes boards zero b d (k ∷ ks) (Holder c s inner rest) a m S low = absurd (nowhere (deep inner) (deep rest) low)
documents web numbers nodes boards (suc n) b d (k ∷ ks) (Holder c s inner rest) a m S low =
    let j = S.0 in
    let js = S.1 in
    let inside = page_within web numbers nodes boards (suc n) in
    let behind = map (λ k. entry_at inside (nodes k)) ks in
    let same : keys_inside boards (inner_in (nodes k)) ≡ js = inside_keys boards (nodes k) _ j _ S.2 refl S.3 in
    let page : inside j ≡ page_of (frame_in (with_wires (wires_among web numbers js) s)) (document_boxes (boxes_now web numbers nodes boards js inner)) =
    within_suc web numbers nodes boards n j
    ∙ page_seen web numbers nodes (page_within web numbers nodes boards n) (boards j) (Some k) (d + 1) s js S.3
    ∙ ap (page_of (frame_in (with_wires (wires_among web numbers js) s)))
    (sym (documents web numbers nodes boards n j (d + 1) js inner a m.1 S.4 (deep_inside (deep inner) (deep rest) n low))) in
    ap (λ (x : List ℕ). document_boxes (holder_now c.head.form c s inner (with_wires (wires_among web numbers x) s) (boxes_now web numbers nodes boards x inner)
    (boxes_now web numbers nodes boards ks rest))) same
    ∙ holder_document c.head.form c s inner (with_wires (wires_among web numbers js) s) (boxes_now web numbers nodes boards js inner)
    (boxes_now web numbers nodes boards ks rest) (inside j) behind refl (λ f. page)
    (documents web numbers nodes boards (suc n) b d ks rest a m.2 S.5 (deep_behind (deep inner) (deep rest) (suc n) low))
    ∙ sym (ap (λ (e : Entry). boxed (e ∷ behind)) (entry_holder inside (nodes k) b c j S.2 (holder_head nodes k (nodes k) _ a refl S.2 m.0)))

pub document_told : (g : Grove) (web : Web) (numbers : List ℕ) (t : Tree) → GroveStands g t.sheet t.boxes → AreSavable (get g.nodes) → AreMade t.boxes
    → deep t.boxes ≤ 256
    → document_in (tree_now g web numbers t) ≡ present_page g web numbers
document_told g web numbers t G a m low =
    let nodes = get g.nodes in
    let boards = get g.boards in
    let same : keys_in (get g.boards g.root) ≡ G.keys = seen_keys (get g.boards g.root) _ G.root in
    ap (λ (x : List ℕ). page_of (frame_in (with_wires (wires_among web numbers x) t.sheet)) (document_boxes (boxes_now web numbers nodes boards x t.boxes))) same
    ∙ ap (page_of (frame_in (with_wires (wires_among web numbers G.keys) t.sheet))) (documents web numbers nodes boards 256 g.root 0 G.keys t.boxes a m G.stands low)
    ∙ sym (page_seen web numbers nodes (page_within web numbers nodes boards 256) (get g.boards g.root) None 0 t.sheet G.keys G.root)
    ∙ sym (within_suc web numbers nodes boards 256 g.root)

-- ---- the tree is filled anew

holder_refilled : (f : Shape) (c : Cell) (sheet : Sheet) (inner : Trees) (Within Rest : Trees → Type 0) (now : Sheet) (boxes others : Trees) → now.zero ≡ sheet.zero
    → now.arguments ≡ sheet.arguments → Within boxes → Rest others → IsHolderRefilled f c sheet inner Within Rest (holder_now f c sheet inner now boxes others)
holder_refilled Sub c sheet inner Within Rest now boxes others z a w r = (now, boxes, others, refl, z, a, w, r)
holder_refilled f c sheet inner Within Rest now boxes others z a w r = (others, refl, r)

pub refilled : (site : Site) (web : Web) (numbers : List ℕ) (nodes : ℕ → Option Node) (boards : ℕ → Option Board) (b d : ℕ) (keys : List ℕ) (t : Trees)
    → AreSavable nodes → Stands nodes boards b d keys t → IsRefilled site t (boxes_now web numbers nodes boards keys t)
refilled site web numbers nodes boards b d [] Done a S = refl
refilled site web numbers nodes boards b d (k ∷ ks) Done a S = absurd S
refilled site web numbers nodes boards b d [] (Leaf c rest) a S = absurd S
refilled site web numbers nodes boards b d (k ∷ ks) (Leaf c rest) a S = (
  cell_now (state_in (nodes k)) c,
  boxes_now web numbers nodes boards ks rest,
  refl,
  follows_by site c.head.form (state_in (nodes k)) c refl (turns_under nodes k (nodes k) _ a refl S.0),
  refilled site web numbers nodes boards b d ks rest a S.1,
)
refilled site web numbers nodes boards b d [] (Holder c s inner rest) a S = absurd S
refilled site web numbers nodes boards b d (k ∷ ks) (Holder c s inner rest) a S =
    let js = keys_inside boards (inner_in (nodes k)) in
    let same : js ≡ S.1 = inside_keys boards (nodes k) _ S.0 _ S.2 refl S.3 in
    holder_refilled c.head.form c s inner (IsRefilled site inner) (IsRefilled site rest) (with_wires (wires_among web numbers js) s)
    (boxes_now web numbers nodes boards js inner) (boxes_now web numbers nodes boards ks rest) refl refl
    (subst (λ (x : List ℕ). IsRefilled site inner (boxes_now web numbers nodes boards x inner)) (sym same)
    (refilled site web numbers nodes boards S.0 (d + 1) S.1 inner a S.4))
    (refilled site web numbers nodes boards b d ks rest a S.5)

pub tree_refilled : (site : Site) (g : Grove) (web : Web) (numbers : List ℕ) (t : Tree) → GroveStands g t.sheet t.boxes → AreSavable (get g.nodes)
    → IsRefilled site t.boxes (tree_now g web numbers t).boxes
tree_refilled site g web numbers t G a =
    subst (λ (x : List ℕ). IsRefilled site t.boxes (boxes_now web numbers (get g.nodes) (get g.boards) x t.boxes)) (sym (seen_keys (get g.boards g.root) _ G.root))
    (refilled site web numbers (get g.nodes) (get g.boards) g.root 0 G.keys t.boxes a G.stands)

-- ---- numbers and counts

same_zeros : (f : Shape) (ws : List _) (s : Sheet) → own_zeros f (with_wires ws s) ≡ own_zeros f s
same_zeros Sub ws s = refl
same_zeros f ws s = refl

holder_zeros : (f : Shape) (c : Cell) (sheet : Sheet) (inner : Trees) (ws : List _) (boxes others rest : Trees) → zeros_in boxes ≡ zeros_in inner
    → zeros_in others ≡ zeros_in rest → zeros_in (holder_now f c sheet inner (with_wires ws sheet) boxes others) ≡ own_zeros c.head.form sheet ++ (zeros_in inner ++ zeros_in rest)
holder_zeros Sub c sheet inner ws boxes others rest e g =
    ap (λ (x : List ℕ). x ++ (zeros_in boxes ++ zeros_in others)) (same_zeros c.head.form ws sheet)
    ∙ ap (λ (x : List ℕ). own_zeros c.head.form sheet ++ (x ++ zeros_in others)) e
    ∙ ap (λ (x : List ℕ). own_zeros c.head.form sheet ++ (zeros_in inner ++ x)) g
holder_zeros f c sheet inner ws boxes others rest e g = ap (λ (x : List ℕ). own_zeros c.head.form sheet ++ (zeros_in inner ++ x)) g

zeros_now : (web : Web) (numbers : List ℕ) (nodes : ℕ → Option Node) (boards : ℕ → Option Board) (keys : List ℕ) (t : Trees)
    → zeros_in (boxes_now web numbers nodes boards keys t) ≡ zeros_in t
zeros_now web numbers nodes boards [] t = refl
zeros_now web numbers nodes boards (k ∷ ks) Done = refl
zeros_now web numbers nodes boards (k ∷ ks) (Leaf c rest) = zeros_now web numbers nodes boards ks rest
zeros_now web numbers nodes boards (k ∷ ks) (Holder c s inner rest) =
    let js = keys_inside boards (inner_in (nodes k)) in
    holder_zeros c.head.form c s inner (wires_among web numbers js) (boxes_now web numbers nodes boards js inner) (boxes_now web numbers nodes boards ks rest) rest
    (zeros_now web numbers nodes boards js inner) (zeros_now web numbers nodes boards ks rest)

pub tree_zeros : (g : Grove) (web : Web) (numbers : List ℕ) (t : Tree) → zeros_of (tree_now g web numbers t) ≡ zeros_of t
tree_zeros g web numbers t =
    ap (λ (x : List ℕ). t.sheet.zero ∷ x) (zeros_now web numbers (get g.nodes) (get g.boards) (keys_in (get g.boards g.root)) t.boxes)

holder_weight : (f : Shape) (c : Cell) (sheet : Sheet) (inner : Trees) (now : Sheet) (boxes others rest : Trees) → weight boxes ≡ weight inner
    → weight others ≡ weight rest → weight (holder_now f c sheet inner now boxes others) ≡ weight inner + weight rest + 1
holder_weight Sub c sheet inner now boxes others rest e g = ap (λ x. x + weight others + 1) e ∙ ap (λ x. weight inner + x + 1) g
holder_weight f c sheet inner now boxes others rest e g = ap (λ x. weight inner + x + 1) g

weight_now : (web : Web) (numbers : List ℕ) (nodes : ℕ → Option Node) (boards : ℕ → Option Board) (keys : List ℕ) (t : Trees)
    → weight (boxes_now web numbers nodes boards keys t) ≡ weight t
weight_now web numbers nodes boards [] t = refl
weight_now web numbers nodes boards (k ∷ ks) Done = refl
weight_now web numbers nodes boards (k ∷ ks) (Leaf c rest) = ap (λ x. x + 1) (weight_now web numbers nodes boards ks rest)
weight_now web numbers nodes boards (k ∷ ks) (Holder c s inner rest) =
    let js = keys_inside boards (inner_in (nodes k)) in
    holder_weight c.head.form c s inner (with_wires (wires_among web numbers js) s) (boxes_now web numbers nodes boards js inner)
    (boxes_now web numbers nodes boards ks rest) rest (weight_now web numbers nodes boards js inner) (weight_now web numbers nodes boards ks rest)

pub tree_weight : (g : Grove) (web : Web) (numbers : List ℕ) (t : Tree) → weight (tree_now g web numbers t).boxes ≡ weight t.boxes
tree_weight g web numbers t = weight_now web numbers (get g.nodes) (get g.boards) (keys_in (get g.boards g.root)) t.boxes
