-- A new box is saved as it was put, and stands as it grew.
use Rattle.std.proofs.Common.{◌≡◌, ℕ, ℤ, ◌+◌, true, false, List, [], ◌∷◌, ◌++◌, take, Option, Some, None, refl, sym, ap, ◌∙◌, subst, true≢false}
use Rattle.std.specs.Prelude.{option_map, option_and_then}
use Rattle.std.proofs.lemmas.Option.{none-some, same_Some}
use Rattle.slab.specs.Slab.{get}
use Rattle.pd_atom.specs.declared.Atom.{Atom}
use Rattle.pd_clock.specs.declared.times.Rate.{Rate}
use Rattle.pd_object.specs.declared.kinds.Kind.{Kind}
use Rattle.pd_object.specs.declared.kinds.Kind.TheVariants as kind
use Rattle.pd_object.specs.declared.kinds.Panel.TheVariants as panel
use Rattle.pd_object.specs.declared.kinds.Toggle.{Toggle}
use Rattle.pd_kind.specs.declared.states.State.{State}
use Rattle.pd_kind.specs.declared.states.State.TheVariants as state
use Rattle.pd_kind.specs.States.{or_one, start_of}
use Rattle.pd_kind.specs.Tables.{saved_if, saved_of, started}
use Rattle.pd_canvas.specs.Arrays.{is_saved}
use Rattle.pd_canvas.specs.Pages.{Shape, Obj, Msg, Sub, Array, Head, Boxes, End, Page, Entry, boxed, listed, empty_page}
use Rattle.pd_canvas.specs.Views.{entry_of}
use Rattle.pd_tree.specs.declared.rows.Sheet.{Sheet}
use Rattle.pd_tree.specs.Trees.{Cell, Trees, Done, Leaf, Holder, box_with, document_boxes}
use Rattle.pd_grove.specs.declared.nodes.Node.{Node}
use Rattle.pd_grove.specs.declared.boards.Board.{Board}
use Rattle.pd_grove.specs.declared.grove.Grove.{Grove}
use Rattle.pd_grove.specs.Standing.{NodeSeen, node_seen, BoardSeen, board_seen, Stands}
use Rattle.pd_grove.specs.Telling.{inner_in, state_in}
use Rattle.pd_grove.specs.TextOrder.{is_sub, keys_inside}
use Rattle.pd_grove.proofs.PlaceLemmas.{seen_keys}
use Rattle.pd_web.specs.declared.web.Web.{Web}
use Rattle.pd_present.specs.Contents.{toggled, present_values, present_head}
use Rattle.pd_present.specs.Presents.{wires_among}
use Rattle.pd_regrowth_law.specs.Filling.{last_two, turned}
use Rattle.pd_regrowth_law.specs.Rewiring.{with_wires}
use Rattle.pd_reload_law.specs.Saving.{array_now, kind_turned, object_now, cell_by, cell_now, holder_now, boxes_now, TurnsWhole, IsMade, AreMade}
use Rattle.pd_reload_law.proofs.NowLemmas.{head_kept}
use Rattle.pd_reload_law.proofs.FreshLemmas.{bare_kept, fresh_savable}
use Rattle.pd_putting_law.specs.Putting.{HoldsPage, IsSavedAs, empty_canvas, IsWrittenAsKept, KeepsText, KeepsTexts, IsNewHolder, IsNewBox, entry_kept}

-- ---- first states

-- only a toggle whose text is whole keeps something of its text at first
turns_at_first : (k : Kind) (rate : Rate) (now : ℕ) (n : Node) → n.kind ≡ k → n.state ≡ Some (started (start_of k rate) now) → TurnsWhole k n.state
turns_at_first k rate now n e s =
    subst (λ (x : Kind). TurnsWhole x n.state) e
    ((fresh_savable rate now (λ _. Some n) (λ _ m is. subst (λ (x : Node). x.state ≡ Some (started (start_of x.kind rate) now)) (same_Some n m is)
    (s ∙ ap (λ (x : Kind). Some (started (start_of x rate) now)) (sym e)))).toggles 0 n refl)

abbrev first_state : Kind → Rate → ℕ → Option State
first_state k rate now = Some (started (start_of k rate) now)

record IsWhole (c : Cell) (v : ℤ × ℤ) : Type 0 where
  toggle : Toggle
  kind_is : c.kind ≡ kind.Panel (panel.Tgl toggle)
  written : IsWrittenAsKept c toggle
  value : v.0 ≡ toggle.value
  other : v.1 ≡ toggle.other

saved_values : (t : Toggle) (rate : Rate) (now : ℕ) → t.is_whole ≡ true → option_and_then saved_of (first_state (kind.Panel (panel.Tgl t)) rate now) ≡ Some (t.value, or_one t.other)
saved_values t rate now w = ap (λ b. saved_if b t.value (or_one t.other)) w

whole_by : (c : Cell) (rate : Rate) (now : ℕ) (n : Node) (v : ℤ × ℤ) → n.kind ≡ c.kind → n.state ≡ first_state c.kind rate now → KeepsText c
    → option_and_then saved_of n.state ≡ Some v → IsWhole c v
whole_by c rate now n v k s keeps e =
    let t = turns_at_first c.kind rate now n k s v e in
    let w = keeps t.0 t.1 t.2 in
    let same : (t.0.value, or_one t.0.other) ≡ v = same_Some (t.0.value, or_one t.0.other) v
    (sym (ap (λ (x : Kind). option_and_then saved_of (first_state x rate now)) t.1 ∙ saved_values t.0 rate now t.2) ∙ ap (option_and_then saved_of) (sym s) ∙ e) in
    record {
      toggle = t.0;
      kind_is = t.1;
      written = w;
      value = ap (λ (x : ℤ × ℤ). x.0) (sym same);
      other = ap (λ (x : ℤ × ℤ). x.1) (sym same) ∙ w.other;
    }

-- ---- a box without a canvas

text_kept : (c : Cell) (rate : Rate) (now : ℕ) (n : Node) → n.kind ≡ c.kind → n.state ≡ first_state c.kind rate now → KeepsText c
    → (o : Option (ℤ × ℤ)) → option_and_then saved_of n.state ≡ o → toggled o c.head.text ≡ c.head.text
text_kept c rate now n k s keeps None e = refl
text_kept c rate now n k s keeps (Some v) e =
    let w = whole_by c rate now n v k s keeps e in
    ap (λ z. take 13 c.head.text ++ last_two z v.1) w.value ∙ ap (λ z. take 13 c.head.text ++ last_two w.toggle.value z) w.other ∙ w.written.head

values_same : (b : _) (values : List ℤ) → present_values b (Some (state.Array values)) values ≡ values
values_same true values = refl
values_same false values = refl

-- the head of a new box is saved as it is
head_by : (f : Shape) (c : Cell) (rate : Rate) (now : ℕ) (n : Node) → c.head.form ≡ f → IsMade f c → n.kind ≡ c.kind → n.state ≡ first_state c.kind rate now → KeepsText c
    → present_head n.state c.head ≡ c.head
head_by Msg c rate now n e m k s keeps =
    let is : n.state ≡ Some (state.Message c.head.text) = s ∙ ap (λ (x : Cell). first_state x.kind rate now) m in
    ap (λ x. present_head x c.head) is ∙ head_kept Msg (Some (state.Message c.head.text)) c.head e refl refl
head_by Obj c rate now n e m k s keeps =
    head_kept Obj n.state c.head e refl (text_kept c rate now n k s keeps (option_and_then saved_of n.state) refl)
head_by (Array values) c rate now n e m k s keeps =
    let is : n.state ≡ Some (state.Array values) = s ∙ ap (λ (x : Cell). first_state x.kind rate now) m in
    ap (λ x. present_head x c.head) is ∙ head_kept (Array values) (Some (state.Array values)) c.head e (ap Array (values_same (is_saved c.head.text) values)) refl
head_by f c rate now n e m k s keeps = head_kept f n.state c.head e refl refl

object_same : (c : Cell) (rate : Rate) (now : ℕ) (n : Node) → n.kind ≡ c.kind → n.state ≡ first_state c.kind rate now → KeepsText c
    → (o : Option (ℤ × ℤ)) → option_and_then saved_of n.state ≡ o → object_now o c c.head ≡ c
object_same c rate now n k s keeps None e = refl
object_same c rate now n k s keeps (Some v) e =
    let w = whole_by c rate now n v k s keeps e in
    let t = w.toggle in
    let text : take 13 c.text ++ last_two v.0 v.1 ≡ c.text =
    ap (λ z. take 13 c.text ++ last_two z v.1) w.value ∙ ap (λ z. take 13 c.text ++ last_two t.value z) w.other ∙ w.written.text in
    let turns : kind_turned v c.kind ≡ c.kind =
    ap (kind_turned v) w.kind_is ∙ ap (λ z. kind.Panel (panel.Tgl (turned z v.1 t))) w.value ∙ ap (λ z. kind.Panel (panel.Tgl (turned t.value z t))) w.other ∙ sym w.kind_is in
    ap (λ (x : List Atom). record { head = c.head; text = x; kind = kind_turned v c.kind; fault = None }) text
    ∙ ap (λ (x : Kind). record { head = c.head; text = c.text; kind = x; fault = None }) turns
    ∙ ap (λ (x : Option _). record { head = c.head; text = c.text; kind = c.kind; fault = x }) (sym w.written.fault)

cell_by_form : (f : Shape) (c : Cell) (rate : Rate) (now : ℕ) (n : Node) → IsMade f c → n.kind ≡ c.kind → n.state ≡ first_state c.kind rate now → KeepsText c
    → cell_by f n.state c c.head ≡ c
cell_by_form Msg c rate now n m k s keeps = sym m
cell_by_form Obj c rate now n m k s keeps = object_same c rate now n k s keeps (option_and_then saved_of n.state) refl
cell_by_form (Array values) c rate now n m k s keeps =
    let is : n.state ≡ Some (state.Array values) = s ∙ ap (λ (x : Cell). first_state x.kind rate now) m in
    ap (λ (x : List ℤ). array_now c.text x c.head) (ap (λ x. present_values (is_saved c.head.text) x values) is ∙ values_same (is_saved c.head.text) values) ∙ sym m
cell_by_form f c rate now n m k s keeps = refl

-- ---- what is seen of a new box

record IsNode (o : Option Node) (x : NodeSeen) : Type 0 where
  node : Node
  is : o ≡ Some node
  seen : node_seen node ≡ x

node_by : (o : Option Node) (x : NodeSeen) → option_map node_seen o ≡ Some x → IsNode o x
node_by None x h = absurd (none-some x h)
node_by (Some n) x h = record { node = n; is = refl; seen = same_Some (node_seen n) x h }

record IsBoard (o : Option Board) (x : BoardSeen) : Type 0 where
  board : Board
  is : o ≡ Some board
  seen : board_seen board ≡ x

board_by : (o : Option Board) (x : BoardSeen) → option_map board_seen o ≡ Some x → IsBoard o x
board_by None x h = absurd (none-some x h)
board_by (Some b) x h = record { board = b; is = refl; seen = same_Some (board_seen b) x h }

abbrev first_of : List Entry → Option Entry
first_of [] = None
first_of (e ∷ es) = Some e

abbrev first_listed : Boxes → Option Entry
first_listed b = first_of (listed b)

same_element : (b : Boxes) (d e : Entry) → first_listed b ≡ Some d → b ≡ boxed (e ∷ []) → d ≡ e
same_element b d e h k = same_Some d e (sym h ∙ ap first_listed k)

-- the head of the first box
abbrev first_head : Trees → Option Head
first_head Done = None
first_head (Leaf c rest) = Some c.head
first_head (Holder c s inner rest) = Some c.head

box_head : (f : Shape) (h : Head) (s : Sheet) (inner rest : Boxes) → option_map (λ (e : Entry). e.head) (first_listed (box_with f h s inner rest)) ≡ Some h
box_head Sub h s inner rest = refl
box_head f h s inner rest = refl

same_head : (t : Trees) (e : Entry) → document_boxes t ≡ boxed (e ∷ []) → first_head t ≡ Some e.head
same_head Done e h = absurd (none-some e (ap first_listed h))
same_head (Leaf c rest) e h = ap (λ b. option_map (λ (x : Entry). x.head) (first_listed b)) h
same_head (Holder c s inner rest) e h =
    sym (box_head c.head.form c.head s (document_boxes inner) (document_boxes rest)) ∙ ap (λ b. option_map (λ (x : Entry). x.head) (first_listed b)) h

no_more_keys : (nodes : ℕ → Option Node) (boards : ℕ → Option Board) (b d : ℕ) (t : Trees) → Stands nodes boards b d [] t → t ≡ Done
no_more_keys nodes boards b d Done S = refl
no_more_keys nodes boards b d (Leaf c rest) S = absurd S
no_more_keys nodes boards b d (Holder c s inner rest) S = absurd S

plain_page : (f : Shape) (boards : ℕ → Option Board) (inner : Option ℕ) → is_sub f ≡ false → HoldsPage f boards inner empty_page
plain_page Sub boards inner h = absurd (true≢false h)
plain_page f boards inner h = refl

-- the wires of a canvas without boxes, and a sheet without wires
same_sheet : (ws : List _) (s : Sheet) → ws ≡ s.wires → with_wires ws s ≡ s
same_sheet ws s e = ap (λ (x : List _). with_wires x s) e

holder_as_grown : (f : Shape) (c : Cell) (s : Sheet) (inner : Trees) (web : Web) (numbers js : List ℕ) (nodes : ℕ → Option Node) (boards : ℕ → Option Board) (rest : Trees)
    → IsNewHolder f s inner → (inner ≡ Done → js ≡ [])
    → holder_now f c s inner (with_wires (wires_among web numbers js) s) (boxes_now web numbers nodes boards js inner) rest ≡ Holder c s inner rest
holder_as_grown Sub c s inner web numbers js nodes boards rest h none =
    let bare : js ≡ [] = none h.1 in
    ap (λ (x : List ℕ). Holder c (with_wires (wires_among web numbers x) s) (boxes_now web numbers nodes boards x inner) rest) bare
    ∙ ap (λ (x : Sheet). Holder c x inner rest) (same_sheet [] s (sym h.0))
holder_as_grown f c s inner web numbers js nodes boards rest h none = refl

no_boxes_keys : (nodes : ℕ → Option Node) (boards : ℕ → Option Board) (b d : ℕ) (keys : List ℕ) (t : Trees) → Stands nodes boards b d keys t → t ≡ Done → keys ≡ []
no_boxes_keys nodes boards b d keys t S e = by keys (subst (λ (y : Trees). Stands nodes boards b d keys y) e S)
  where
    by : (ks : List ℕ) → Stands nodes boards b d ks Done → ks ≡ []
    by [] S = refl
    by (k ∷ ks) S = absurd S

-- what the document has of a box that holds a canvas
held_element : (f : Shape) (h : Head) (s : Sheet) (inner : Trees) → IsNewHolder f s inner → (boards : ℕ → Option Board) (o : Option ℕ) (j : ℕ) (x : BoardSeen) → o ≡ Some j
    → option_map board_seen (boards j) ≡ Some x → x.sheet ≡ s → (inner ≡ Done → x.keys ≡ [])
    → (p : Page) × HoldsPage f boards o p × (first_listed (box_with f h s (document_boxes inner) End) ≡ Some (record { head = h; page = p }))
held_element Sub h s inner new boards o j x holds seen sheet none =
    let B = board_by (boards j) x seen in
    let is : B.board.sheet ≡ s = ap (λ (y : BoardSeen). y.sheet) B.seen ∙ sheet in (
      empty_canvas s,
      record {
        key = j;
        board = B.board;
        held = holds;
        is = B.is;
        bare = ap (λ (y : BoardSeen). y.keys) B.seen ∙ none new.1;
        page = ap empty_canvas (sym is);
      },
      ap (λ (y : Trees). first_listed (box_with Sub h s (document_boxes y) End)) new.1
          ∙ ap (λ (ws : List _). Some (record { head = h; page = record { header = s.header; kept = s.kept; boxes = End; wires = ws; coords = s.coords } })) new.0,
    )
held_element f h s inner new boards o j x holds seen sheet none = (empty_page, refl, refl)

module _ (g : Grove) (b d key : ℕ) where
  -- a new box is saved as its element, with what it keeps
  pub new_saved : (new : Trees) (e : Entry) → Stands (get g.nodes) (get g.boards) b d (key ∷ []) new → IsNewBox new → document_boxes new ≡ boxed (e ∷ [])
      → IsSavedAs (get g.boards) (get g.nodes key) (entry_kept (state_in (get g.nodes key)) e)
  new_saved Done e S new document = absurd S
  new_saved (Leaf c rest) e S new document =
      let N = node_by (get g.nodes key) _ S.0 in
      let n = N.node in
      let head_is : (entry_of n.element).head ≡ c.head = ap (λ (x : NodeSeen). x.cell.head) N.seen in
      let same : record { head = c.head; page = empty_page } ≡ e = same_element (document_boxes (Leaf c rest)) (record { head = c.head; page = empty_page }) e refl document in
      record {
        node = n;
        is = N.is;
        head = ap (present_head n.state) (head_is ∙ ap (λ (x : Entry). x.head) same) ∙ ap (λ x. present_head x e.head) (sym (ap state_in N.is));
        holds = subst (λ (x : Entry). HoldsPage (entry_of n.element).head.form (get g.boards) n.inner x.page) same
            (plain_page (entry_of n.element).head.form (get g.boards) n.inner (ap (λ (x : Head). is_sub x.form) head_is ∙ new));
      }
  new_saved (Holder c s inner rest) e S new document =
      let N = node_by (get g.nodes key) _ S.2 in
      let n = N.node in
      let head_is : (entry_of n.element).head ≡ c.head = ap (λ (x : NodeSeen). x.cell.head) N.seen in
      let inner_is : n.inner ≡ Some S.0 = ap (λ (x : NodeSeen). x.inner) N.seen in
      let last : rest ≡ Done = no_more_keys (get g.nodes) (get g.boards) b d rest S.5 in
      let element = held_element c.head.form c.head s inner new (get g.boards) n.inner S.0 _ inner_is S.3 refl
      (no_boxes_keys (get g.nodes) (get g.boards) S.0 (d + 1) S.1 inner S.4) in
      let same : record { head = c.head; page = element.0 } ≡ e = same_element (document_boxes (Holder c s inner rest)) (record { head = c.head; page = element.0 }) e
      (ap (λ (y : Trees). first_listed (document_boxes (Holder c s inner y))) last ∙ element.2) document in
      record {
        node = n;
        is = N.is;
        head = ap (present_head n.state) (head_is ∙ ap (λ (x : Entry). x.head) same) ∙ ap (λ x. present_head x e.head) (sym (ap state_in N.is));
        holds = subst (λ (x : Entry). HoldsPage (entry_of n.element).head.form (get g.boards) n.inner x.page) same
            (subst (λ (x : Head). HoldsPage x.form (get g.boards) n.inner element.0) (sym head_is) element.1);
      }

  -- what it keeps at first leaves its head
  new_head : (new : Trees) (e : Entry) (rate : Rate) (now : ℕ) → Stands (get g.nodes) (get g.boards) b d (key ∷ []) new
      → ((n : Node) → get g.nodes key ≡ Some n → n.state ≡ first_state n.kind rate now) → AreMade new → KeepsTexts new → first_head new ≡ Some e.head
      → present_head (state_in (get g.nodes key)) e.head ≡ e.head
  new_head Done e rate now S fresh made keeps is = absurd S
  new_head (Leaf c rest) e rate now S fresh made keeps is =
      let N = node_by (get g.nodes key) _ S.0 in
      let kind_is : N.node.kind ≡ c.kind = ap (λ (x : NodeSeen). x.cell.kind) N.seen in
      let state_is : N.node.state ≡ first_state c.kind rate now = fresh N.node N.is ∙ ap (λ (x : Kind). first_state x rate now) kind_is in
      subst (λ (x : Head). present_head (state_in (get g.nodes key)) x ≡ x) (same_Some c.head e.head is)
      (ap (λ o. present_head (state_in o) c.head) N.is ∙ head_by c.head.form c rate now N.node refl made.0 kind_is state_is keeps)
  new_head (Holder c s inner rest) e rate now S fresh made keeps is =
      let N = node_by (get g.nodes key) _ S.2 in
      let kind_is : N.node.kind ≡ kind.Canvas = ap (λ (x : NodeSeen). x.cell.kind) N.seen ∙ made.0 in
      let state_is : N.node.state ≡ Some state.Bare = fresh N.node N.is ∙ ap (λ (x : Kind). first_state x rate now) kind_is in
      ap (λ o. present_head (state_in o) e.head) N.is ∙ ap (λ x. present_head x e.head) state_is ∙ bare_kept e.head

  -- and so it stands as it grew
  pub new_stands : (web : Web) (numbers : List ℕ) (new : Trees) (rate : Rate) (now : ℕ) → Stands (get g.nodes) (get g.boards) b d (key ∷ []) new
      → ((n : Node) → get g.nodes key ≡ Some n → n.state ≡ first_state n.kind rate now) → AreMade new → IsNewBox new → KeepsTexts new
      → boxes_now web numbers (get g.nodes) (get g.boards) (key ∷ []) new ≡ new
  new_stands web numbers Done rate now S fresh made new keeps = refl
  new_stands web numbers (Leaf c rest) rate now S fresh made new keeps =
      let N = node_by (get g.nodes key) _ S.0 in
      let kind_is : N.node.kind ≡ c.kind = ap (λ (x : NodeSeen). x.cell.kind) N.seen in
      let state_is : N.node.state ≡ first_state c.kind rate now = fresh N.node N.is ∙ ap (λ (x : Kind). first_state x rate now) kind_is in
      ap (λ o. Leaf (cell_now (state_in o) c) rest) N.is
      ∙ ap (λ (x : Head). Leaf (cell_by c.head.form N.node.state c x) rest) (head_by c.head.form c rate now N.node refl made.0 kind_is state_is keeps)
      ∙ ap (λ (x : Cell). Leaf x rest) (cell_by_form c.head.form c rate now N.node made.0 kind_is state_is keeps)
  new_stands web numbers (Holder c s inner rest) rate now S fresh made new keeps =
      let N = node_by (get g.nodes key) _ S.2 in
      let inner_is : N.node.inner ≡ Some S.0 = ap (λ (x : NodeSeen). x.inner) N.seen in
      let js = keys_inside (get g.boards) (inner_in (get g.nodes key)) in
      let keys : js ≡ S.1 = ap (λ o. keys_inside (get g.boards) (inner_in o)) N.is ∙ ap (keys_inside (get g.boards)) inner_is ∙ seen_keys (get g.boards S.0) _ S.3 in
      holder_as_grown c.head.form c s inner web numbers js (get g.nodes) (get g.boards) rest new
      (λ q. keys ∙ no_boxes_keys (get g.nodes) (get g.boards) S.0 (d + 1) S.1 inner S.4 q)

  pub new_written : (new : Trees) (e : Entry) (rate : Rate) (now : ℕ) → Stands (get g.nodes) (get g.boards) b d (key ∷ []) new
      → ((n : Node) → get g.nodes key ≡ Some n → n.state ≡ first_state n.kind rate now) → AreMade new → IsNewBox new → KeepsTexts new
      → document_boxes new ≡ boxed (e ∷ []) → IsSavedAs (get g.boards) (get g.nodes key) e
  new_written new e rate now S fresh made is keeps document =
      subst (λ (h : Head). IsSavedAs (get g.boards) (get g.nodes key) (record { head = h; page = e.page }))
      (new_head new e rate now S fresh made keeps (same_head new e document)) (new_saved new e S is document)
