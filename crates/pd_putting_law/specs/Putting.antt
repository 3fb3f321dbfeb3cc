-- A running patch with one box more in a canvas of its document.
use Rattle.std.specs.Prelude.{◌≡◌, ◌≤◌, ℕ, true, false, List, [], ◌∷◌, ◌++◌, take, drop, length, Option, Some, None, IsSome}
use Rattle.slab.specs.Slab.{get}
use Rattle.pd_clock.specs.declared.times.Rate.{Rate}
use Rattle.pd_atom.specs.declared.Atom.TheVariants.{Symbol}
use Rattle.pd_object.specs.declared.kinds.Kind.TheVariants as kind
use Rattle.pd_object.specs.declared.kinds.Panel.TheVariants as panel
use Rattle.pd_object.specs.declared.kinds.Toggle.{Toggle}
use Rattle.pd_kind.specs.declared.states.State.{State}
use Rattle.pd_kind.specs.States.{or_one, start_of}
use Rattle.pd_kind.specs.Tables.{started}
use Rattle.pd_canvas.specs.declared.edits.Edit.{Edit}
use Rattle.pd_canvas.specs.declared.edits.Edit.TheVariants as edit
use Rattle.pd_canvas.specs.Pages.{Shape, Msg, Comment, FloatBox, SymbolBox, Sub, Entry, Page, End, page_of, empty_page}
use Rattle.pd_canvas.specs.Edits.{element, object, pd}
use Rattle.pd_canvas.specs.Proper.{HoldsNone}
use Rattle.pd_canvas.specs.Views.{entry_of}
use Rattle.pd_tree.specs.declared.rows.Sheet.{Sheet}
use Rattle.pd_tree.specs.Trees.{Cell, Trees, Done, Leaf, Holder, frame_in}
use Rattle.pd_grove.specs.declared.nodes.Node.{Node}
use Rattle.pd_grove.specs.declared.boards.Board.{Board}
use Rattle.pd_grove.specs.declared.grove.Grove.{Grove}
use Rattle.pd_grove.specs.Forest.{IsForest}
use Rattle.pd_grove.specs.Grafts.{HasPartMore}
use Rattle.pd_grove.specs.OwnPaths.{sub_reached}
use Rattle.pd_grove.specs.TextOrder.{is_sub}
use Rattle.pd_web.specs.declared.web.Web.{Web}
use Rattle.pd_web.specs.Canvases.{keys_at}
use Rattle.pd_web.specs.Hops.{fan_hops}
use Rattle.pd_present.specs.Contents.{present_head}
use Rattle.pd_regrowth_law.specs.Filling.{last_two}
use Rattle.pd_regrowth_law.specs.Rewiring.{with_wires}
use Rattle.pd_reload_law.specs.Wires.{AreNumbered, StayAmong}

-- The canvas to which a path leads through subpatches has one box more, with all that lies in it. It has this number, and those that had this number
-- and higher ones have the next; all else stays.
pub record HasBoxAt (g h : Grove) (path : List ℕ) (canvas key number : ℕ) : Type 0 where
  pub forest : IsForest (get g.nodes) (get g.boards) g.root
  pub leads : sub_reached g (Some g.root) path ≡ Some canvas
  pub part : HasPartMore (get g.nodes) (get h.nodes) (get g.boards) (get h.boards) canvas key (take number (keys_at g canvas)) (drop number (keys_at g canvas))
  pub within : number ≤ length (keys_at g canvas)
  pub root : h.root ≡ g.root

-- The canvas to which a path leads through subpatches has one box more, its last one, with all that lies in it; all else stays.
pub record HasBoxLast (g h : Grove) (path : List ℕ) (canvas key : ℕ) : Type 0 where
  pub forest : IsForest (get g.nodes) (get g.boards) g.root
  pub leads : sub_reached g (Some g.root) path ≡ Some canvas
  pub part : HasPartMore (get g.nodes) (get h.nodes) (get g.boards) (get h.boards) canvas key (keys_at g canvas) []
  pub root : h.root ≡ g.root

-- The wires of the boxes that were there stay, in their canvases, and none leaves the box that came. Under the key of each box stands its number.
pub record KeepsWires (g h : Grove) (w w' : Web) (numbers numbers' : List ℕ) (key : ℕ) : Type 0 where
  pub inside : (c : ℕ) → StayAmong w (keys_at g c)
  pub fans : (k outlet : ℕ) → IsSome (get g.nodes k) → fan_hops w' k outlet ≡ fan_hops w k outlet
  pub bare : (outlet : ℕ) → fan_hops w' key outlet ≡ []
  pub numbered : (c : ℕ) → AreNumbered numbers (keys_at g c)
  pub renumbered : (c : ℕ) → AreNumbered numbers' (keys_at h c)

-- the boxes that came keep what their kinds keep at first
abbrev pub ComeFresh : Rate → ℕ → (ℕ → Option Node) → (ℕ → Option Node) → Type 0
ComeFresh rate now nodes nodes' =
    (k : ℕ) (n : Node) → nodes k ≡ None → nodes' k ≡ Some n → n.state ≡ Some (started (start_of n.kind rate) now)

-- a canvas without boxes and wires, as a document has it
abbrev pub empty_canvas : Sheet → Page
empty_canvas s = page_of (frame_in (with_wires [] s)) End

-- the canvas in a box has no boxes, and a document has it as this page
pub record HoldsNoBoxes (boards : ℕ → Option Board) (inner : Option ℕ) (p : Page) : Type 0 where
  pub key : ℕ
  pub board : Board
  pub held : inner ≡ Some key
  pub is : boards key ≡ Some board
  pub bare : board.nodes.items ≡ []
  pub page : p ≡ empty_canvas board.sheet

-- what a document has of the canvas in a new box: of a subpatch this page without boxes, and of other boxes none
abbrev pub HoldsPage : Shape → (ℕ → Option Board) → Option ℕ → Page → Type 0
HoldsPage Sub boards inner p = HoldsNoBoxes boards inner p
HoldsPage form boards inner p = p ≡ empty_page

-- a box, which is an empty subpatch or none, is saved as this element
pub record IsSavedAs (boards : ℕ → Option Board) (o : Option Node) (e : Entry) : Type 0 where
  pub node : Node
  pub is : o ≡ Some node
  pub head : present_head node.state (entry_of node.element).head ≡ e.head
  pub holds : HoldsPage (entry_of node.element).head.form boards node.inner e.page

-- the element that an edit puts last into a canvas
abbrev pub element_put : Edit → Option Entry
element_put (edit.Obj x y text) = Some (object x y text)
element_put (edit.Msg x y text) = Some (element Msg empty_page x y text)
element_put (edit.Comment x y text) = Some (element Comment empty_page x y text)
element_put (edit.FloatBox x y text) = Some (element FloatBox empty_page x y text)
element_put (edit.SymbolBox x y text) = Some (element SymbolBox empty_page x y text)
element_put (edit.Sub x y name) = Some (object x y (Symbol pd ∷ name))
element_put _ = None

-- A toggle whose text is whole is written with the values that it keeps at first: its value, and its other value, which isn't 0.
pub record IsWrittenAsKept (c : Cell) (t : Toggle) : Type 0 where
  pub other : or_one t.other ≡ t.other
  pub head : take 13 c.head.text ++ last_two t.value t.other ≡ c.head.text
  pub text : take 13 c.text ++ last_two t.value t.other ≡ c.text
  pub fault : c.fault ≡ None

-- what a box keeps at first leaves its text
abbrev pub KeepsText : Cell → Type 0
KeepsText c = (t : Toggle) → c.kind ≡ kind.Panel (panel.Tgl t) → t.is_whole ≡ true → IsWrittenAsKept c t

-- a subpatch has no boxes and no wires; an abstraction may have any
abbrev pub IsNewHolder : Shape → Sheet → Trees → Type 0
IsNewHolder Sub s inner = (s.wires ≡ []) × (inner ≡ Done)
IsNewHolder form s inner = Unit {0}

-- one box: one without a canvas, an abstraction, or an empty subpatch
abbrev pub IsNewBox : Trees → Type 0
IsNewBox Done = ⊥
IsNewBox (Leaf c rest) = is_sub c.head.form ≡ false
IsNewBox (Holder c s inner rest) = IsNewHolder c.head.form s inner

-- what such a box keeps at first leaves its text
abbrev pub KeepsTexts : Trees → Type 0
KeepsTexts (Leaf c rest) = KeepsText c
KeepsTexts t = Unit {0}

-- an element with what its box keeps of it
abbrev pub entry_kept : Option State → Entry → Entry
entry_kept s e = record { head = present_head s e.head; page = e.page }

-- an element that holds no boxes and no wires
pub record IsBare (e : Entry) : Type 0 where
  pub boxes : e.page.boxes ≡ End
  pub wires : e.page.wires ≡ []
  pub holds : HoldsNone e.head.form e.page
