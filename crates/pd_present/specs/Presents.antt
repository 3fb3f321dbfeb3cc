-- The document of a running patch as it stands.
use Rattle.std.specs.Prelude.{ℕ, zero, suc, pos, List, [], ◌∷◌, map, length, slice_get, Option, Some, None, option_map}
use Rattle.std.specs.List.{flat_map, range_with_len}
use Rattle.std.specs.Option.{option_map_or}
use Rattle.slab.specs.Slab.{get}
use Rattle.pd_canvas.specs.declared.wires.Wire.{Wire}
use Rattle.pd_canvas.specs.Pages.{Shape, Obj, Msg, Comment, FloatBox, SymbolBox, Sub, Array, Other, Head, Entry, Page, boxed, empty_page}
use Rattle.pd_canvas.specs.Views.{entry_of}
use Rattle.pd_tree.specs.declared.rows.Sheet.{Sheet}
use Rattle.pd_grove.specs.declared.nodes.Node.{Node}
use Rattle.pd_grove.specs.declared.boards.Board.{Board}
use Rattle.pd_grove.specs.declared.grove.Grove.{Grove}
use Rattle.pd_grove.specs.declared.ports.Side.TheVariants.{Outlets}
use Rattle.pd_web.specs.declared.web.Web.{Web}
use Rattle.pd_web.specs.declared.web.Hop.{Hop}
use Rattle.pd_web.specs.Hops.{fan_hops, ports_told}
use Rattle.pd_present.specs.Contents.{present_head}

-- the number under the key of a box
abbrev pub number_in : List ℕ → ℕ → ℕ
number_in numbers key = option_map_or (λ n. n) (slice_get numbers key) 0

-- a wire from an outlet of a box, by the numbers of the boxes
abbrev pub wire_along : List ℕ → ℕ → ℕ → Hop → Wire
wire_along numbers key outlet hop =
    record { source = number_in numbers key; outlet = outlet; sink = number_in numbers hop.node; inlet = hop.port }

abbrev pub outlet_wires : Web → List ℕ → ℕ → ℕ → List Wire
outlet_wires web numbers key outlet = map (wire_along numbers key outlet) (fan_hops web key outlet)

-- the wires that leave a box, outlet by outlet
abbrev pub box_wires : Web → List ℕ → ℕ → List Wire
box_wires web numbers key = flat_map (outlet_wires web numbers key) (range_with_len 0 (length (ports_told web Outlets key)))

-- the wires that leave boxes, box by box
abbrev pub wires_among : Web → List ℕ → List ℕ → List Wire
wires_among web numbers keys = flat_map (box_wires web numbers) keys

abbrev pub blank_head : Head
blank_head = record { x = pos 0; y = pos 0; form = Comment; text = []; width = None; tail = [] }

abbrev pub blank_entry : Entry
blank_entry = record { head = blank_head; page = empty_page }

-- a subpatch holds its canvas, and other boxes none
abbrev pub held_in : Shape → Page → Page
held_in Sub inner = inner
held_in f inner = empty_page

-- the canvas in a box
abbrev pub page_inside : (ℕ → Page) → Option ℕ → Page
page_inside inside None = empty_page
page_inside inside (Some canvas) = inside canvas

abbrev pub entry_at : (ℕ → Page) → Option Node → Entry
entry_at inside None = blank_entry
entry_at inside (Some n) = record {
  head = present_head n.state (entry_of n.element).head;
  page = held_in (entry_of n.element).head.form (page_inside inside n.inner);
}

abbrev pub page_on : Web → List ℕ → (ℕ → Option Node) → (ℕ → Page) → Option Board → Page
page_on web numbers nodes inside None = empty_page
page_on web numbers nodes inside (Some b) = record {
  header = b.sheet.header;
  kept = b.sheet.kept;
  boxes = boxed (map (λ k. entry_at inside (nodes k)) b.nodes.items);
  wires = wires_among web numbers b.nodes.items;
  coords = b.sheet.coords;
}

-- The canvas of a key with all in it, where so many canvases may lie in one another.
unfoldable pub page_within : Web → List ℕ → (ℕ → Option Node) → (ℕ → Option Board) → ℕ → ℕ → Page
page_within web numbers nodes boards zero canvas = empty_page
page_within web numbers nodes boards (suc n) canvas = page_on web numbers nodes (page_within web numbers nodes boards n) (boards canvas)

-- the document of a running patch: with the root 257 canvases may lie in one another
abbrev pub present_page : Grove → Web → List ℕ → Page
present_page g web numbers = page_within web numbers (get g.nodes) (get g.boards) 257 g.root

-- a box of it with what it holds: with the box's own canvas 257 may lie in one another
abbrev pub present_entry : Grove → Web → List ℕ → ℕ → Entry
present_entry g web numbers key = entry_at (page_within web numbers (get g.nodes) (get g.boards) 256) (get g.nodes key)
