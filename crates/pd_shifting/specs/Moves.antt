-- A box that an edit moves in a canvas of the patch's own document.
use Rattle.std.proofs.Common.{inl, inr}
use Rattle.std.specs.Prelude.{◌≡◌, ◌⊎◌, ℕ, ℤ, Bool, true, false, ◌&&◌, ◌==◌, is_some, cond, List, slice_get, Option, Some, None, Result, Ok, Err}
use Rattle.slab.specs.Slab.{get}
use Rattle.pd_num.specs.Scale.{millionths, IsInRange}
use Rattle.pd_canvas.specs.Edits.{is_array}
use Rattle.pd_canvas.specs.Views.{entry_of}
use Rattle.pd_grove.specs.declared.grove.Grove.{Grove}
use Rattle.pd_grove.specs.declared.nodes.Node.{Node}
use Rattle.pd_grove.specs.declared.ports.Side.{Side}
use Rattle.pd_grove.specs.Forest.{holder_in}
use Rattle.pd_grove.specs.Owning.{board_in}
use Rattle.pd_grove.specs.OwnPaths.{sub_reached}
use Rattle.pd_grove.specs.Refits.{at_place, Alters}
use Rattle.pd_web.specs.Canvases.{keys_at}
use Rattle.pd_patch.specs.declared.patch.Patch.{Patch}
use Rattle.pd_wiring.specs.declared.refusals.EditRefusal.{EditRefusal}
use Rattle.pd_wiring.specs.declared.refusals.EditRefusal.TheVariants.{NoCanvas, NoBox, NoMemory}
use Rattle.pd_wiring.specs.Changes.{SameButRoom}
use Rattle.pd_boxes.specs.Put.{CanPut}
use Rattle.pd_sliding.specs.Sliding.{CanSlide, IsSlid}
use Rattle.pd_adding.specs.Standing.{is_port_in}
use Rattle.pd_shifting.specs.declared.shifting.MovedBox.{MovedBox}

-- whether a box is an array, which no edit moves
abbrev pub is_array_in : Option Node → Bool
is_array_in None = false
is_array_in (Some n) = is_array (entry_of n.element).head.form

-- whether a box of a canvas is a port of the box around
abbrev pub is_port_around : Grove → ℕ → ℕ → Bool
is_port_around g canvas key = is_some (holder_in (get g.boards canvas)) && is_port_in (get g.nodes key)

abbrev pub moving_box : Grove → ℕ → ℕ → Option ℕ → Result (ℕ × ℕ) EditRefusal
moving_box g canvas number None = Err (NoBox number)
moving_box g canvas number (Some key) = cond (is_array_in (get g.nodes key)) (Err (NoBox number)) (Ok (canvas, key))

abbrev pub moving_in : Grove → ℕ → Option ℕ → Result (ℕ × ℕ) EditRefusal
moving_in g number None = Err NoCanvas
moving_in g number (Some canvas) = moving_box g canvas number (slice_get (keys_at g canvas) number)

-- the keys of the canvas at a path of the patch's own document and of its box of a number, or the first reason why that can't move
abbrev pub moving : Patch → List ℕ → ℕ → Result (ℕ × ℕ) EditRefusal
moving p path number = moving_in p.grove number (sub_reached p.grove (Some p.grove.root) path)

-- all of a patch but its tree stays
pub record StaysButTree (old new : Patch) : Type 0 where
  pub web : new.web ≡ old.web
  pub names : new.names ≡ old.names
  pub timers : new.timers ≡ old.timers
  pub links : new.links ≡ old.links
  pub orders : new.orders ≡ old.orders
  pub numbers : new.numbers ≡ old.numbers
  pub values : new.values ≡ old.values
  pub rate : new.rate ≡ old.rate
  pub present : new.present ≡ old.present

-- a box that is no port of a box around stands at another place of its window; all else stays
pub record Shifts (old new : Patch) (canvas key : ℕ) (x y : ℤ) : Type 0 where
  pub plain : is_port_around old.grove canvas key ≡ false
  pub box : Alters old.grove new.grove key (at_place x y)
  pub rest : StaysButTree old new

-- a port box does, and the ports of the box around change places with it; all else stays, but that there is more room
pub record ShiftsPort (old new : Patch) (canvas key : ℕ) (x y : ℤ) : Type 0 where
  pub port : is_port_around old.grove canvas key ≡ true
  pub ready : Patch
  pub room : SameButRoom old ready
  pub holder : ℕ
  pub side : Side
  pub from : ℕ
  pub to : ℕ
  pub could : CanSlide ready key holder side from
  pub slid : IsSlid ready new key holder side x y from to

abbrev pub ShiftsBox : Patch → Patch → (canvas key : ℕ) → (x y : ℤ) → Type 0
ShiftsBox old new canvas key x y = Shifts old new canvas key x y ⊎ ShiftsPort old new canvas key x y

-- the canvas around, where ports of the box in it changed places
abbrev pub canvas_changed : (old new : Patch) (canvas key : ℕ) (x y : ℤ) → ShiftsBox old new canvas key x y → Option ℕ
canvas_changed old new canvas key x y (inl s) = None
canvas_changed old new canvas key x y (inr s) = cond (s.from == s.to) None (board_in (get old.grove.nodes s.holder))

-- the box of a number in the canvas at a path, which has this key, stands at this place of its window now, which numbers can tell
pub record MovesBox (old new : Patch) (path : List ℕ) (number : ℕ) (x y : ℤ) (b : MovedBox) : Type 0 where
  pub is : moving old path number ≡ Ok (b.canvas, b.key)
  pub shifts : ShiftsBox old new b.canvas b.key x y
  pub around : b.around ≡ canvas_changed old new b.canvas b.key x y shifts
  pub x_told : IsInRange millionths x
  pub y_told : IsInRange millionths y

-- it is a port of a box around, and memory was wanting
pub record IsShortOfRoom (old new : Patch) (path : List ℕ) (number : ℕ) : Type 0 where
  pub canvas : ℕ
  pub key : ℕ
  pub is : moving old path number ≡ Ok (canvas, key)
  pub port : is_port_around old.grove canvas key ≡ true
  pub room : SameButRoom old new
  pub goes_on : CanPut new

-- it is refused for this, and the patch stays; or memory was wanting, and there may be more room
abbrev pub IsNotMoved : Patch → Patch → List ℕ → ℕ → EditRefusal → Type 0
IsNotMoved old new path number why = ((new ≡ old) × (moving old path number ≡ Err why)) ⊎ ((why ≡ NoMemory) × IsShortOfRoom old new path number)
