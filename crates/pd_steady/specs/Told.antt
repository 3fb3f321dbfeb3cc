-- The boxes that a line tells.
use Rattle.std.specs.Prelude.{◌≡◌, ℕ, ℤ, List, map, Some, option_and_then}
use Rattle.std.specs.List.{AllByRecursion}
use Rattle.pd_atom.specs.declared.Atom.{Atom}
use Rattle.pd_canvas.specs.declared.edits.Edit.{Edit}
use Rattle.pd_order.specs.Listing.{Listing}
use Rattle.pd_patch.specs.declared.patch.Patch.{Patch}
use Rattle.pd_patch.specs.declared.report.Remark.{Remark}
use Rattle.pd_patch.specs.declared.report.Remark.TheVariants.{Loop}
use Rattle.pd_patch.specs.Report.{notices_in}
use Rattle.pd_patch.specs.Telling.{order_in, number_in}
use Rattle.pd_patch.specs.Values.{stuck_in}
use Rattle.pd_hearing.specs.Worlds.{Net, net_of}
use Rattle.pd_stage.specs.Choices.{Made}
use Rattle.pd_stage.specs.Lawful.{IsMade, IsPutIn, IsTakenOut, IsMovedTo, IsRetypedTo}
use Rattle.pd_stage.specs.Lines.{numbers_told, canvas_of_port, canvases_within}
use Rattle.pd_stage.specs.Stages.{Stage}
use Rattle.pd_engine.specs.Commands.{led_to}

-- the numbers of these boxes, however many they are
abbrev pub all_numbers : Net → List ℕ → List ℕ
all_numbers net boxes = map (number_in net.numbers.items) boxes

-- the lines of an order tell all its boxes
pub record TellsAll (net : Net) (o : Listing) : Type 0 where
  pub chain : numbers_told net o.chain ≡ all_numbers net o.chain
  pub stuck : numbers_told net o.stuck ≡ all_numbers net o.stuck

-- the lines of the order of each canvas to which a path leads do
abbrev pub TellsOrders : Stage → Type 0
TellsOrders s = (path : List ℕ) (o : Listing) → option_and_then (λ c. order_in s.net.orders.items c) (led_to s.net (Some s.net.root) path) ≡ Some o → TellsAll s.net o

-- the line of a signal loop tells all boxes of its canvas that are stuck; other lines tell no numbers of boxes
abbrev pub TellsLoop : Patch → Remark → Type 0
TellsLoop p (Loop canvas) = numbers_told (net_of p) (stuck_in p canvas) ≡ all_numbers (net_of p) (stuck_in p canvas)
TellsLoop p r = Unit {0}

-- the lines of growth do
abbrev pub GrowthTellsLoops : Patch → Type 0
GrowthTellsLoops p = AllByRecursion (TellsLoop p) (notices_in p.grove p.web p.orders.items)

-- the line of a loop of its canvas that an edit tells at a stage does, and so do that of a loop of the canvas around where it puts, takes or moves a
-- port, and those of loops of the canvases in the box that it puts
pub record EditsTellLoops (s : Stage) : Type 0 where
  pub rewired : (path : List ℕ) (e : Edit) (m : Made) → (made : IsMade s path e m) → TellsLoop made.new (Loop made.canvas)
  pub put : (path : List ℕ) (e : Edit) (m : Made) → (made : IsPutIn s path e m) → TellsLoop made.new (Loop made.box.canvas)
  pub around : (path : List ℕ) (e : Edit) (m : Made) (canvas : ℕ) → (made : IsPutIn s path e m) → canvas_of_port made.new made.box.key made.box.canvas ≡ Some canvas
      → TellsLoop made.new (Loop canvas)
  pub within : (path : List ℕ) (e : Edit) (m : Made) → (made : IsPutIn s path e m) → AllByRecursion (λ c. TellsLoop made.new (Loop c)) (canvases_within made.new made.box.key)
  pub taken : (path : List ℕ) (number : ℕ) (m : Made) → (made : IsTakenOut s path number m) → TellsLoop made.new (Loop made.box.canvas)
  pub taken_around : (path : List ℕ) (number : ℕ) (m : Made) (canvas : ℕ) → (made : IsTakenOut s path number m) → made.box.around ≡ Some canvas → TellsLoop made.new (Loop canvas)
  pub moved : (path : List ℕ) (number : ℕ) (x y : ℤ) (m : Made) → (made : IsMovedTo s path number x y m) → TellsLoop made.new (Loop made.box.canvas)
  pub moved_around : (path : List ℕ) (number : ℕ) (x y : ℤ) (m : Made) (canvas : ℕ) → (made : IsMovedTo s path number x y m) → made.box.around ≡ Some canvas → TellsLoop made.new (Loop canvas)
  pub retyped : (path : List ℕ) (number : ℕ) (text : List Atom) (m : Made) → (made : IsRetypedTo s path number text m) → TellsLoop made.new (Loop made.box.canvas)
