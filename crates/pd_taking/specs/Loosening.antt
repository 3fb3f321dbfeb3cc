-- The wires at a box of a running patch go, one after the other.
use Rattle.std.specs.Prelude.{◌≡◌, ◌≢◌, ◌≤◌, ◌+◌, ◌==◌, ◌⊎◌, ℕ, Bool, not, List, [], ◌∷◌, filter, length, slice_get, Some, None}
use Rattle.slab.specs.Slab.{get}
use Rattle.pd_grove.specs.Owning.{board_in}
use Rattle.pd_grove.specs.declared.ports.Side.{Side}
use Rattle.pd_grove.specs.declared.ports.Side.TheVariants.{Inlets, Outlets}
use Rattle.pd_web.specs.declared.lines.Line.{Line}
use Rattle.pd_web.specs.declared.web.Hop.{Hop}
use Rattle.pd_web.specs.declared.web.Web.{Web}
use Rattle.pd_web.specs.Hops.{fan_hops, feed_hops}
use Rattle.pd_web.specs.Changes.{line_told, wires_told, IsListed, KeepsPorts, KeepsRoom, Meet}
use Rattle.pd_ports.specs.Boxes.{HasNoWires}
use Rattle.pd_patch.specs.declared.patch.Patch.{Patch}
use Rattle.pd_wiring.specs.Changes.{CanRewire, StaysButWire, StaysBuilt}
use Rattle.pd_wiring.specs.Plans.{Detaches, Detached, most_looks}

-- the wires at a port of a box, each with the port at its other end
abbrev pub hops_at : Web → Side → ℕ → ℕ → List Hop
hops_at w Inlets box port = feed_hops w box port
hops_at w Outlets box port = fan_hops w box port

-- the line of a wire at a port of a box
abbrev pub line_at : Side → ℕ → ℕ → Hop → Line
line_at Inlets box port h = record { source = h.node; outlet = h.port; sink = box; inlet = port }
line_at Outlets box port h = record { source = box; outlet = port; sink = h.node; inlet = h.port }

-- the line leads from the box or to it
abbrev pub IsAt : ℕ → Line → Type 0
IsAt box l = (l.source ≡ box) ⊎ (l.sink ≡ box)

-- the port at the other end of the wire is none of the box
abbrev pub is_of_other : ℕ → Hop → Bool
is_of_other box h = not (h.node == box)

-- a wire that went: its key, the line along which it led, and the patch that had it
pub record Gone : Type 0 where
  pub key : ℕ
  pub line : Line
  pub before : Patch

-- the patch is the one before without the wire, which was one at the box
pub record Goes (box : ℕ) (x : Gone) (after : Patch) : Type 0 where
  pub at : IsAt box x.line
  pub told : line_told x.before.web x.key ≡ Some x.line
  pub done : Detached x.before after x.key x.line

-- wires at the box went one after the other; the list has the last of them first
abbrev pub AreGone : ℕ → Patch → List Gone → Patch → Type 0
AreGone box p [] q = q ≡ p
AreGone box p (x ∷ xs) q = Goes box x q × AreGone box p xs x.before

-- the most signal wires at which mending the order of a canvas looks for them
abbrev pub looks_for : ℕ → List Gone → Patch → ℕ
looks_for c [] q = 0
looks_for c (x ∷ xs) q = most_looks (Detaches c x.key x.line) x.before q + looks_for c xs x.before

-- Of the wires of a web some at a box are gone, and no others: each list has the wires between other boxes as it had them, what is gone is
-- no wire any more, and no wire came.
pub record LosesSome (w w' : Web) (box : ℕ) : Type 0 where
  pub fans : (node outlet : ℕ) → node ≢ box → filter (is_of_other box) (fan_hops w' node outlet) ≡ filter (is_of_other box) (fan_hops w node outlet)
  pub feeds : (node inlet : ℕ) → node ≢ box → filter (is_of_other box) (feed_hops w' node inlet) ≡ filter (is_of_other box) (feed_hops w node inlet)
  pub fewer : (side : Side) (port : ℕ) → hops_at w side box port ≡ [] → hops_at w' side box port ≡ []
  pub lines : (node outlet i : ℕ) (h : Hop) → slice_get (fan_hops w node outlet) i ≡ Some h → IsListed (fan_hops w' node outlet) h ⊎ (line_told w' h.key ≡ None)
  pub other_lines : (k : ℕ) (l : Line) → (IsAt box l → ⊥) → line_told w k ≡ Some l → line_told w' k ≡ Some l
  pub none_comes : (k : ℕ) → line_told w k ≡ None → line_told w' k ≡ None
  pub kept : KeepsPorts w w'
  pub room : KeepsRoom w w'
  pub meet : Meet w'

-- some wires at a box went, and all else of the patch stays but links and the order of the box's canvas
pub record Loosens (p q : Patch) (box steps steps' : ℕ) : Type 0 where
  pub gone : List Gone
  pub one_by_one : AreGone box p gone q
  pub looks : (c : ℕ) → board_in (get p.grove.nodes box) ≡ Some c → steps' ≤ steps + looks_for c gone q
  pub count : wires_told q.web + length gone ≡ wires_told p.web
  pub web : LosesSome p.web q.web box
  pub rest : StaysButWire p q box
  pub rewires : CanRewire q
  pub built : StaysBuilt p q

-- All wires at a box are gone: every other box has the wires that it had to others, in their order and under their keys, and no wire came.
pub record LosesWires (w w' : Web) (box : ℕ) : Type 0 where
  pub bare : HasNoWires w' box
  pub fans : (node outlet : ℕ) → node ≢ box → fan_hops w' node outlet ≡ filter (is_of_other box) (fan_hops w node outlet)
  pub feeds : (node inlet : ℕ) → node ≢ box → feed_hops w' node inlet ≡ filter (is_of_other box) (feed_hops w node inlet)
  pub gone : (outlet i : ℕ) (h : Hop) → slice_get (fan_hops w box outlet) i ≡ Some h → line_told w' h.key ≡ None
  pub gone_to : (inlet i : ℕ) (h : Hop) → slice_get (feed_hops w box inlet) i ≡ Some h → line_told w' h.key ≡ None
  pub other_lines : (k : ℕ) (l : Line) → (IsAt box l → ⊥) → line_told w k ≡ Some l → line_told w' k ≡ Some l
  pub none_comes : (k : ℕ) → line_told w k ≡ None → line_told w' k ≡ None
  pub kept : KeepsPorts w w'
  pub room : KeepsRoom w w'
  pub meet : Meet w'
