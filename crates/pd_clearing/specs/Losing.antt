-- The wires at some boxes of a running patch go, one after the other.
use Rattle.std.specs.Prelude.{◌≡◌, ◌≢◌, ◌≤◌, ◌+◌, ◌⊎◌, ℕ, Bool, false, not, List, [], ◌∷◌, filter, length, Some, None, IsTrue}
use Rattle.slab.specs.Slab.{get}
use Rattle.pd_grove.specs.Owning.{board_in}
use Rattle.pd_owning.specs.Bound.{is_among}
use Rattle.pd_web.specs.declared.lines.Line.{Line}
use Rattle.pd_web.specs.declared.web.Hop.{Hop}
use Rattle.pd_web.specs.Changes.{line_told, wires_told, KeepsPorts, KeepsRoom, Meet}
use Rattle.pd_web.specs.Hops.{fan_hops, feed_hops}
use Rattle.pd_ports.specs.Boxes.{HasNoWires}
use Rattle.pd_patch.specs.declared.patch.Patch.{Patch}
use Rattle.pd_patch.specs.Telling.{order_in}
use Rattle.pd_wiring.specs.Changes.{CanRewire, StaysBuilt}
use Rattle.pd_wiring.specs.Plans.{Detaches, Detached, most_looks}
use Rattle.pd_taking.specs.Loosening.{IsAt}

-- a wire that went: its key, the canvas in which it led, the line along which it led, and the patch that had it
pub record Lost : Type 0 where
  pub key : ℕ
  pub canvas : ℕ
  pub line : Line
  pub before : Patch

-- the line leads from one of these boxes or to one
abbrev pub IsAtOne : List ℕ → Line → Type 0
IsAtOne part l = IsTrue (is_among part l.source) ⊎ IsTrue (is_among part l.sink)

-- the patch is the one before without the wire, which was one at one of these boxes, in that box's canvas
pub record Loses (part : List ℕ) (x : Lost) (after : Patch) : Type 0 where
  pub box : ℕ
  pub among : IsTrue (is_among part box)
  pub at : IsAt box x.line
  pub home : board_in (get x.before.grove.nodes box) ≡ Some x.canvas
  pub told : line_told x.before.web x.key ≡ Some x.line
  pub done : Detached x.before after x.key x.line

-- wires at these boxes went one after the other; the list has the last of them first
abbrev pub AreLost : List ℕ → Patch → List Lost → Patch → Type 0
AreLost part p [] q = q ≡ p
AreLost part p (x ∷ xs) q = Loses part x q × AreLost part p xs x.before

-- the most signal wires at which mending the orders of their canvases looks for them
abbrev pub looks_for_all : List Lost → Patch → ℕ
looks_for_all [] q = 0
looks_for_all (x ∷ xs) q = most_looks (Detaches x.canvas x.key x.line) x.before q + looks_for_all xs x.before

-- the port at the other end of the wire is that of none of these boxes
abbrev pub is_of_none : List ℕ → Hop → Bool
is_of_none part h = not (is_among part h.node)

-- what stays where wires at these boxes went: all but wires, links and the orders of their canvases
pub record StaysButWires (p q : Patch) (part : List ℕ) : Type 0 where
  pub grove : q.grove ≡ p.grove
  pub names : q.names ≡ p.names
  pub timers : q.timers ≡ p.timers
  pub numbers : q.numbers ≡ p.numbers
  pub values : q.values ≡ p.values
  pub rate : q.rate ≡ p.rate
  pub present : q.present ≡ p.present
  pub orders : (c : ℕ) → ((k : ℕ) → IsTrue (is_among part k) → board_in (get p.grove.nodes k) ≢ Some c) → order_in q.orders.items c ≡ order_in p.orders.items c

-- Of the wires at these boxes, those at some of them are all gone, and no wire between others is.
pub record LoosensAll (p q : Patch) (part done : List ℕ) (steps steps' : ℕ) : Type 0 where
  pub lost : List Lost
  pub one_by_one : AreLost part p lost q
  pub looks : steps' ≤ steps + looks_for_all lost q
  pub count : wires_told q.web + length lost ≡ wires_told p.web
  pub bare : (k : ℕ) → IsTrue (is_among done k) → HasNoWires q.web k
  pub fans : (k outlet : ℕ) → is_among part k ≡ false → filter (is_of_none part) (fan_hops q.web k outlet) ≡ filter (is_of_none part) (fan_hops p.web k outlet)
  pub feeds : (k inlet : ℕ) → is_among part k ≡ false → filter (is_of_none part) (feed_hops q.web k inlet) ≡ filter (is_of_none part) (feed_hops p.web k inlet)
  pub other_lines : (k : ℕ) (l : Line) → (IsAtOne part l → ⊥) → line_told p.web k ≡ Some l → line_told q.web k ≡ Some l
  pub none_comes : (k : ℕ) → line_told p.web k ≡ None → line_told q.web k ≡ None
  pub kept : KeepsPorts p.web q.web
  pub room : KeepsRoom p.web q.web
  pub meet : Meet q.web
  pub rest : StaysButWires p q part
  pub rewires : CanRewire q
  pub built : StaysBuilt p q
