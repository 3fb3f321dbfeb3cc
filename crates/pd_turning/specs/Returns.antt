-- Wires at a box that were taken out of a running patch come back where they were, one after the other.
use Rattle.std.specs.Prelude.{◌≡◌, ◌≤◌, ◌+◌, ℕ, true, List, [], ◌∷◌, length, slice_get, Some}
use Rattle.slab.specs.Slab.{get}
use Rattle.pd_grove.specs.Owning.{board_in}
use Rattle.pd_web.specs.declared.lines.Line.{Line}
use Rattle.pd_web.specs.declared.web.Hop.{Hop}
use Rattle.pd_web.specs.declared.web.Web.{Web}
use Rattle.pd_web.specs.Hops.{fan_hops, feed_hops, places_of}
use Rattle.pd_web.specs.Changes.{wires_told, Joins, KeepsPorts, Meet}
use Rattle.pd_seek.specs.Places.{IsPlace}
use Rattle.pd_moving.specs.Orders.{AreAllInOrder}
use Rattle.pd_patch.specs.declared.patch.Patch.{Patch}
use Rattle.pd_web.specs.Lines.{IsRoute}
use Rattle.pd_patch.specs.Linked.{ShareCanvas}
use Rattle.pd_wiring.specs.Changes.{CanRewire, StaysButWire, StaysBuilt}
use Rattle.pd_wiring.specs.Plans.{Attaches, most_looks}
use Rattle.pd_taking.specs.Loosening.{IsAt}
use Rattle.pd_misfits.specs.declared.wires.BoxWire.{BoxWire}
use Rattle.pd_misfits.specs.Shedding.{is_left, AreWiresAt, IsWired, Sheds}
use Rattle.pd_turning.specs.declared.noting.NotedWire.{NotedWire}
use Rattle.pd_turning.specs.Notes.{notes_of, FollowFans, StandOnce}
use Rattle.pd_turning.specs.Room.{TakesBack}

-- a wire that came back: its key, the line along which it leads, and the patch that lacked it
pub record Back : Type 0 where
  pub key : ℕ
  pub line : Line
  pub before : Patch

-- the patch is the one before with the wire, which is one at the box, at a place of its fan-out and at its place among the feeds
pub record Comes (box : ℕ) (x : Back) (after : Patch) : Type 0 where
  pub at : IsAt box x.line
  pub fan_place : ℕ
  pub place : ℕ
  pub is_place : IsPlace x.before.numbers.items x.line (feed_hops x.before.web x.line.sink x.line.inlet) place
  pub joins : Joins x.before.web after.web x.key x.line fan_place place
  pub rest : StaysButWire x.before after x.line.source
  pub rewires : CanRewire after
  pub built : StaysBuilt x.before after

-- wires at the box came one after the other; the list has the last of them first
abbrev pub AreBack : ℕ → Patch → List Back → Patch → Type 0
AreBack box p [] q = q ≡ p
AreBack box p (x ∷ xs) q = Comes box x q × AreBack box p xs x.before

-- the most signal wires at which mending the order of a canvas looks for them
abbrev pub looks_back : ℕ → List Back → Patch → ℕ
looks_back c [] q = 0
looks_back c (x ∷ xs) q = most_looks (Attaches c x.line) x.before q + looks_back c xs x.before

-- some wires at a box came, and all else of the patch stays but links and the order of the box's canvas
pub record Tightens (p q : Patch) (box steps steps' : ℕ) : Type 0 where
  pub back : List Back
  pub one_by_one : AreBack box p back q
  pub looks : (c : ℕ) → board_in (get p.grove.nodes box) ≡ Some c → steps' ≤ steps + looks_back c back q
  pub count : wires_told q.web ≡ wires_told p.web + length back
  pub rest : StaysButWire p q box
  pub rewires : CanRewire q
  pub built : StaysBuilt p q

-- Each outlet has the wires that it had in the web `w`, in their order: those of the list came back under new keys, and every other one has its own.
pub record Restores (w w' : Web) (ms : List BoxWire) : Type 0 where
  pub places : (node outlet : ℕ) → places_of (fan_hops w' node outlet) ≡ places_of (fan_hops w node outlet)
  pub keys : (node outlet i : ℕ) (h : Hop) → slice_get (fan_hops w node outlet) i ≡ Some h → is_left ms h ≡ true → slice_get (fan_hops w' node outlet) i ≡ Some h

-- wires that the web `w` had came back where they were, and feeds that were in order are
pub record PutsBack (w : Web) (p q : Patch) (box : ℕ) (ms : List BoxWire) (steps steps' : ℕ) : Type 0 where
  pub tightens : Tightens p q box steps steps'
  pub as_many : length tightens.back ≡ length ms
  pub restores : Restores w q.web ms
  pub kept : KeepsPorts p.web q.web
  pub in_order : AreAllInOrder p.numbers.items p.web → AreAllInOrder q.numbers.items q.web
  pub meet : Meet q.web

-- Some wires at a box that the web `w` had are out, and no others; they were noted there, their ports are still there in one canvas, and room for them is set aside.
pub record CanReturn (w : Web) (p : Patch) (box : ℕ) (ms : List BoxWire) (notes : List NotedWire) : Type 0 where
  pub wires : AreWiresAt w box ms
  pub order : FollowFans w ms
  pub wired : IsWired w
  pub once : StandOnce w
  pub noted : notes ≡ notes_of w ms
  pub out : Sheds w p.web ms
  pub runs : CanRewire p
  pub meet : Meet p.web
  pub routes : (i : ℕ) (m : BoxWire) → slice_get ms i ≡ Some m → IsRoute p.web.sockets.items m.line
  pub together : (i : ℕ) (m : BoxWire) → slice_get ms i ≡ Some m → ShareCanvas p.grove m.line.source m.line.sink
  pub room : TakesBack p ms
