-- Before which wire of its fan-out each of some wires stands.
use Rattle.std.specs.Prelude.{◌≡◌, ◌≤◌, ◌+◌, ◌==◌, ℕ, cond, List, [], ◌∷◌, map, slice_get, Option, Some, None, vec_capacity}
use Rattle.std.specs.declared.vec.Vec.{Vec}
use Rattle.std.specs.declared.alloc.Global.{Global}
use Rattle.pd_web.specs.declared.web.Hop.{Hop}
use Rattle.pd_web.specs.declared.web.Web.{Web}
use Rattle.pd_web.specs.Hops.{fan_hops}
use Rattle.pd_misfits.specs.declared.wires.BoxWire.{BoxWire}
use Rattle.pd_misfits.specs.Shedding.{is_left}
use Rattle.pd_turning.specs.declared.noting.NotedWire.{NotedWire}

-- the wires behind the one of this key
abbrev pub behind : ℕ → List Hop → List Hop
behind key [] = []
behind key (h ∷ hs) = cond (h.key == key) hs (behind key hs)

-- the first that is none of the list
abbrev pub first_left : List BoxWire → List Hop → Option ℕ
first_left ms [] = None
first_left ms (h ∷ hs) = cond (is_left ms h) (Some h.key) (first_left ms hs)

-- the first that is one of the list
abbrev pub first_of : List BoxWire → List Hop → Option ℕ
first_of ms [] = None
first_of ms (h ∷ hs) = cond (is_left ms h) (first_of ms hs) (Some h.key)

-- the wires behind this one in its fan-out
abbrev pub hops_behind : Web → BoxWire → List Hop
hops_behind w m = behind m.key (fan_hops w m.line.source m.line.outlet)

-- a wire's line, and the first wire behind it that is none of the list
abbrev pub note_of : Web → List BoxWire → BoxWire → NotedWire
note_of w ms m = record { line = m.line; before = first_left ms (hops_behind w m) }

abbrev pub notes_of : Web → List BoxWire → List NotedWire
notes_of w ms = map (note_of w ms) ms

-- of two wires of the list that follow each other in a fan-out, but for others between them, the second is the next of the list
abbrev pub FollowFans : Web → List BoxWire → Type 0
FollowFans w ms =
    (i : ℕ) (m : BoxWire) (k : ℕ) → slice_get ms i ≡ Some m → first_of ms (hops_behind w m) ≡ Some k → (n : BoxWire) × (slice_get ms (i + 1) ≡ Some n) × (n.key ≡ k)

-- no wire stands twice in a fan-out
abbrev pub StandOnce : Web → Type 0
StandOnce w = (node outlet i j : ℕ) (g h : Hop) → slice_get (fan_hops w node outlet) i ≡ Some g → slice_get (fan_hops w node outlet) j ≡ Some h → g.key ≡ h.key → i ≡ j

-- so many notes come in without taking memory, and there are none yet
pub record TakesNotes (room : Vec NotedWire Global) (count : ℕ) : Type 0 where
  pub none : room.items ≡ []
  pub fit : count ≤ vec_capacity room
