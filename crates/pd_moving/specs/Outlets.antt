-- The wires of one outlet, taken out and put in again.
use Rattle.std.specs.Prelude.{◌≡◌, ◌≢◌, ◌+◌, ◌*◌, ℕ, Bool, not, ◌==◌, ◌&&◌, List, [], ◌++◌, map, filter, length, Some}
use Rattle.pd_web.specs.declared.web.Hop.{Hop}
use Rattle.pd_web.specs.declared.web.Web.{Web}
use Rattle.pd_web.specs.declared.lines.Line.{Line}
use Rattle.pd_web.specs.Hops.{fan_hops, feed_hops, places_of}
use Rattle.pd_web.specs.Changes.{line_by, line_told, wires_told, hop_at, HasRoom, KeepsPorts, Meet}
use Rattle.pd_seek.specs.Places.{AreInOrder}

-- whether the port at the wire's other end is this one
abbrev pub is_at : ℕ → ℕ → Hop → Bool
is_at node port h = h.node == node && h.port == port

abbrev pub is_elsewhere : ℕ → ℕ → Hop → Bool
is_elsewhere node port h = not (is_at node port h)

-- the wires whose other ends are at other ports
abbrev pub from_others : ℕ → ℕ → List Hop → List Hop
from_others node port hops = filter (is_elsewhere node port) hops

abbrev pub keys_of : List Hop → List ℕ
keys_of hops = map (λ h. h.key) hops

-- along which line a wire of an outlet leads
abbrev pub line_ahead : ℕ → ℕ → Hop → Line
line_ahead node outlet h = line_by (hop_at h.key node outlet) h

abbrev pub lines_ahead : ℕ → ℕ → List Hop → List Line
lines_ahead node outlet hops = map (line_ahead node outlet) hops

-- the line from this outlet to the same inlet
abbrev pub line_at : ℕ → ℕ → Line → Line
line_at node outlet l = record { source = node; outlet = outlet; sink = l.sink; inlet = l.inlet }

-- where lines lead
abbrev pub sinks_of : List Line → List (ℕ × ℕ)
sinks_of lines = map (λ l. (l.sink, l.inlet)) lines

-- an outlet has lost its wires; every other wire, the order of each list, and every port stay
pub record Lifts (w w' : Web) (node outlet : ℕ) : Type 0 where
  pub fan : fan_hops w' node outlet ≡ []
  pub other_fans : (n o : ℕ) → (n ≡ node → o ≢ outlet) → fan_hops w' n o ≡ fan_hops w n o
  pub feeds : (n i : ℕ) → feed_hops w' n i ≡ from_others node outlet (feed_hops w n i)
  pub other_lines : (k : ℕ) (l : Line) → line_told w k ≡ Some l → (l.source ≡ node → l.outlet ≢ outlet) → line_told w' k ≡ Some l
  pub kept : KeepsPorts w w'
  pub wires : wires_told w' + length (fan_hops w node outlet) ≡ wires_told w
  pub room : (k p n : ℕ) → HasRoom w k p n → HasRoom w' k p (n + length (fan_hops w node outlet))
  pub meet : Meet w'

-- among the feeds of an inlet the wires of an outlet stand in the order of its fan-out
abbrev pub AreFedAsFanned : Web → ℕ → ℕ → ℕ → ℕ → Type 0
AreFedAsFanned w node outlet n i = keys_of (filter (is_at node outlet) (feed_hops w n i)) ≡ keys_of (filter (is_at n i) (fan_hops w node outlet))

-- An outlet has wires along these lines more, behind those that it had. Feeds that were in order are, and the wires of the outlet stand among
-- them as they do in its fan-out; every other wire, its place among others in each list, and every port stay.
pub record Lays (w w' : Web) (labels : List ℕ) (node outlet : ℕ) (lines : List Line) : Type 0 where
  pub fan : places_of (fan_hops w' node outlet) ≡ places_of (fan_hops w node outlet) ++ sinks_of lines
  pub other_fans : (n o : ℕ) → (n ≡ node → o ≢ outlet) → fan_hops w' n o ≡ fan_hops w n o
  pub others : (n i : ℕ) → from_others node outlet (feed_hops w' n i) ≡ from_others node outlet (feed_hops w n i)
  pub in_order : (n i : ℕ) → AreInOrder labels (feed_hops w n i) → AreInOrder labels (feed_hops w' n i)
  pub as_fanned : (n i : ℕ) → AreInOrder labels (feed_hops w n i) → AreFedAsFanned w node outlet n i → AreFedAsFanned w' node outlet n i
  pub lines_stay : (k : ℕ) (l : Line) → line_told w k ≡ Some l → line_told w' k ≡ Some l
  pub kept : KeepsPorts w w'
  pub wires : wires_told w' ≡ wires_told w + length lines
  pub room : (k p n : ℕ) → HasRoom w k (p + 2 * length lines) (n + length lines) → HasRoom w' k p n
  pub meet : Meet w'
