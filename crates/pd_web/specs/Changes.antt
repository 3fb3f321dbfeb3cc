-- One wire more or less.
use Rattle.std.specs.Prelude.{◌≡◌, ◌≢◌, ◌≤◌, ◌+◌, ℕ, not, ◌==◌, List, filter, length, slice_get, Option, Some, None, option_map}
use Rattle.std.specs.List.{insert}
use Rattle.pd_wire.specs.Book.{wire_at, live_wires}
use Rattle.pd_grove.specs.declared.ports.Side.{Side}
use Rattle.pd_web.specs.declared.web.Hop.{Hop}
use Rattle.pd_web.specs.declared.web.Web.{Web}
use Rattle.pd_web.specs.Sockets.{made_at}
use Rattle.pd_web.specs.Lines.{Line}
use Rattle.pd_web.specs.Hops.{ports_told, hop_from, hop_to, fan_hops, feed_hops, port_told}

abbrev pub line_by : Hop → Hop → Line
line_by from to = record { source = from.node; outlet = from.port; sink = to.node; inlet = to.port }

-- from where the wire of a key comes and where it leads
abbrev pub line_told : Web → ℕ → Option Line
line_told w key = option_map (λ _. line_by (hop_from w key) (hop_to w key)) (wire_at w.book key)

-- how many wires there are
abbrev pub wires_told : Web → ℕ
wires_told w = live_wires w.book

-- the boxes have the ports that they had, and are the ports that they were
pub record KeepsPorts (w w' : Web) : Type 0 where
  pub ports : (side : Side) (k : ℕ) → ports_told w' side k ≡ ports_told w side k
  pub made : (k : ℕ) → made_at w'.sockets.items k ≡ made_at w.sockets.items k
  pub homes : (j : ℕ) → port_told w' j ≡ port_told w j

-- every port, every wire and every list of wires is as it was
pub record IsSame (w w' : Web) : Type 0 where
  pub kept : KeepsPorts w w'
  pub lines : (k : ℕ) → line_told w' k ≡ line_told w k
  pub fans : (node outlet : ℕ) → fan_hops w' node outlet ≡ fan_hops w node outlet
  pub feeds : (node inlet : ℕ) → feed_hops w' node inlet ≡ feed_hops w node inlet

-- there is room for boxes with keys below k, for p ports that get their first wire, and for n wires
pub record HasRoom (w : Web) (k p n : ℕ) : Type 0 where
  pub boxes : k ≤ length w.sockets.items
  pub homes : k ≤ length w.homes.items
  pub ends : p ≤ length w.spare.items
  pub wires : n ≤ w.book.spare_wires

-- what there was room for, there still is
abbrev pub KeepsRoom : Web → Web → Type 0
KeepsRoom w w' = (k p n : ℕ) → HasRoom w k p n → HasRoom w' k p n

-- a wire by its key and the port at its other end
abbrev pub hop_at : ℕ → ℕ → ℕ → Hop
hop_at key node port = record { key = key; node = node; port = port }

-- one wire more, at a place in the fan-out of its outlet and at one among the feeds of its inlet; every other wire and list, and every
-- port, stays
pub record Joins (w w' : Web) (key : ℕ) (l : Line) (fan_place feed_place : ℕ) : Type 0 where
  pub was_vacant : line_told w key ≡ None
  pub line : line_told w' key ≡ Some l
  pub other_lines : (k : ℕ) → k ≢ key → line_told w' k ≡ line_told w k
  pub fan : fan_hops w' l.source l.outlet ≡ insert (fan_hops w l.source l.outlet) fan_place (hop_at key l.sink l.inlet)
  pub other_fans : (node outlet : ℕ) → (node ≡ l.source → outlet ≢ l.outlet) → fan_hops w' node outlet ≡ fan_hops w node outlet
  pub feeds : feed_hops w' l.sink l.inlet ≡ insert (feed_hops w l.sink l.inlet) feed_place (hop_at key l.source l.outlet)
  pub other_feeds : (node inlet : ℕ) → (node ≡ l.sink → inlet ≢ l.inlet) → feed_hops w' node inlet ≡ feed_hops w node inlet
  pub kept : KeepsPorts w w'
  pub room : (k p n : ℕ) → HasRoom w k (p + 2) (n + 1) → HasRoom w' k p n

-- the hops less the one of this key
abbrev pub without_hop : ℕ → List Hop → List Hop
without_hop key hops = filter (λ h. not (h.key == key)) hops

-- one wire less: it stands in no list, and every other wire, the order of each list, and every port stay
pub record CutsWire (w w' : Web) (key : ℕ) : Type 0 where
  pub line : line_told w' key ≡ None
  pub other_lines : (k : ℕ) → k ≢ key → line_told w' k ≡ line_told w k
  pub fans : (node outlet : ℕ) → fan_hops w' node outlet ≡ without_hop key (fan_hops w node outlet)
  pub feeds : (node inlet : ℕ) → feed_hops w' node inlet ≡ without_hop key (feed_hops w node inlet)
  pub kept : KeepsPorts w w'
  pub room : (k p n : ℕ) → HasRoom w k p n → HasRoom w' k p (n + 1)

-- the list has this at some place
abbrev pub IsListed : {X : Type 0} → List X → X → Type 0
IsListed xs x = (i : ℕ) × (slice_get xs i ≡ Some x)

-- each wire in a fan-out is among the feeds of the inlet to which it leads, and each feed is in the fan-out of the outlet from which it comes
pub record Meet (w : Web) : Type 0 where
  pub fed : (node outlet i : ℕ) (h : Hop) → slice_get (fan_hops w node outlet) i ≡ Some h → IsListed (feed_hops w h.node h.port) (hop_at h.key node outlet)
  pub fanned : (node inlet i : ℕ) (h : Hop) → slice_get (feed_hops w node inlet) i ≡ Some h → IsListed (fan_hops w h.node h.port) (hop_at h.key node inlet)
