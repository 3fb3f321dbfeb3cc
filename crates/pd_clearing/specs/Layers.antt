-- What lists by key, webs and orders tell where some boxes go.
use Rattle.std.specs.Prelude.{◌≡◌, ◌≢◌, ℕ, false, cond, List, [], Option, Some, None, IsTrue, slice_get}
use Rattle.slab.specs.Slab.{get}
use Rattle.pd_order.specs.Listing.{Listing}
use Rattle.pd_grove.specs.declared.grove.Grove.{Grove}
use Rattle.pd_grove.specs.declared.ports.Side.{Side}
use Rattle.pd_grove.specs.Telling.{inner_in}
use Rattle.pd_owning.specs.Bound.{is_among}
use Rattle.pd_web.specs.declared.web.Web.{Web}
use Rattle.pd_web.specs.Changes.{line_told, KeepsRoom}
use Rattle.pd_web.specs.Hops.{fan_hops, feed_hops, ports_told, port_told}
use Rattle.pd_web.specs.Sockets.{made_at}
use Rattle.pd_ports.specs.Known.{KnowsHomes}
use Rattle.pd_patch.specs.Telling.{order_in}
use Rattle.pd_patch.specs.Values.{Blocks, block_at}

-- the port that a box is known to be, but where it is one of these boxes
abbrev pub but_of_all : List ℕ → Option (ℕ × ℕ) → Option (ℕ × ℕ)
but_of_all part None = None
but_of_all part (Some x) = cond (is_among part x.0) None (Some x)

-- these boxes have no ports any more; the ports of every other box, every wire and every list of wires stay
pub record ClosesAll (w w' : Web) (part : List ℕ) : Type 0 where
  pub gone : (side : Side) (k : ℕ) → IsTrue (is_among part k) → ports_told w' side k ≡ []
  pub unmade : (k : ℕ) → IsTrue (is_among part k) → made_at w'.sockets.items k ≡ false
  pub ports : (side : Side) (k : ℕ) → is_among part k ≡ false → ports_told w' side k ≡ ports_told w side k
  pub made : (k : ℕ) → is_among part k ≡ false → made_at w'.sockets.items k ≡ made_at w.sockets.items k
  pub lines : (k : ℕ) → line_told w' k ≡ line_told w k
  pub fans : (k outlet : ℕ) → fan_hops w' k outlet ≡ fan_hops w k outlet
  pub feeds : (k inlet : ℕ) → feed_hops w' k inlet ≡ feed_hops w k inlet
  pub homes : (j : ℕ) → port_told w' j ≡ but_of_all part (port_told w j)
  pub room : KeepsRoom w w'
  pub known : KnowsHomes w'

-- the canvas lies in one of these boxes
abbrev pub IsHeldByOne : Grove → List ℕ → ℕ → Type 0
IsHeldByOne g part c = (k : ℕ) × IsTrue (is_among part k) × (inner_in (get g.nodes k) ≡ Some c)

-- the canvases in these boxes have no orders any more, and every other canvas has the order that it had
pub record DropsOrders (g : Grove) (old new : List (Option Listing)) (part : List ℕ) : Type 0 where
  pub gone : (c : ℕ) → IsHeldByOne g part c → order_in new c ≡ None
  pub others : (c : ℕ) → (IsHeldByOne g part c → ⊥) → order_in new c ≡ order_in old c

-- no block is under a key any more, and what is under other keys stays
pub record DropsUnder (old new : Blocks) (key : ℕ) : Type 0 where
  pub gone : (outlet : ℕ) → block_at new key outlet ≡ None
  pub others : (k : ℕ) → k ≢ key → slice_get new k ≡ slice_get old k
