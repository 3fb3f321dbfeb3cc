-- What each layer tells after boxes have come, box by box.
use Rattle.std.specs.Prelude.{◌≡◌, ◌≢◌, ◌≤◌, ◌+◌, ℕ, false, List, [], ◌∷◌, length, replicate, slice_get, Option, Some, IsTrue}
use Rattle.slab.specs.Slab.{get}
use Rattle.pd_kind.specs.States.{silent_block}
use Rattle.pd_order.specs.Listing.{Listing}
use Rattle.pd_links.specs.declared.links.Links.{Links}
use Rattle.pd_grove.specs.declared.grove.Grove.{Grove}
use Rattle.pd_grove.specs.declared.ports.Side.{Side}
use Rattle.pd_grove.specs.Telling.{inner_in}
use Rattle.pd_owning.specs.Bound.{is_among}
use Rattle.pd_web.specs.declared.web.Web.{Web}
use Rattle.pd_web.specs.Canvases.{keys_at}
use Rattle.pd_web.specs.Changes.{line_told}
use Rattle.pd_web.specs.Homes.{IsPortOf}
use Rattle.pd_web.specs.Hops.{fan_hops, feed_hops, port_told, ports_told}
use Rattle.pd_web.specs.Jacks.{jacks_at, made_in}
use Rattle.pd_web.specs.Sockets.{made_at}
use Rattle.pd_ports.specs.Known.{KnowsHomes}
use Rattle.pd_patch.specs.Numbers.{AreUnder, IsOut}
use Rattle.pd_patch.specs.Telling.{order_in}
use Rattle.pd_patch.specs.Values.{Blocks}
use Rattle.pd_wiring.specs.Graphs.{canvas_graph, signal_boxes, IsOrderIn}
use Rattle.pd_instances.specs.declared.room.BoxRoom.{BoxRoom}
use Rattle.pd_instances.specs.declared.needs.Need.{Need}
use Rattle.pd_instances.specs.Needs.{need_at, Inside, IsOrderRoom, IsRoomFor}

-- These boxes have their ports, and of each box that is one of them it is known which. Every other port, every wire and every list of wires stays.
pub record OpensAll (g : Grove) (w w' : Web) (keys : List ℕ) : Type 0 where
  pub ports : (side : Side) (k : ℕ) → IsTrue (is_among keys k) → ports_told w' side k ≡ jacks_at side g k
  pub made : (k : ℕ) → IsTrue (is_among keys k) → made_at w'.sockets.items k ≡ made_in (get g.nodes k)
  pub other_ports : (side : Side) (k : ℕ) → is_among keys k ≡ false → ports_told w' side k ≡ ports_told w side k
  pub others_made : (k : ℕ) → is_among keys k ≡ false → made_at w'.sockets.items k ≡ made_at w.sockets.items k
  pub lines : (k : ℕ) → line_told w' k ≡ line_told w k
  pub fans : (k outlet : ℕ) → fan_hops w' k outlet ≡ fan_hops w k outlet
  pub feeds : (k inlet : ℕ) → feed_hops w' k inlet ≡ feed_hops w k inlet
  pub found : (j k i : ℕ) → IsTrue (is_among keys k) → IsPortOf g j k i → (m : ℕ) × (port_told w' j ≡ Some (k, m)) × IsPortOf g j k m
  pub others : (j : ℕ) → ((k i : ℕ) → IsTrue (is_among keys k) → IsPortOf g j k i → ⊥) → port_told w' j ≡ port_told w j
  pub known : KnowsHomes w → KnowsHomes w'

-- these boxes have silent blocks, as many as they need, and the blocks of other keys stay
pub record PutsBlocks (g : Grove) (old new : Blocks) (keys : List ℕ) : Type 0 where
  pub is : (k : ℕ) → IsTrue (is_among keys k) → slice_get new k ≡ Some (replicate (need_at g k).blocks silent_block)
  pub others : (k : ℕ) → is_among keys k ≡ false → slice_get new k ≡ slice_get old k

-- the first of these rooms is one for such a box
abbrev pub IsNextRoom : Need → List BoxRoom → Type 0
IsNextRoom n [] = ⊥
IsNextRoom n (room ∷ rooms) = IsRoomFor n room

-- the boxes of the canvases that these boxes hold have their numbers, and those of all other keys stay
pub record NumbersAll (g : Grove) (old new keys : List ℕ) : Type 0 where
  pub under : (k c : ℕ) → IsTrue (is_among keys k) → inner_in (get g.nodes k) ≡ Some c → AreUnder new (keys_at g c)
  pub others : (x : ℕ) → ((k c : ℕ) → IsTrue (is_among keys k) → inner_in (get g.nodes k) ≡ Some c → IsOut (keys_at g c) x) → slice_get new x ≡ slice_get old x

-- the canvases that these boxes hold have their orders, and all others those that they had
pub record OrdersAll (g : Grove) (l : Links) (old new : List (Option Listing)) (keys : List ℕ) : Type 0 where
  pub is : (k c : ℕ) → IsTrue (is_among keys k) → inner_in (get g.nodes k) ≡ Some c → IsOrderIn (canvas_graph g l c) (signal_boxes g c) (order_in new c)
  pub others : (c : ℕ) → ((k : ℕ) → IsTrue (is_among keys k) → inner_in (get g.nodes k) ≢ Some c) → order_in new c ≡ order_in old c

-- the first of these orders has room for such a canvas, where there is one
abbrev pub AreNextOrders : List Inside → List Listing → Type 0
AreNextOrders [] orders = Unit {0}
AreNextOrders (i ∷ is) [] = ⊥
AreNextOrders (i ∷ is) (o ∷ orders) = IsOrderRoom i o
