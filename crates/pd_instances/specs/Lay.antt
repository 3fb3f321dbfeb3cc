-- The wires of canvases that come, laid one behind the other.
use Rattle.std.specs.Prelude.{◌≡◌, ◌≢◌, ◌<◌, ◌≤◌, ◌+◌, ◌-◌, ◌*◌, ◌^◌, ℕ, List, [], ◌∷◌, ◌++◌, length, slice_get, Some, vec_len, vec_capacity}
use Rattle.pd_canvas.specs.declared.wires.Wire.{Wire}
use Rattle.pd_links.specs.declared.links.Links.{Links}
use Rattle.pd_links.specs.declared.opening.LinkRoom.{LinkRoom}
use Rattle.pd_links.specs.Linked.{feeders_of, followers_of, spare_into, spare_from, HasOneMore, KeepsLinks}
use Rattle.pd_web.specs.declared.lines.Line.{Line}
use Rattle.pd_web.specs.declared.web.Web.{Web}
use Rattle.pd_web.specs.Changes.{line_told, wires_told, HasRoom, KeepsPorts, Meet}
use Rattle.pd_web.specs.Hops.{fan_hops, feed_hops, places_of}
use Rattle.pd_web.specs.Lines.{fed_from, feeding}
use Rattle.pd_instances.specs.Needs.{count_from, count_to, AreLinkRooms, Inside}

-- Wires came along these lines, in their order: each last in the fan-out of its outlet and last among the feeds of its inlet. Every other list stays, and
-- every wire under its key, and every port.
pub record LaysLines (w w' : Web) (ls : List Line) : Type 0 where
  pub fans : (k outlet : ℕ) → places_of (fan_hops w' k outlet) ≡ places_of (fan_hops w k outlet) ++ fed_from k outlet ls
  pub feeds : (k inlet : ℕ) → places_of (feed_hops w' k inlet) ≡ places_of (feed_hops w k inlet) ++ feeding k inlet ls
  pub same_fans : (k outlet : ℕ) → fed_from k outlet ls ≡ [] → fan_hops w' k outlet ≡ fan_hops w k outlet
  pub same_feeds : (k inlet : ℕ) → feeding k inlet ls ≡ [] → feed_hops w' k inlet ≡ feed_hops w k inlet
  pub lines : (k : ℕ) (l : Line) → line_told w k ≡ Some l → line_told w' k ≡ Some l
  pub kept : KeepsPorts w w'
  pub count : wires_told w' ≡ wires_told w + length ls
  pub meet : Meet w → Meet w'
  pub room : (k p n : ℕ) → HasRoom w k (p + 2 * length ls) (n + length ls) → HasRoom w' k p n

-- these wires of a canvas whose boxes have these keys come into the links without taking memory, should each of them carry signals
pub record TakesWires (l : Links) (keys : List ℕ) (ws : List Wire) : Type 0 where
  pub from : (n k : ℕ) → slice_get keys n ≡ Some k → count_from ws n ≤ spare_from l k
  pub into : (n k : ℕ) → slice_get keys n ≡ Some k → count_to ws n ≤ spare_into l k
  pub few_from : (n k : ℕ) → slice_get keys n ≡ Some k → length (followers_of l k) + length ws + 1 < 2 ^ 32
  pub few_into : (n k : ℕ) → slice_get keys n ≡ Some k → length (feeders_of l k) + length ws + 1 < 2 ^ 32

-- one link more, in room that was set aside
pub record LinksOne (l l' : Links) (source sink : ℕ) : Type 0 where
  pub more : HasOneMore l l' source sink
  pub from : spare_from l' source + 1 ≡ spare_from l source
  pub into : spare_into l' sink + 1 ≡ spare_into l sink
  pub others_from : (k : ℕ) → k ≢ source → spare_from l' k ≡ spare_from l k
  pub others_into : (k : ℕ) → k ≢ sink → spare_into l' k ≡ spare_into l k

-- the box of a key has as many links as it had, and room for as many more
pub record KeepsRow (l l' : Links) (k : ℕ) : Type 0 where
  pub followers : length (followers_of l' k) ≡ length (followers_of l k)
  pub feeders : length (feeders_of l' k) ≡ length (feeders_of l k)
  pub from : spare_from l' k ≡ spare_from l k
  pub into : spare_into l' k ≡ spare_into l k

-- room of no links yet
pub record IsEmptyRoom (room : LinkRoom) : Type 0 where
  pub no_from : room.from.items ≡ []
  pub no_into : room.into.items ≡ []

-- the box of a key has this room for links
pub record HasSpare (l : Links) (k : ℕ) (room : LinkRoom) : Type 0 where
  pub into : spare_into l k ≡ vec_capacity room.into - vec_len room.into
  pub from : spare_from l k ≡ vec_capacity room.from - vec_len room.from

-- the boxes of these keys, each under one number, got these rooms, and the rooms of all others stay
pub record OpensRows (l l' : Links) (keys : List ℕ) (rooms : List LinkRoom) : Type 0 where
  pub keeps : KeepsLinks l l'
  pub opens : (n k : ℕ) (room : LinkRoom) → slice_get keys n ≡ Some k → slice_get rooms n ≡ Some room → HasSpare l' k room
  pub others : (k : ℕ) → ((n : ℕ) → slice_get keys n ≢ Some k) → KeepsRow l l' k

-- the first of these lists of rooms is for such a canvas, where there is one
abbrev pub AreNextRows : List Inside → List (List LinkRoom) → Type 0
AreNextRows [] rows = Unit {0}
AreNextRows (i ∷ is) [] = ⊥
AreNextRows (i ∷ is) (rooms ∷ rows) = AreLinkRooms i rooms
