-- What the code keeps.
use Rattle.std.specs.Prelude.{◌+◌, ◌≤◌, length, vec_len, vec_capacity}
use Rattle.std.specs.BinaryHeap.{heap_items, heap_len, heap_capacity, IsHeap}
use Rattle.indexmap.specs.IndexMap.{index_map_len, spare}
use Rattle.pd_clock.specs.Index.{IsIndexOf, place_of}
use Rattle.pd_clock.specs.Queue.{AreApart}
use Rattle.pd_clock.specs.Slots.{live_clocks, order, AreTracked, AreKeys}
use Rattle.pd_clock.specs.declared.clocks.Clocks.TheInside.{Inside}

pub record IsKept (c : Inside) : Type 0 where
  pub apart : AreApart (live_clocks c.slots.items)
  pub few : length (live_clocks c.slots.items) ≤ c.room
  pub space : c.room ≤ vec_capacity c.slots
  pub ordered : IsHeap order (heap_items c.heap)
  pub tracked : AreTracked (heap_items c.heap) 0 c.slots.items
  pub keys : AreKeys c.slots.items (heap_items c.heap)
  pub fits : heap_len c.heap ≤ vec_len c.slots
  pub caps : vec_capacity c.slots ≤ heap_capacity c.heap
  pub places : IsIndexOf (place_of c.places) c.slots.items
  pub places_fit : index_map_len c.places ≤ vec_len c.slots
  pub places_caps : vec_capacity c.slots ≤ index_map_len c.places + spare c.places
