-- How a book lies in a slab of nodes.
use Rattle.std.specs.Prelude.{◌≡◌, ◌≢◌, ℕ, ◌+◌, ◌≤◌, true, false, cond, List, map, Option, Some, None}
use Rattle.slab.specs.Slab.{Slab, get, slab_len, HasRoomFor}
use Rattle.pd_wire.specs.Book.{Book}
use Rattle.pd_wire.specs.Links.{fan_of_slot, feed_of_slot, is_end_slot, is_wire_slot, fan_at, feed_at, is_end, is_wire, walk, Attaches, Detaches, IsSideSound}
use Rattle.pd_wire.specs.declared.links.Link.{Link}
use Rattle.pd_wire.specs.declared.links.Node.{Node}
use Rattle.pd_wire.specs.declared.links.Side.TheVariants.{Fan, Feed}

-- what is seen of one slot, where the links are these
abbrev pub end_of_slot : Slab Node → Option Node → Option (List ℕ × List ℕ)
end_of_slot s o =
    cond (is_end_slot o) (Some (walk (fan_at s) (fan_of_slot o).count (fan_of_slot o).after, walk (feed_at s) (feed_of_slot o).count (feed_of_slot o).after)) None

abbrev pub wire_of_slot : Option Node → Option (ℕ × ℕ)
wire_of_slot o = cond (is_wire_slot o) (Some ((fan_of_slot o).owner, (feed_of_slot o).owner)) None

-- what is seen of a slab of nodes, with so much room set aside for ends and for wires
abbrev pub book_of : Slab Node → ℕ → ℕ → Book
book_of s spare_ends spare_wires = record {
  ends = map (end_of_slot s) s.slots;
  wires = map wire_of_slot s.slots;
  spare_ends = spare_ends;
  spare_wires = spare_wires;
}

-- the links keep the lists that a walk along them finds
pub record IsSound (s : Slab Node) : Type 0 where
  pub fans : IsSideSound Fan s
  pub feeds : IsSideSound Feed s

-- the links are sound, and the slab has the room that is set aside
pub record IsSoundBook (s : Slab Node) (spare_ends spare_wires : ℕ) : Type 0 where
  pub links : IsSound s
  pub room : HasRoomFor s (spare_ends + spare_wires)

-- a new wire's node is linked before b in the source's fan-out, and before d among the sink's feeds
pub record Inserts (old new : Slab Node) (key source b sink d : ℕ) : Type 0 where
  pub vacant : get old key ≡ None
  pub ends : (j : ℕ) → is_end new j ≡ is_end old j
  pub wire : is_wire new key ≡ true
  pub wires : (j : ℕ) → j ≢ key → is_wire new j ≡ is_wire old j
  pub fans : Attaches (fan_at old) (fan_at new) source key (fan_at old b).before b
  pub feeds : Attaches (feed_at old) (feed_at new) sink key (feed_at old d).before d
  pub len : slab_len new ≡ slab_len old + 1
  pub capacity : new.capacity ≡ old.capacity

-- a wire's node is unlinked from both lists and removed
pub record Removes (old new : Slab Node) (key : ℕ) : Type 0 where
  pub ends : (j : ℕ) → is_end new j ≡ is_end old j
  pub wire : is_wire new key ≡ false
  pub wires : (j : ℕ) → j ≢ key → is_wire new j ≡ is_wire old j
  pub fans : Detaches (fan_at old) (fan_at new) (fan_at old key).owner key (fan_at old key).before (fan_at old key).after
  pub feeds : Detaches (feed_at old) (feed_at new) (feed_at old key).owner key (feed_at old key).before (feed_at old key).after
  pub len : slab_len new + 1 ≡ slab_len old
  pub room : slab_len old ≤ old.capacity
  pub capacity : new.capacity ≡ old.capacity

-- the link of a head with no member
abbrev pub lone : ℕ → Link
lone k = record { owner = k; before = k; after = k; count = 0 }
