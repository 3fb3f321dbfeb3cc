-- Lists of keys kept by links, seen as functions from keys.
use Rattle.std.specs.Prelude.{◌≡◌, ◌≢◌, ℕ, zero, suc, ◌+◌, ◌<◌, ◌≤◌, Bool, true, false, not, List, [], ◌∷◌, length, Option, Some, None, slice_index_or}
use Rattle.slab.specs.Slab.{Slab, get, slab_len}
use Rattle.pd_wire.specs.declared.links.Link.{Link}
use Rattle.pd_wire.specs.declared.links.Node.{Node}
use Rattle.pd_wire.specs.declared.links.Side.{Side}
use Rattle.pd_wire.specs.declared.links.Side.TheVariants.{Fan, Feed}

-- the other of the two lists
abbrev pub other : Side → Side
other Fan = Feed
other Feed = Fan

-- a node's link in one of its lists
abbrev pub node_link : Side → Node → Link
node_link Fan n = n.fan
node_link Feed n = n.feed

-- a link that says nothing
abbrev pub no_link : Link
no_link = record { owner = 0; before = 0; after = 0; count = 0 }

abbrev pub slot_link : Side → Option Node → Link
slot_link side None = no_link
slot_link side (Some n) = node_link side n

abbrev pub fan_of_slot : Option Node → Link
fan_of_slot o = slot_link Fan o

abbrev pub feed_of_slot : Option Node → Link
feed_of_slot o = slot_link Feed o

abbrev pub is_end_slot : Option Node → Bool
is_end_slot None = false
is_end_slot (Some n) = n.is_end

abbrev pub is_wire_slot : Option Node → Bool
is_wire_slot None = false
is_wire_slot (Some n) = not n.is_end

-- the link of the node at a key, on one side
abbrev pub link_at : Side → Slab Node → ℕ → Link
link_at side s k = slot_link side (get s k)

abbrev pub fan_at : Slab Node → ℕ → Link
fan_at s k = link_at Fan s k

abbrev pub feed_at : Slab Node → ℕ → Link
feed_at s k = link_at Feed s k

abbrev pub is_end : Slab Node → ℕ → Bool
is_end s k = is_end_slot (get s k)

abbrev pub is_wire : Slab Node → ℕ → Bool
is_wire s k = is_wire_slot (get s k)

-- every key is an end or a wire as before, and as many keys fit
pub record KeepsKeys (old new : Slab Node) : Type 0 where
  pub ends : (j : ℕ) → is_end new j ≡ is_end old j
  pub wires : (j : ℕ) → is_wire new j ≡ is_wire old j
  pub len : slab_len new ≡ slab_len old
  pub capacity : new.capacity ≡ old.capacity
  pub slots : length new.slots ≡ length old.slots

-- one link is written, and no other
pub record Puts (old new : ℕ → Link) (key : ℕ) (link : Link) : Type 0 where
  pub at : new key ≡ link
  pub others : (j : ℕ) → j ≢ key → new j ≡ old j

-- k is put between a and b in e's list
pub record Attaches (old new : ℕ → Link) (e k a b : ℕ) : Type 0 where
  pub owner_at : (new k).owner ≡ e
  pub owner : (j : ℕ) → j ≢ k → (new j).owner ≡ (old j).owner
  pub after_at : (new k).after ≡ b
  pub after_before : (new a).after ≡ k
  pub after : (j : ℕ) → j ≢ k → j ≢ a → (new j).after ≡ (old j).after
  pub before_at : (new k).before ≡ a
  pub before_after : (new b).before ≡ k
  pub before : (j : ℕ) → j ≢ k → j ≢ b → (new j).before ≡ (old j).before
  pub count_at : (new e).count ≡ (old e).count + 1
  pub count : (j : ℕ) → j ≢ k → j ≢ e → (new j).count ≡ (old j).count

-- what stood between a and b in e's list is taken out, and nothing is said of its own link
pub record Detaches (old new : ℕ → Link) (e k a b : ℕ) : Type 0 where
  pub owner : (j : ℕ) → j ≢ k → (new j).owner ≡ (old j).owner
  pub after_before : (new a).after ≡ b
  pub after : (j : ℕ) → j ≢ k → j ≢ a → (new j).after ≡ (old j).after
  pub before_after : (new b).before ≡ a
  pub before : (j : ℕ) → j ≢ k → j ≢ b → (new j).before ≡ (old j).before
  pub count_at : (new e).count + 1 ≡ (old e).count
  pub count : (j : ℕ) → j ≢ k → j ≢ e → (new j).count ≡ (old j).count

-- so many keys, from k on, one after another
abbrev pub walk : (ℕ → Link) → ℕ → ℕ → List ℕ
walk link zero k = []
walk link (suc n) k = k ∷ walk link n (link k).after

-- the keys in the list of e
abbrev pub list_of : (ℕ → Link) → ℕ → List ℕ
list_of link e = walk link (link e).count (link e).after

-- e and then the keys, in a ring
pub record IsRing (link : ℕ → Link) (e : ℕ) (xs : List ℕ) : Type 0 where
  pub after : (i : ℕ) → i ≤ length xs → (link (slice_index_or (e ∷ xs) i e)).after ≡ slice_index_or xs i e
  pub before : (i : ℕ) → i ≤ length xs → (link (slice_index_or xs i e)).before ≡ slice_index_or (e ∷ xs) i e

-- k stands in the list of e
abbrev pub IsPlaced : (ℕ → List ℕ) → ℕ → ℕ → Type 0
IsPlaced ms e k = (i : ℕ) × (i < length (ms e)) × (slice_index_or (ms e) i e ≡ k)

-- the links keep the list ms e at each head e, and each member stands in one of them
pub record IsBook (head member : ℕ → Bool) (link : ℕ → Link) (ms : ℕ → List ℕ) : Type 0 where
  pub apart : (k : ℕ) → head k ≡ true → member k ≡ true → ⊥
  pub counted : (e : ℕ) → head e ≡ true → (link e).count ≡ length (ms e)
  pub rings : (e : ℕ) → head e ≡ true → IsRing link e (ms e)
  pub members : (e i : ℕ) → head e ≡ true → i < length (ms e) → member (slice_index_or (ms e) i e) ≡ true
  pub owned : (e i : ℕ) → head e ≡ true → i < length (ms e) → (link (slice_index_or (ms e) i e)).owner ≡ e
  pub owners : (k : ℕ) → member k ≡ true → head (link k).owner ≡ true
  pub placed : (k : ℕ) → member k ≡ true → IsPlaced ms (link k).owner k

-- the links of one side keep the lists that a walk along them finds
abbrev pub IsSideSound : Side → Slab Node → Type 0
IsSideSound side s = IsBook (is_end s) (is_wire s) (link_at side s) (list_of (link_at side s))
