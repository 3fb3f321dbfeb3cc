-- The graph that links and labels tell, and how it stands to the wires of a canvas.
use Rattle.std.specs.Prelude.{◌≡◌, ◌≢◌, ℕ, ◌+◌, ◌<◌, ◌≤◌, ◌^◌, ◌==◌, ◌↔◌, cond, List, ◌∷◌, length, slice_index_or}
use Rattle.pd_order.specs.Graph.{Graph, tally}
use Rattle.pd_chain.specs.declared.graph.SignalWire.{SignalWire}
use Rattle.pd_chain.specs.Wires.{place_of, sources_into, sinks_from}
use Rattle.pd_links.specs.declared.links.Links.{Links}
use Rattle.pd_links.specs.Rows.{keys_at, spare_at}

-- from which boxes wires come to the box x, as often as there are wires
abbrev pub feeders_of : Links → ℕ → List ℕ
feeders_of l x = keys_at l.into.items x

-- to which boxes wires lead from the box x, as often as there are wires
abbrev pub followers_of : Links → ℕ → List ℕ
followers_of l x = keys_at l.from.items x

-- so many more wires to the box x, and from it, take no memory
abbrev pub spare_into : Links → ℕ → ℕ
spare_into l x = spare_at l.into.items x

abbrev pub spare_from : Links → ℕ → ℕ
spare_from l x = spare_at l.from.items x

-- a box's rank is its label
abbrev pub label_at : List ℕ → ℕ → ℕ
label_at labels x = slice_index_or labels x 0

abbrev pub link_graph : List ℕ → Links → Graph
link_graph labels l = record {
  rank = λ x. label_at labels x;
  feeders = λ x. feeders_of l x;
  followers = λ x. followers_of l x;
}

-- there are lists for each key below the end
pub record ReachesKeys (l : Links) (end : ℕ) : Type 0 where
  pub into : end ≤ length l.into.items
  pub from : end ≤ length l.from.items

-- the wires are the same, and there is room for at least as many more
pub record SameLinks (old new : Links) : Type 0 where
  pub feeders : (x : ℕ) → feeders_of new x ≡ feeders_of old x
  pub followers : (x : ℕ) → followers_of new x ≡ followers_of old x
  pub spare_into : (x : ℕ) → spare_into old x ≤ spare_into new x
  pub spare_from : (x : ℕ) → spare_from old x ≤ spare_from new x

-- the wires are the same
pub record KeepsLinks (old new : Links) : Type 0 where
  pub feeders : (x : ℕ) → feeders_of new x ≡ feeders_of old x
  pub followers : (x : ℕ) → followers_of new x ≡ followers_of old x
  pub reach : (end : ℕ) → ReachesKeys old end → ReachesKeys new end

-- there is room for a wire more from the source to the sink, and it can be counted
pub record TakesOne (l : Links) (source sink : ℕ) : Type 0 where
  pub room_from : 0 < spare_from l source
  pub room_into : 0 < spare_into l sink
  pub few_from : length (followers_of l source) + 2 < 2 ^ 32
  pub few_into : length (feeders_of l sink) + 2 < 2 ^ 32

-- there is room for so many wires more from the box x, and they can be counted
abbrev pub TakesFrom : Links → ℕ → ℕ → Type 0
TakesFrom l x wires = (wires ≤ spare_from l x) × (length (followers_of l x) + wires + 1 < 2 ^ 32)

-- there is room for so many wires more to it, and they can be counted
abbrev pub TakesInto : Links → ℕ → ℕ → Type 0
TakesInto l x wires = (wires ≤ spare_into l x) × (length (feeders_of l x) + wires + 1 < 2 ^ 32)

-- what there was room for, there still is
pub record KeepsLinkRoom (old new : Links) : Type 0 where
  pub from : (x wires : ℕ) → TakesFrom old x wires → TakesFrom new x wires
  pub into : (x wires : ℕ) → TakesInto old x wires → TakesInto new x wires

-- what there was room for, there still is, but for one wire from the source to the sink
pub record UsesLinkRoom (old new : Links) (source sink : ℕ) : Type 0 where
  pub from : (wires : ℕ) → TakesFrom old source (wires + 1) → TakesFrom new source wires
  pub other_from : (x wires : ℕ) → x ≢ source → TakesFrom old x wires → TakesFrom new x wires
  pub into : (wires : ℕ) → TakesInto old sink (wires + 1) → TakesInto new sink wires
  pub other_into : (x wires : ℕ) → x ≢ sink → TakesInto old x wires → TakesInto new x wires

-- `more` has one wire more from the source to the sink, and else the same
pub record HasOneMore (links more : Links) (source sink : ℕ) : Type 0 where
  pub feeders : (x u : ℕ) → tally u (feeders_of more x) ≡ tally u (cond (x == sink) (source ∷ feeders_of links x) (feeders_of links x))
  pub followers : (x u : ℕ) → tally u (followers_of more x) ≡ tally u (cond (x == source) (sink ∷ followers_of links x) (followers_of links x))

-- the links are those of these wires, in any order at each box
pub record AreLinked (l : Links) (wires : List SignalWire) : Type 0 where
  pub feeders : (x u : ℕ) → tally u (feeders_of l x) ≡ tally u (sources_into wires x)
  pub followers : (x u : ℕ) → tally u (followers_of l x) ≡ tally u (sinks_from wires x)

-- the labels of a canvas's boxes rise with their numbers
abbrev pub RiseAlong : List ℕ → List ℕ → Type 0
RiseAlong labels nodes = (x y : ℕ) → 0 < tally x nodes → 0 < tally y nodes → (label_at labels x < label_at labels y) ↔ (place_of nodes x < place_of nodes y)
