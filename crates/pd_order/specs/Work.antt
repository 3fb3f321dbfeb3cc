-- What an order keeps while it is made or mended.
use Rattle.std.specs.Prelude.{◌≡◌, ℕ, ◌+◌, ◌<◌, ◌≤◌, ◌⊎◌, List, [], length, take, drop, slice_index}
use Rattle.pd_order.specs.Graph.{Graph, tally, missing, IsReady, AreNext, AreByRank, IsOrder}
use Rattle.pd_order.specs.Heap.{IsHeap}
use Rattle.pd_order.specs.Spots.{nowhere}

-- A node is known once its mark is not 0: the mark is then one more than the wires that still hold it back.
-- The heap has the known nodes that nothing holds back and that are not out, and `spare` all known ones.
-- `told` are the followers of the node that goes out, as far as they were told.
pub record IsAtWork (g : Graph) (nodes listed out told : List ℕ) (mark : ℕ → ℕ) (heap spare : List ℕ) : Type 0 where
  pub marks : (x : ℕ) → 0 < mark x → mark x + tally x told ≡ missing listed (g.feeders x) + 1
  pub told_known : (x : ℕ) → 0 < tally x told → 0 < mark x
  pub free : (x : ℕ) → 0 < tally x heap → (tally x out ≡ 0) × (mark x ≡ 1)
  pub found : (x : ℕ) → tally x out ≡ 0 → mark x ≡ 1 → 0 < tally x heap
  pub heap_once : (x : ℕ) → tally x heap ≤ 1
  pub in_spare : (x : ℕ) → 0 < mark x → 0 < tally x spare
  pub of_spare : (x : ℕ) → 0 < tally x spare → 0 < mark x
  pub spare_once : (x : ℕ) → tally x spare ≤ 1
  pub inside : (x : ℕ) → 0 < mark x → 0 < tally x nodes
  pub is_heap : IsHeap g.rank heap

-- what a node that goes out is
pub record IsGoing (g : Graph) (T : List ℕ) (y : ℕ) : Type 0 where
  pub unlisted : tally y T ≡ 0
  pub fed : missing T (g.feeders y) ≡ 0
  pub closed : (x : ℕ) → 0 < tally x T → missing T (g.feeders x) ≡ 0

-- each listed node is at its place
abbrev pub ArePlaced : List ℕ → (ℕ → ℕ) → Type 0
ArePlaced listed place = (x : ℕ) → 0 < tally x listed → (place x < length listed) × (slice_index listed (place x) ≡ x)

-- The new chain as far as it is listed, over the old chain, whose front of `from` nodes both share, and which is passed up to `passed`.
pub record IsRunning (g : Graph) (nodes old listed : List ℕ) (from passed : ℕ) (was place mark : ℕ → ℕ) (heap spare : List ℕ) : Type 0 where
  pub work : IsAtWork g nodes listed listed [] mark heap spare
  pub front : take from listed ≡ take from old
  pub from_listed : from ≤ length listed
  pub from_passed : from ≤ passed
  pub passed_old : passed ≤ length old
  pub built : AreNext g nodes [] listed
  pub closed : (x : ℕ) → 0 < tally x listed → missing listed (g.feeders x) ≡ 0
  pub once : (x : ℕ) → tally x listed ≤ 1
  pub inside : (x : ℕ) → 0 < tally x listed → 0 < tally x nodes
  pub listed_known : (x : ℕ) → 0 < tally x listed → mark x ≡ 0 → 0 < tally x (take from old)
  pub touched : (x u : ℕ) → tally x listed ≡ 0 → mark x ≡ 0 → 0 < tally u (g.feeders x) → 0 < tally u listed → 0 < tally u (take from old)
  pub are_passed : (i : ℕ) → from ≤ i → i < passed → 0 < mark (slice_index old i)
  pub placed : ArePlaced listed place
  pub unplaced : (x : ℕ) → tally x listed ≡ 0 → place x ≡ was x
  pub within : (x : ℕ) → 0 < tally x listed → (was x < passed) ⊎ (passed ≡ length old)

-- z was ready when the old chain had its front, and comes after all that are before it there
pub record IsWaiting (g : Graph) (old : List ℕ) (from z : ℕ) : Type 0 where
  pub there : 0 < tally z old
  pub later : (i : ℕ) → from ≤ i → i < length old → tally z (take (i + 1) old) ≡ 0 → g.rank (slice_index old i) ≤ g.rank z

-- What the old chain is: each node of it is at its place, and what isn't known and was ready waits.
pub record IsOld (g : Graph) (nodes old : List ℕ) (from : ℕ) (was mark : ℕ → ℕ) : Type 0 where
  pub old_places : (x : ℕ) → 0 < tally x nodes → was x < length old → slice_index old (was x) ≡ x
  pub old_at : (i : ℕ) → i < length old → was (slice_index old i) ≡ i
  pub old_once : (x : ℕ) → tally x old ≤ 1
  pub old_nodes : (x : ℕ) → 0 < tally x old → 0 < tally x nodes
  pub waiting : (z : ℕ) → mark z ≡ 0 → IsReady g nodes (take from old) z → IsWaiting g old from z

-- looks at a node's feeders, and at its followers
abbrev pub looks_back : Graph → ℕ → ℕ
looks_back g x = length (g.feeders x) + 1

abbrev pub looks_on : Graph → ℕ → ℕ
looks_on g x = length (g.followers x) + 1

-- each node of the chain is at its place, and the other nodes are nowhere
pub record IsSeated (nodes chain : List ℕ) (place : ℕ → ℕ) : Type 0 where
  pub placed : ArePlaced chain place
  pub away : (x : ℕ) → 0 < tally x nodes → tally x chain ≡ 0 → place x ≡ nowhere

-- how the stuck list stands to the old chain
pub record IsBeside (g : Graph) (nodes old stuck : List ℕ) (was mark : ℕ → ℕ) : Type 0 where
  pub held : (x : ℕ) → 0 < tally x nodes → was x ≡ nowhere → tally x stuck ≡ 1
  pub not_held : (x : ℕ) → (was x ≡ nowhere → ⊥) → tally x stuck ≡ 0
  pub held_nodes : (x : ℕ) → 0 < tally x stuck → 0 < tally x nodes
  pub reach : (x : ℕ) → 0 < tally x nodes → (was x ≡ nowhere → ⊥) → (0 < tally x old) ⊎ (0 < mark x)
  pub range : (x : ℕ) → 0 < tally x nodes → (was x < length old) ⊎ (length nodes ≤ was x)
  pub held_by_rank : AreByRank g stuck

-- nothing was ready any more
pub record IsEnded (g : Graph) (nodes chain stuck : List ℕ) (place : ℕ → ℕ) : Type 0 where
  pub order : IsOrder g nodes chain stuck
  pub seated : IsSeated nodes chain place

-- after k places the listed sets met
pub record IsMet (g : Graph) (nodes old chain : List ℕ) (from k : ℕ) (was place : ℕ → ℕ) : Type 0 where
  pub low : from < k
  pub high : k ≤ length chain
  pub high_old : k ≤ length old
  pub begun : AreNext g nodes [] (take k chain)
  pub front : take from (take k chain) ≡ take from old
  pub on : drop k chain ≡ drop k old
  pub same : (x : ℕ) → tally x (take k chain) ≡ tally x (take k old)
  pub front_placed : (x : ℕ) → 0 < tally x (take k chain) → (place x < k) × (slice_index chain (place x) ≡ x)
  pub rest_placed : (x : ℕ) → tally x (take k chain) ≡ 0 → place x ≡ was x

-- where the chain of a graph with one wire less into v leaves the old one
pub record IsStart (g : Graph) (old : List ℕ) (v from : ℕ) : Type 0 where
  pub low : from ≤ length old
  pub fed : missing (take from old) (g.feeders v) ≡ 0
  pub before : (k : ℕ) → k < from → (slice_index old k ≡ v → ⊥) × ((0 < missing (take k old) (g.feeders v)) ⊎ (g.rank (slice_index old k) ≤ g.rank v))
  pub behind : from < length old → (slice_index old from ≡ v) ⊎ (g.rank v ≤ g.rank (slice_index old from))

-- after k places of the chain, and no sooner, all that feeds v is listed
abbrev pub IsFedAfter : Graph → List ℕ → ℕ → ℕ → Type 0
IsFedAfter g chain v k = (k ≤ length chain) × (missing (take k chain) (g.feeders v) ≡ 0) × ((j : ℕ) → j < k → 0 < missing (take j chain) (g.feeders v))

-- a node of higher rank than v stands at a place from `from` to before `to`
abbrev pub IsHigherBetween : Graph → List ℕ → ℕ → ℕ → ℕ → Type 0
IsHigherBetween g chain from to v = (i : ℕ) × (from ≤ i) × (i < to) × (g.rank v < g.rank (slice_index chain i))

-- x is passed in the old chain, or fed by what is listed from `from` on
abbrev pub IsPassed : List ℕ → ℕ → ℕ → ℕ → Type 0
IsPassed old from passed x = (i : ℕ) × (from ≤ i) × (i < passed) × (slice_index old i ≡ x)

abbrev pub IsFedBy : Graph → List ℕ → ℕ → ℕ → Type 0
IsFedBy g listed from x = (u : ℕ) × (0 < tally u (drop from listed)) × (0 < tally u (g.feeders x))

-- why each known node is known, and how far the old places of what is listed go
pub record IsTraced (g : Graph) (old listed : List ℕ) (from passed far : ℕ) (was mark0 mark : ℕ → ℕ) : Type 0 where
  pub why : (x : ℕ) → 0 < mark x → (0 < mark0 x) ⊎ (IsPassed old from passed x ⊎ IsFedBy g listed from x)
  pub attained : (far ≡ from) ⊎ ((x : ℕ) × (0 < tally x listed) × (was x + 1 ≡ far))
