-- The places at which two chains differ, and the wire ends that a mend may look at.
use Rattle.std.specs.Prelude.{◌≡◌, ℕ, ◌+◌, ◌-◌, ◌<◌, ◌≤◌, ◌==◌, ◌⊎◌, Bool, cond, not, ◌||◌, nat_lt, List, [], ◌∷◌, ◌++◌, length, take, drop, slice_get}
use Rattle.std.specs.List.{filter}
use Rattle.pd_order.specs.Graph.{Graph, tally, missing, total, ends}
use Rattle.pd_order.specs.Work.{IsPassed, IsFedBy, looks_on, looks_back}

-- the chains have the same at i: the same node, or nothing
abbrev pub Agree : List ℕ → List ℕ → ℕ → Type 0
Agree old new i = slice_get old i ≡ slice_get new i

-- outside the places from a to before b the chains agree
abbrev pub IsWindow : List ℕ → List ℕ → ℕ → ℕ → Type 0
IsWindow old new a b = (i : ℕ) → (i < a) ⊎ (b ≤ i) → Agree old new i

-- the nodes that stand there in either chain
abbrev pub standing : List ℕ → List ℕ → ℕ → ℕ → List ℕ
standing old new a b = drop a (take b old) ++ drop a (take b new)

-- a node that is one of ws, or that one of them feeds
abbrev pub is_near : Graph → List ℕ → ℕ → Bool
is_near g ws x = not (tally x ws == 0) || nat_lt (missing ws (g.feeders x)) (length (g.feeders x))

-- the wire ends at the nodes that stand in the window and at those that they feed
abbrev pub window_ends : Graph → List ℕ → List ℕ → List ℕ → ℕ → ℕ → ℕ
window_ends g nodes old new a b = total (ends g) (filter (is_near g (standing old new a b)) nodes)

-- the first place at which the chains differ, which is their length where they are equal
unfoldable pub first_difference : List ℕ → List ℕ → ℕ
first_difference [] ys = 0
first_difference (x ∷ xs) [] = 0
first_difference (x ∷ xs) (y ∷ ys) = cond (x == y) (first_difference xs ys + 1) 0

-- one past the last place at which the chains differ, or 0 where they are equal
unfoldable pub differences_end : List ℕ → List ℕ → ℕ
differences_end [] ys = length ys
differences_end (x ∷ xs) [] = length xs + 1
differences_end (x ∷ xs) (y ∷ ys) = cond (differences_end xs ys == 0) (cond (x == y) 0 1) (differences_end xs ys + 1)

-- how many places there are from the first difference to the last
abbrev pub changed_places : List ℕ → List ℕ → ℕ
changed_places old new = differences_end old new - first_difference old new

-- the wire ends at the nodes that stand at those places in either chain, and at those that they feed
abbrev pub changed_ends : Graph → List ℕ → List ℕ → List ℕ → ℕ
changed_ends g nodes old new = window_ends g nodes old new (first_difference old new) (differences_end old new)

-- what a run has looked at: the feeders of what is known, and the followers of what it listed
pub record IsLooked (g : Graph) (nodes old new : List ℕ) (from listed passed : ℕ) (mark0 : ℕ → ℕ) (before steps after : ℕ) : Type 0 where
  pub known : List ℕ
  pub known_once : (x : ℕ) → tally x known ≤ 1
  pub known_nodes : (x : ℕ) → 0 < tally x known → 0 < tally x nodes
  pub why : (x : ℕ) → 0 < tally x known → (0 < mark0 x) ⊎ (IsPassed old from passed x ⊎ IsFedBy g (take listed new) from x)
  pub new_once : (x : ℕ) → tally x (take listed new) ≤ 1
  pub new_nodes : (x : ℕ) → 0 < tally x (take listed new) → 0 < tally x nodes
  pub listed_new : listed ≤ length new
  pub passed_old : passed ≤ length old
  pub from_listed : from ≤ listed
  pub looks : after + before ≡ steps + total (looks_on g) (drop from (take listed new)) + total (looks_back g) known

-- a place where the chains differ, as far as the run came
pub record IsWide (old new : List ℕ) (from listed passed : ℕ) : Type 0 where
  pub last : ℕ
  pub last_from : from ≤ last
  pub last_passed : passed ≤ last + 1
  pub last_listed : listed ≤ last + 1
  pub last_differs : Agree old new last → Agree old new from

-- how far a run came until the sets met, or until nothing was ready
abbrev pub HasMet : List ℕ → List ℕ → ℕ → ℕ → ℕ → (ℕ → ℕ) → Type 0
HasMet old new from listed passed was = (listed ≤ length old) × (passed ≤ listed) × (from < listed) × ((listed ≡ from + 1) ⊎ ((x : ℕ) × (0 < tally x (take (listed - 1) new)) × (was x + 1 ≡ listed)))

abbrev pub HasEnded : List ℕ → List ℕ → ℕ → ℕ → ℕ → (ℕ → ℕ) → Type 0
HasEnded old new from listed passed was = (passed ≡ length old) × (listed ≡ length new) × ((listed ≡ from) ⊎ ((x : ℕ) × (0 < tally x new) × (listed ≤ was x)))

pub record IsReached (g : Graph) (nodes old new : List ℕ) (from : ℕ) (was mark0 : ℕ → ℕ) (before steps after : ℕ) : Type 0 where
  pub listed : ℕ
  pub passed : ℕ
  pub front : take from new ≡ take from old
  pub looked : IsLooked g nodes old new from listed passed mark0 before steps after
  pub reach : HasMet old new from listed passed was ⊎ HasEnded old new from listed passed was
