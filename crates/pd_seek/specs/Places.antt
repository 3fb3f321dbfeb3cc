-- Where a wire stands among the feeds of its inlet, and which wire leads along a line.
use Rattle.std.specs.Prelude.{◌≡◌, ◌≤◌, ◌<◌, ◌+◌, ◌⊎◌, ℕ, Bool, true, false, ◌==◌, ◌&&◌, ◌||◌, nat_lt, cond, List, [], ◌∷◌, length, slice_get, slice_index_or, Option, Some, None}
use Rattle.pd_web.specs.declared.web.Hop.{Hop}
use Rattle.pd_web.specs.declared.lines.Line.{Line}

-- the label of the box of a key; a key without one has the label 0
abbrev pub label_at : List ℕ → ℕ → ℕ
label_at labels k = slice_index_or labels k 0

-- the feed comes from a box of a greater label than the line, or from a later outlet of the same box
abbrev pub comes_later : List ℕ → Line → Hop → Bool
comes_later labels l h =
    nat_lt (label_at labels l.source) (label_at labels h.node) || label_at labels l.source == label_at labels h.node && nat_lt l.outlet h.port

-- the feeds from this place on come later than the line, and the one before it doesn't
pub record IsPlace (labels : List ℕ) (l : Line) (feeds : List Hop) (place : ℕ) : Type 0 where
  pub within : place ≤ length feeds
  pub behind : (i : ℕ) (h : Hop) → place ≤ i → slice_get feeds i ≡ Some h → comes_later labels l h ≡ true
  pub before : (i : ℕ) (h : Hop) → place ≡ i + 1 → slice_get feeds i ≡ Some h → comes_later labels l h ≡ false

-- one feed comes from a box of a smaller label than another, or from the same box and no later outlet
abbrev pub IsNoLater : List ℕ → Hop → Hop → Type 0
IsNoLater labels g h =
    (label_at labels g.node < label_at labels h.node) ⊎ ((label_at labels g.node ≡ label_at labels h.node) × (g.port ≤ h.port))

-- the feeds are in the order of the labels of their boxes and of the outlets of a box
abbrev pub AreInOrder : List ℕ → List Hop → Type 0
AreInOrder labels feeds = (i j : ℕ) (g h : Hop) → i ≤ j → slice_get feeds i ≡ Some g → slice_get feeds j ≡ Some h → IsNoLater labels g h

-- the first feed that comes later than the line
abbrev pub first_later : List ℕ → Line → List Hop → Option ℕ
first_later labels l [] = None
first_later labels l (h ∷ hs) = cond (comes_later labels l h) (Some h.key) (first_later labels l hs)

-- the wire leads to the line's inlet
abbrev pub leads_to : Line → Hop → Bool
leads_to l h = h.node == l.sink && h.port == l.inlet

-- the first of these wires that leads to the line's inlet
abbrev pub key_to : Line → List Hop → Option ℕ
key_to l [] = None
key_to l (h ∷ hs) = cond (leads_to l h) (Some h.key) (key_to l hs)
