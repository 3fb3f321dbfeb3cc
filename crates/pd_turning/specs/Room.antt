-- Room for wires that come back.
use Rattle.std.specs.Prelude.{◌≡◌, ◌<◌, ◌+◌, ◌*◌, ◌==◌, ◌⊎◌, ℕ, cond, List, [], ◌∷◌, length, slice_get, Some}
use Rattle.pd_links.specs.Linked.{TakesFrom, TakesInto}
use Rattle.pd_web.specs.Changes.{HasRoom}
use Rattle.pd_patch.specs.declared.patch.Patch.{Patch}
use Rattle.pd_misfits.specs.declared.wires.BoxWire.{BoxWire}

-- how many of these wires come from a box, and how many lead to it
abbrev pub count_from : List BoxWire → ℕ → ℕ
count_from [] x = 0
count_from (m ∷ ms) x = cond (m.line.source == x) 1 0 + count_from ms x

abbrev pub count_into : List BoxWire → ℕ → ℕ
count_into [] x = 0
count_into (m ∷ ms) x = cond (m.line.sink == x) 1 0 + count_into ms x

-- so many wires from the box of the one at a place are to be reckoned with: all of the list that come from there, or none where one before it does
abbrev pub NeedsFrom : List BoxWire → ℕ → BoxWire → ℕ → Type 0
NeedsFrom ms i m n = (n ≡ count_from ms m.line.source) ⊎ ((j : ℕ) × (o : BoxWire) × (j < i) × (slice_get ms j ≡ Some o) × (o.line.source ≡ m.line.source))

-- the same of wires to its box
abbrev pub NeedsInto : List BoxWire → ℕ → BoxWire → ℕ → Type 0
NeedsInto ms i m n = (n ≡ count_into ms m.line.sink) ⊎ ((j : ℕ) × (o : BoxWire) × (j < i) × (slice_get ms j ≡ Some o) × (o.line.sink ≡ m.line.sink))

-- there is room for all of these wires to come, one after the other
pub record TakesBack (p : Patch) (ms : List BoxWire) : Type 0 where
  pub web : HasRoom p.web 0 (2 * length ms) (length ms)
  pub from : (x : ℕ) → TakesFrom p.links x (count_from ms x)
  pub into : (x : ℕ) → TakesInto p.links x (count_into ms x)
