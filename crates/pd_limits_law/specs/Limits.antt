-- How many wires a running patch has.
use Rattle.std.specs.Prelude.{◌≤◌, ◌⊎◌, ℕ, length}
use Rattle.pd_grove.specs.TextOrder.{keys_in_order}
use Rattle.pd_web.specs.Changes.{wires_told}
use Rattle.pd_present.specs.Presents.{wires_among}
use Rattle.pd_patch.specs.declared.patch.Patch.{Patch}

-- how many wires leave the boxes of all canvases
abbrev pub wires_leaving : Patch → ℕ
wires_leaving p = length (wires_among p.web p.numbers.items (keys_in_order p.grove))

-- the web has no more wires than a patch may have, or no more leave the boxes
abbrev pub HasFewWires : Patch → Type 0
HasFewWires p = (wires_told p.web ≤ 65536) ⊎ (wires_leaving p ≤ 65536)
