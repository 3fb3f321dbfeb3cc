-- Wires of a running patch that fit.
use Rattle.std.specs.Prelude.{◌≡◌, ℕ, true}
use Rattle.std.specs.List.{AllByRecursion}
use Rattle.pd_tree.specs.Ports.{fits}
use Rattle.pd_web.specs.Canvases.{keys_at}
use Rattle.pd_web.specs.Hops.{boxes_told}
use Rattle.pd_present.specs.Presents.{wires_among}
use Rattle.pd_patch.specs.declared.patch.Patch.{Patch}

-- each wire that is saved fits: in each canvas, between the ports that its boxes have
pub record WiresFit (p : Patch) : Type 0 where
  pub all : (c : ℕ) → AllByRecursion (λ v. fits (boxes_told p.web (keys_at p.grove c)) v ≡ true) (wires_among p.web p.numbers.items (keys_at p.grove c))

-- Two canvases, of one patch and of another, whose boxes have the same ports, and which save the same wires: so each outlet has the same
-- fan-out, by the numbers of the boxes.
pub record HaveSameWires (p : Patch) (c : ℕ) (q : Patch) (d : ℕ) : Type 0 where
  pub ports : boxes_told q.web (keys_at q.grove d) ≡ boxes_told p.web (keys_at p.grove c)
  pub wires : wires_among q.web q.numbers.items (keys_at q.grove d) ≡ wires_among p.web p.numbers.items (keys_at p.grove c)
