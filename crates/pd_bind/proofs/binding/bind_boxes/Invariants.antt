use Rattle.std.proofs.Common.{◌≡◌, ℕ, ◌++◌, take}
use Rattle.slab.specs.Slab.{get}
use Rattle.pd_name.specs.declared.Class.{Class}
use Rattle.pd_name.specs.Rows.{owners_of}
use Rattle.pd_bind.specs.Owning.{boxes_owning}
use Rattle.pd_bind.proofs.binding.bind_boxes.Given as goal

abbrev pub invariant-loop-spot : goal.invariant-loop-spot
invariant-loop-spot l = record {
  table : l.symbols ≡ l.fn.symbols;
  owners : (class : Class) (name : ℕ) → owners_of l.names class name
      ≡ owners_of l.fn.names class name ++ boxes_owning l.fn.symbols (get l.grove.nodes) class name (take l.spot-index l.spots);
}
