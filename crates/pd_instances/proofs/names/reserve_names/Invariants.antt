use Rattle.std.proofs.Common.{◌≡◌, ◌≢◌, ℕ, Some, length, take}
use Rattle.pd_name.specs.declared.Class.{Class}
use Rattle.pd_name.specs.Rows.{owners_of, OwnersStay}
use Rattle.pd_tree.specs.Trees.{stands_in}
use Rattle.pd_owning.specs.Bound.{HasRoom}
use Rattle.pd_instances.specs.Room.{owning_among}
use Rattle.pd_instances.proofs.names.reserve_names.Given as goal

abbrev pub invariant-loop-row : goal.invariant-loop-row
invariant-loop-row l = record {
  owners : OwnersStay l.fn.names l.names;
  table : l.symbols ≡ l.fn.symbols;
  counted : (class : Class) (name : ℕ) → length (owners_of l.counted class name) ≡ owning_among l.fn.symbols class name (stands_in (take l.row-index l.rows));
  room : (class : Class) (name : ℕ) → owning_among l.fn.symbols class name (stands_in (take l.row-index l.rows)) ≢ 0
      → HasRoom l.names (Some (class, name)) (owning_among l.fn.symbols class name (stands_in (take l.row-index l.rows)));
}
