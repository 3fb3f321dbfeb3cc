use Rattle.std.proofs.Common.{◌≡◌, ◌++◌}
use Rattle.std.specs.List.{flat_map, range_with_len}
use Rattle.pd_present.specs.Presents.{outlet_wires}
use Rattle.pd_present.proofs.wires.push_box_wires.Given as goal

abbrev pub invariant-loop-outlet : goal.invariant-loop-outlet
invariant-loop-outlet l = l.wires.items ≡ l.fn.wires.items ++ flat_map (outlet_wires l.web l.numbers l.key) (range_with_len 0 l.outlet)
