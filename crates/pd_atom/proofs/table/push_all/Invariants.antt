use Rattle.std.proofs.Common.{◌≡◌, ◌≤◌, ◌+◌, take}
use Rattle.indexmap.specs.IndexSet.{spare}
use Rattle.pd_atom.specs.Stored.{bytes_of}
use Rattle.pd_atom.proofs.table.push_all.Given as goal

abbrev pub invariant-loop-name : goal.invariant-loop-name
invariant-loop-name l = record {
  names : bytes_of l.names.keys ≡ take l.name-index (bytes_of l.more);
  room : spare l.fn.names ≤ spare l.names + l.name-index;
}
