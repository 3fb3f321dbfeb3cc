use Rattle.std.proofs.Common.{◌≡◌, ◌≤◌, ◌+◌, ◌-◌, ◌*◌, ◌++◌, List, length, drop, map}
use Rattle.std.specs.List.{flat_map}
use Rattle.pd_hearing.specs.Worlds.{net_of}
use Rattle.pd_stack.specs.Tasks.{Task, sent}
use Rattle.pd_stack.specs.Piles.{AllLie, AreLeft, send_at}
use Rattle.pd_stack.proofs.sending.push_rows.Given as goal

abbrev pub invariant-loop-i : goal.invariant-loop-i
invariant-loop-i l = record {
  lie : AllLie l.floor l.stack.pendings;
  floor : l.floor ≤ l.full;
  room : length l.stack.pendings ≤ 1025 * l.depth + 1 + l.i;
  atoms : l.stack.atoms ≡ l.fn.stack.atoms;
  left : (tasks : List Task) → AreLeft (net_of l.patch) l.fn.stack.atoms l.fn.stack.pendings tasks → AreLeft (net_of l.patch) l.fn.stack.atoms l.stack.pendings
      (flat_map (sent (net_of l.patch) (l.depth + 1) l.node) (map (send_at l.base l.fn.stack.atoms) (drop (length l.rows - l.i) l.rows)) ++ tasks);
}
