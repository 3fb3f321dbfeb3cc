use Rattle.std.proofs.Common.{◌≡◌, ◌≤◌, drop, length, reverse, vec_capacity}
use Rattle.pd_turning.specs.Notes.{notes_of}
use Rattle.pd_turning.proofs.noting.note_wires.Given as goal

abbrev pub invariant-loop-i : goal.invariant-loop-i
invariant-loop-i l = record {
  within : l.i ≤ length l.wires;
  noted : l.notes.items ≡ reverse (drop l.i (notes_of l.web l.wires));
  room : length l.wires ≤ vec_capacity l.notes;
}

abbrev pub decreases-loop-i : goal.decreases-loop-i
decreases-loop-i l = l.i
