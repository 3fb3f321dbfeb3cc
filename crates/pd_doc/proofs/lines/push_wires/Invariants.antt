use Rattle.std.proofs.Common.{◌≡◌, ◌++◌, drop}
use Rattle.pd_doc.specs.Lines.{wires_text}
use Rattle.pd_doc.proofs.lines.push_wires.Given as goal

abbrev pub invariant-loop-wire : goal.invariant-loop-wire
invariant-loop-wire l = l.out.items ++ wires_text l.symbols (drop l.wire-index l.wires) ≡ l.fn.out.items ++ wires_text l.symbols l.wires
