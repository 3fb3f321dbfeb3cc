use Rattle.std.proofs.Common.{◌≡◌, ◌++◌, map, take}
use Rattle.std.specs.List.{All}
use Rattle.pd_atom.specs.Atoms.{IsOf}
use Rattle.pd_atom.specs.Tokens.{settled}
use Rattle.pd_message.proofs.edits.put_settled.Given as goal

abbrev pub invariant-loop-atom : goal.invariant-loop-atom
invariant-loop-atom l = record {
  text : l.text ≡ l.fn.text ++ map (settled l.symbols) (take l.atom-index l.atoms);
  of_table : All (IsOf l.symbols) l.text;
}
