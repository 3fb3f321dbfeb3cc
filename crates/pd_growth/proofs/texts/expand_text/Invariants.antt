use Rattle.std.proofs.Common.{◌≡◌, length, drop}
use Rattle.std.specs.List.{All}
use Rattle.pd_atom.specs.Names.{Extends}
use Rattle.pd_atom.specs.Atoms.{IsOf}
use Rattle.pd_growth.specs.Steps.{text_expanded}
use Rattle.pd_growth.proofs.TextLemmas.{Whole}
use Rattle.pd_growth.proofs.texts.expand_text.Given as goal

abbrev pub invariant-loop-atom : goal.invariant-loop-atom
invariant-loop-atom l = record {
  exact : Whole l.zero l.arguments l.atoms.items l.symbols (drop l.atom-index l.text) (text_expanded l.zero l.arguments l.text l.fn.symbols);
  of_table : All (IsOf l.symbols) l.atoms.items;
  same : length l.atoms.items ≡ l.atom-index;
  extends : Extends l.fn.symbols l.symbols;
}
