use Rattle.std.proofs.Common.{refl, sym, length}
use Rattle.std.proofs.lemmas.List.{take_all}
use Rattle.std.proofs.lemmas.Bool.{le-ltb}
use Rattle.pd_engine.proofs.messages.whole.Goals as goal

pub returns : goal.returns
returns c = record {
  selector = refl;
  atoms = sym (take_all 1024 c.args.atoms.now c.requires);
  is_cut = sym (le-ltb 1024 (length c.args.atoms.now) c.requires);
}
