use Rattle.std.proofs.Common.{◌≡◌, ◌+◌, ◌≤◌, length, vec_capacity, vec_len}
use Rattle.pd_atom.specs.Names.{Extends}
use Rattle.pd_script.specs.Tokens.{most_tokens}
use Rattle.pd_script.specs.Tables.{AreOf}
use Rattle.pd_script.specs.Atoms.{atoms_of}
use Rattle.pd_script.proofs.AtomLemmas.{with_front}
use Rattle.pd_script.proofs.atoms.atoms.Given as goal

abbrev pub invariant-loop-token : goal.invariant-loop-token
invariant-loop-token l = record {
  exact : with_front l.out.items (atoms_of l.symbols l.tokens) ≡ atoms_of l.fn.symbols l.fn.tokens;
  room : vec_len l.out + length l.tokens ≤ most_tokens;
  capacity : vec_capacity l.out ≡ vec_capacity l.fn.out;
  of_table : AreOf l.symbols l.out.items;
  extends : Extends l.fn.symbols l.symbols;
}

abbrev pub decreases-loop-token : goal.decreases-loop-token
decreases-loop-token l = length l.tokens
