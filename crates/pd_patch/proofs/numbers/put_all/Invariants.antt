use Rattle.pd_patch.specs.Numbers.{AreApart, AreUnderFirst, Spares}
use Rattle.pd_patch.proofs.numbers.put_all.Given as goal

abbrev pub invariant-loop-i : goal.invariant-loop-i
invariant-loop-i l = record {
  under : AreApart l.keys → AreUnderFirst l.i l.numbers.items l.keys;
  others : Spares l.fn.numbers.items l.numbers.items l.keys;
}
