use Rattle.std.proofs.Common.{◌∙◌, sym}
use Rattle.pd_num.proofs.ReadLemmas.{all_digits_are}
use Rattle.pd_num.proofs.reading.exponent.Goals as goal

pub power-requires : goal.power-requires
power-requires c = (all_digits_are c.sign-negative.result.1.now (sym c.are_digits.ensures ∙ c.if-are_digits.true)).1
