use Rattle.std.proofs.Common.{codes}
use Rattle.pd_made.proofs.TableLemmas.{place_kept, words_are}
use Rattle.pd_made.proofs.words.bring_words.Goals as goal

pub returns-clause-there : goal.returns-clause-there
returns-clause-there c = record {
  output =
      place_kept c.symbol_of-oscillator.new.symbols c.symbol_of-factor.new.symbols (codes "dac~") c.symbol_of-output.result
      c.symbol_of-factor.ensures.extends c.symbol_of-factor.ensures.table
      (place_kept c.symbol_of-output.new.symbols c.symbol_of-oscillator.new.symbols (codes "dac~") c.symbol_of-output.result
      c.symbol_of-oscillator.ensures.extends c.symbol_of-oscillator.ensures.table c.symbol_of-output.ensures.place);
  oscillator =
      place_kept c.symbol_of-oscillator.new.symbols c.symbol_of-factor.new.symbols (codes "osc~") c.symbol_of-oscillator.result
      c.symbol_of-factor.ensures.extends c.symbol_of-factor.ensures.table c.symbol_of-oscillator.ensures.place;
  factor = c.symbol_of-factor.ensures.place;
}

pub returns-clause-value : goal.returns-clause-value
returns-clause-value c =
    words_are c.symbol_of-factor.new.symbols
    (record { output = c.symbol_of-output.result; oscillator = c.symbol_of-oscillator.result; factor = c.symbol_of-factor.result })
    (returns-clause-there c)
